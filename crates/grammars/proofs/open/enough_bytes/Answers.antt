use Rattle.grammars.proofs.Opening.{enough}
use Rattle.grammars.proofs.open.enough_bytes.Goals as goal

pub returns : goal.returns
returns c = enough
