use Rattle.tables.proofs.Opening.{enough}
use Rattle.tables.proofs.open.enough_bytes.Goals as goal

pub returns : goal.returns
returns c = enough
