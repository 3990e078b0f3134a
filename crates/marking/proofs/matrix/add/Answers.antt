use Rattle.marking.proofs.Cells.{adds_one}
use Rattle.marking.proofs.matrix.add.Goals as goal

pub returns : goal.returns
returns c = λ h lt e. adds_one _ _ _ _ _ c.requires.0 lt e
