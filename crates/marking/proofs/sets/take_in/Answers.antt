use Rattle.std.proofs.Common.{arith}
use Rattle.marking.proofs.Cells.{line_gains}
use Rattle.marking.proofs.sets.take_in.Goals as goal

pub returns : goal.returns
returns g c = λ h lt e. line_gains _ _ _ _ _ (g.S.Source.has c.args.set) lt e (omega arith) c.unite.ensures
