-- The theorem that the contract of level_theory asks for.
use Rattle.theory.proofs.Leveled.{leveling}
use Rattle.theory.proofs.level_theory.Goals as goal

pub returns : goal.returns
returns c = λ g e word q own loops. leveling g e word q loops own
