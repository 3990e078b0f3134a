use Rattle.std.proofs.Common.{◌<◌}
use Rattle.marking.specs.Relations.{Gains}
use Rattle.marking.proofs.sets.unite.Given as goal

abbrev pub invariant-loop-x : goal.invariant-loop-x
invariant-loop-x g l = Gains l.initial.set l.set (λ z. g.S.Source.has l.other z × (z < l.x))
