use Rattle.marking.specs.Reach.{Rises}
use Rattle.marking.proofs.edges.Edges.rise.Given as goal

abbrev pub invariant-loop-x : goal.invariant-loop-x
invariant-loop-x l = Rises l.self l.initial.set l.set l.changed l.x
