use Rattle.marking.specs.Reach.{Sinks}
use Rattle.marking.proofs.edges.Edges.sink.Given as goal

abbrev pub invariant-loop-x : goal.invariant-loop-x
invariant-loop-x l = Sinks l.self l.initial.set l.set l.changed l.x
