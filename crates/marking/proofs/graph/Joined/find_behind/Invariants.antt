use Rattle.marking.specs.Relations.{zeros}
use Rattle.marking.proofs.Reaching.{Risen}
use Rattle.marking.proofs.graph.Joined.find_behind.Given as goal

abbrev pub invariant-loop : goal.invariant-loop
invariant-loop g l = Risen l.self.edges l.initial.set l.set

abbrev pub decreases-loop : goal.decreases-loop
decreases-loop g l = zeros l.set
