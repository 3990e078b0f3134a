use Rattle.marking.specs.Relations.{zeros}
use Rattle.marking.proofs.Sinking.{Sunk}
use Rattle.marking.proofs.graph.Joined.find_ahead.Given as goal

abbrev pub invariant-loop : goal.invariant-loop
invariant-loop g l = Sunk l.self.edges l.initial.set l.set

abbrev pub decreases-loop : goal.decreases-loop
decreases-loop g l = zeros l.set
