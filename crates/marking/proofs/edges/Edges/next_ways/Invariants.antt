use Rattle.std.proofs.Common.{◌≡◌}
use Rattle.marking.specs.Relations.{Adds}
use Rattle.marking.specs.Ways.{Comes}
use Rattle.marking.proofs.edges.Edges.next_ways.Given as goal

abbrev pub invariant-loop-x : goal.invariant-loop-x
invariant-loop-x l = Adds l.initial.ways l.ways l.self.nodes.size 11 (λ u v. (v ≡ l.j) × Comes l.self l.label l.levels l.initial.ways l.j l.x u)
