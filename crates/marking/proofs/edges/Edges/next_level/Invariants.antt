use Rattle.std.proofs.Common.{◌≡◌, ◌+◌}
use Rattle.marking.specs.Relations.{Adds}
use Rattle.marking.specs.Nodes.{Leads}
use Rattle.marking.proofs.edges.Edges.next_level.Given as goal

abbrev pub invariant-loop-x : goal.invariant-loop-x
invariant-loop-x l = Adds l.initial.levels l.levels l.self.nodes.size 11 (λ u v. (v ≡ l.j + 1) × Leads l.self l.label l.initial.levels l.j l.x u)
