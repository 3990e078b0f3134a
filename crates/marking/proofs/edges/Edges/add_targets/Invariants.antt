use Rattle.std.proofs.Common.{◌<◌}
use Rattle.marking.specs.Relations.{Gains, Holds}
use Rattle.marking.proofs.edges.Edges.add_targets.Given as goal

abbrev pub invariant-loop-y : goal.invariant-loop-y
invariant-loop-y l = Gains l.initial.set l.set (λ z. Holds l.self.cells.now l.self.nodes.size l.x z × (z < l.y))
