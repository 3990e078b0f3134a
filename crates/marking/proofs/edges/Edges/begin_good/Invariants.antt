use Rattle.std.proofs.Common.{◌≡◌, ◌<◌}
use Rattle.marking.specs.Relations.{Adds}
use Rattle.marking.specs.Rounds.{Between}
use Rattle.marking.proofs.edges.Edges.begin_good.Given as goal

abbrev pub invariant-loop-y : goal.invariant-loop-y
invariant-loop-y l = record {
  size : l.good.size ≡ l.self.nodes.size;
  adds : Adds l.initial.good.cells.now l.good.cells.now l.self.nodes.size l.self.nodes.size (λ u v. Between l.self.cells.now l.self.nodes.size l.ahead l.behind u v × (v < l.y));
}
