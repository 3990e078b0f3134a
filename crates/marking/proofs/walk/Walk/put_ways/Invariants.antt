use Rattle.std.proofs.Common.{◌≡◌}
use Rattle.marking.specs.Relations.{Steps, Touches}
use Rattle.marking.proofs.Leaving.{LeavesOne}
use Rattle.marking.proofs.walk.Walk.put_ways.Given as goal

abbrev pub invariant-loop-j : goal.invariant-loop-j
invariant-loop-j l = record {
  size : l.good.size ≡ l.self.step.edges.nodes.size;
  steps : Steps l.initial.good.cells.now l.good.cells.now l.self.step.edges.nodes.size (LeavesOne l.self.step.edges l.self.step.popped.symbols l.self.levels.now l.self.ways.now l.j) l.changed;
  touches : Touches l.initial.good.cells.now l.good.cells.now l.self.step.edges.nodes.size l.initial.good.touched.now l.good.touched.now l.changed;
}
