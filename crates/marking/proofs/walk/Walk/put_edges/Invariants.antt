use Rattle.std.proofs.Common.{◌≡◌}
use Rattle.marking.specs.Relations.{Steps, Touches}
use Rattle.marking.specs.Ways.{Leaves}
use Rattle.marking.proofs.walk.Walk.put_edges.Given as goal

abbrev pub invariant-loop-x : goal.invariant-loop-x
invariant-loop-x l = record {
  size : l.good.size ≡ l.n;
  steps : Steps l.initial.good.cells.now l.good.cells.now l.n (Leaves l.edges l.label l.self.levels.now l.self.ways.now l.j l.x) l.changed;
  touches : Touches l.initial.good.cells.now l.good.cells.now l.n l.initial.good.touched.now l.good.touched.now l.changed;
}
