use Rattle.std.proofs.Common.{◌≡◌}
use Rattle.marking.specs.Relations.{zeros}
use Rattle.marking.proofs.Rounding.{Reached}
use Rattle.marking.proofs.graph.Drawing.saturate.Given as goal

abbrev pub invariant-loop : goal.invariant-loop
invariant-loop g l = record {
  size : l.order.size ≡ l.initial.order.size;
  reached : Reached (g.M.Machine.lists l.self.machine.now) l.self.nodes l.self.firsts.now l.initial.order.cells.now l.order.cells.now;
}

abbrev pub decreases-loop : goal.decreases-loop
decreases-loop g l = zeros l.order.cells.now
