use Rattle.std.proofs.Common.{◌≡◌}
use Rattle.marking.specs.Rounds.{Round}
use Rattle.marking.proofs.graph.Drawing.round.Given as goal

abbrev pub invariant-loop-i : goal.invariant-loop-i
invariant-loop-i g l = record {
  size : l.order.size ≡ l.self.nodes.size;
  round : Round (g.M.Machine.lists l.self.machine.now) l.self.nodes l.self.firsts.now l.initial.order.cells.now l.order.cells.now l.changed l.i;
}
