use Rattle.std.proofs.Common.{◌≡◌}
use Rattle.marking.specs.Rounds.{BackRound}
use Rattle.marking.proofs.graph.Joined.back_round.Given as goal

abbrev pub invariant-loop-i : goal.invariant-loop-i
invariant-loop-i g l = record {
  size : l.good.size ≡ l.initial.good.size;
  pending : l.work.pending.now ≡ l.initial.work.pending.now;
  round : BackRound (g.M.Machine.lists l.self.machine.now) l.self.edges l.self.firsts.now l.initial.work.pending.now l.initial.good.cells.now l.good.cells.now l.initial.good.touched.now l.good.touched.now l.changed l.i;
}
