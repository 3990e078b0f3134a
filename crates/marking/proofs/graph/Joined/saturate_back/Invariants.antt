use Rattle.std.proofs.Common.{◌≡◌, length}
use Rattle.marking.specs.Relations.{zeros}
use Rattle.marking.proofs.Goodness.{Backed}
use Rattle.marking.proofs.graph.Joined.saturate_back.Given as goal

abbrev pub invariant-loop-work : goal.invariant-loop-work
invariant-loop-work g l = record {
  sizes : (l.good.size ≡ l.initial.good.size) × (length l.work.pending.now ≡ length l.initial.work.pending.now);
  backed : Backed (g.M.Machine.lists l.self.machine.now) l.self.edges l.self.firsts.now l.initial.good.cells.now l.good.cells.now l.work.pending.now l.good.touched.now;
}

abbrev pub decreases-loop-work : goal.decreases-loop-work
decreases-loop-work g l = zeros l.good.cells.now
