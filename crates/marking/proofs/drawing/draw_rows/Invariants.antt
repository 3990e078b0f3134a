use Rattle.marking.specs.Drawing.{DrewRows}
use Rattle.marking.proofs.drawing.draw_rows.Given as goal

abbrev pub invariant-loop-i : goal.invariant-loop-i
invariant-loop-i g l = DrewRows (g.M.Machine.lists l.m) l.low l.labels l.nexts l.first-items l.i l.base
