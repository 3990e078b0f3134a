use Rattle.machine.specs.Rows.{symbols_of}
use Rattle.marking.specs.Drawing.{DrewWord}
use Rattle.marking.proofs.drawing.draw_word.Given as goal

abbrev pub invariant-loop-k : goal.invariant-loop-k
invariant-loop-k l = DrewWord (symbols_of l.fn.word) l.base l.prev l.initial.labels l.initial.nexts l.labels l.nexts l.k l.last
