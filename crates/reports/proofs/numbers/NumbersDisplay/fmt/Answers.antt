-- One number more at each turn, and none left at the end.
use Rattle.std.proofs.Common.{arith, rules}
use Rattle.std.proofs.Output.{has_written_append, has_written_of_eq}
use Rattle.reports.proofs.Steps.{spaced_more}
use Rattle.reports.proofs.numbers.NumbersDisplay.fmt.Goals as goal

pub loop-number-preserved : goal.loop-number-preserved
loop-number-preserved g c = λ p.
    has_written_of_eq _ _ _ _ _ (spaced_more c.args.self.now.0.now c.loop-number.number-index (omega arith))
    (has_written_append _ _ _ _ _ _ (c.loop-number.invariant p) (search rules))
