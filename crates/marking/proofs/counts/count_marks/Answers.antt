use Rattle.std.proofs.Common.{rules}
use Rattle.marking.proofs.Counting.{count_if_is, counts_same}
use Rattle.marking.proofs.counts.count_marks.Goals as goal

pub returns : goal.returns
returns c = counts_same _ _ (rw count_if_is (search rules)) (rw count_if_is (search rules))
