use Rattle.std.proofs.Common.{ℕ, ◌<◌, length}
use Rattle.marking.specs.Relations.{Member, Share}
use Rattle.marking.proofs.sets.share.Given as goal

abbrev pub invariant-loop-word : goal.invariant-loop-word
invariant-loop-word l = (0 < l.common → Share l.set l.other) × ((z : ℕ) → z < length l.yielded → Member l.set z → Member l.other z → 0 < l.common)
