-- What is pushed, before the bytes of the pairs that are left, is the whole.
use Rattle.std.proofs.Common.{vec_items}
use Rattle.hexadecimal.proofs.Pairs.{Left}
use Rattle.hexadecimal.proofs.decoding.decoded.Given as goal

abbrev pub invariant-loop-high : goal.invariant-loop-high
invariant-loop-high l = Left l.pairs l.high-index (vec_items l.bytes)
