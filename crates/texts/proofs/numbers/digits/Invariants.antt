-- The number so far and the digits that are left make the whole number.
use Rattle.std.proofs.Common.{◌≡◌, length}
use Rattle.texts.specs.Reading.{read_digits}
use Rattle.texts.proofs.numbers.digits.Given as goal

abbrev pub invariant-loop-rest : goal.invariant-loop-rest
invariant-loop-rest l = read_digits l.value l.rest ≡ read_digits 0 l.text

abbrev pub decreases-loop-rest : goal.decreases-loop-rest
decreases-loop-rest l = length l.rest
