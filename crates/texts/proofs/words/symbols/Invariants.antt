-- The symbols so far, with those that are left, are all.
use Rattle.std.proofs.Common.{◌≡◌}
use Rattle.texts.proofs.Somes.{Filled}
use Rattle.texts.proofs.words.symbols.Given as goal

abbrev pub invariant-loop-place : goal.invariant-loop-place
invariant-loop-place l = record { count : l.word.0 ≡ l.place-index; filled : Filled l.text l.place-items l.place-index l.rest }
