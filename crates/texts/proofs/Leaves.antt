-- A reader takes from the front, so no more is left than was there.
use Rattle.std.proofs.Common.{◌≡◌, ℕ, zero, suc, ◌+◌, ◌*◌, ◌-◌, ◌≤◌, ◌<◌, Bool, true, false, cond, eqb, ltb, List, [], ◌∷◌, length, Some, None, codes, Option, IfSome, subst, arith}
use Rattle.std.specs.Char.{is_ascii_digit}
use Rattle.machine.specs.declared.row.Row.{Row}
use Rattle.texts.specs.Reading.{Read, read, either, and_then, ended, after, digit_first, read_digits, read_number, read_byte, read_spaced, put_front, read_some, read_word, read_after, read_row}

-- What was read, if anything, leaves at most n bytes.
abbrev Leaves : {X : Type 0} → ℕ → Option (Read X) → Type 0
Leaves n o = IfSome o (λ r. length r.rest ≤ n)

-- A reader that leaves at most the bytes that were there.
abbrev Takes : {X : Type 0} → (List ℕ → Option (Read X)) → Type 0
Takes reader = (bs : List ℕ) (n : ℕ) → length bs ≤ n → Leaves n (reader bs)

past_word : (word bs : List ℕ) (n : ℕ) → length bs ≤ n + length word → IfSome (after word bs) (λ rest. length rest ≤ n)
past_word [] bs n h = omega arith
past_word (c ∷ word) [] n h = tt
past_word (c ∷ word) (b ∷ bs) n h = by (eqb b c) (past_word word bs n (omega arith))
  where
    by : (t : Bool) → IfSome (after word bs) (λ rest. length rest ≤ n) → IfSome (cond t (after word bs) None) (λ rest. length rest ≤ n)
    by false k = tt
    by true k = k

module _ {X : Type 0} (n : ℕ) where
  chosen : (t : Bool) (x y : Option (Read X)) → Leaves n x → Leaves n y → Leaves n (cond t x y)
  chosen false x y h k = k
  chosen true x y h k = h

  then : {Y : Type 0} (o : Option (Read Y)) (k : Read Y → Option (Read X)) → Leaves n o
      → ((y : Read Y) → length y.rest ≤ n → Leaves n (k y)) → Leaves n (and_then o k)
  then None k h f = tt
  then (Some y) k h f = f y h

  past_then : (o : Option (List ℕ)) (reader : List ℕ → Option (Read X)) → IfSome o (λ rest. length rest ≤ n) → Takes reader → Leaves n (and_then o reader)
  past_then None reader h f = tt
  past_then (Some rest) reader h f = f rest n h

digits_take : (m : ℕ) → Takes (read_digits m)
digits_take m [] n h = h
digits_take m (b ∷ bs) n h =
    chosen n (is_ascii_digit b) (cond (ltb m 100000000) (read_digits (10 * m + (b - 48)) bs) None) (Some (read m (b ∷ bs)))
    (chosen n (ltb m 100000000) (read_digits (10 * m + (b - 48)) bs) None (digits_take (10 * m + (b - 48)) bs n (omega arith)) tt) h

number_takes : Takes read_number
number_takes bs n h = chosen n (digit_first bs) (read_digits 0 bs) None (digits_take 0 bs n h) tt

byte_takes : Takes read_byte
byte_takes bs n h = then n (read_number bs) (λ m. cond (ltb m.value 256) (Some m) None) (number_takes bs n h) (λ m k. chosen n (ltb m.value 256) (Some m) None k tt)

spaced_leaves : (bs : List ℕ) (n : ℕ) → length bs ≤ n + 1 → Leaves n (read_spaced bs)
spaced_leaves bs n h = past_then n (after (codes " ") bs) read_byte (past_word (codes " ") bs n h) byte_takes

some_take : (most : ℕ) (bs : List ℕ) (n : ℕ) → length bs ≤ n → length (read_some most bs).rest ≤ n
unfolding read_some
some_take zero bs n h = h
some_take (suc most) bs n h = by (read_spaced bs) (spaced_leaves bs n (omega arith)) (λ rest. some_take most rest n)
  where
    by : (o : Option (Read ℕ)) → Leaves n o → ((rest : List ℕ) → length rest ≤ n → length (read_some most rest).rest ≤ n)
        → length (either o (read [] bs) (λ b. put_front b.value (read_some most b.rest))).rest ≤ n
    by None k f = h
    by (Some b) k f = f b.rest k

word_takes : Takes read_word
word_takes bs n h = by (after (codes " -") bs) (past_word (codes " -") bs n (omega arith))
  where
    by : (o : Option (List ℕ)) → IfSome o (λ rest. length rest ≤ n) → length (either o (read_some 10 bs) (λ rest. read [] rest)).rest ≤ n
    by None k = some_take 10 bs n h
    by (Some rest) k = k

ended_takes : {X : Type 0} (r : Read X) (n : ℕ) → length r.rest ≤ n → Leaves n (ended r)
ended_takes r n h = by (after (codes "\n") r.rest) (past_word (codes "\n") r.rest n (omega arith))
  where
    by : (o : Option (List ℕ)) → IfSome o (λ rest. length rest ≤ n) → Leaves n (and_then o (λ rest. Some (read r.value rest)))
    by None k = tt
    by (Some rest) k = k

takes_after : {X : Type 0} (word : List ℕ) (reader : List ℕ → Option (Read X)) → Takes reader → (bs : List ℕ) (n : ℕ) → length bs ≤ n + length word → Leaves n (read_after word reader bs)
takes_after word reader f bs n h = past_then n (after word bs) reader (past_word word bs n h) f

row_leaves : (bs : List ℕ) (n : ℕ) → length bs ≤ n + 4 → Leaves n (read_row bs)
row_leaves bs n h =
    then n _ _ (takes_after (codes "row ") read_number number_takes bs n h) (λ place k.
    then n _ _ (takes_after (codes " from ") read_byte byte_takes place.rest n (omega arith)) (λ from k.
    then n _ _ (takes_after (codes " letter ") read_byte byte_takes from.rest n (omega arith)) (λ letter k.
    then n _ _ (takes_after (codes " to ") read_byte byte_takes letter.rest n (omega arith)) (λ to k.
    then n _ _ (takes_after (codes " pop") read_word word_takes to.rest n (omega arith)) (λ popped k.
    then n _ _ (takes_after (codes " push") read_word word_takes popped.rest n (omega arith)) (λ pushed k.
    ended_takes _ n k))))))

-- What stands after a number, and after a row, is shorter than the text.
pub after_spaced : (bs : List ℕ) (r : Read ℕ) → read_spaced bs ≡ Some r → length r.rest < length bs
after_spaced [] r e = absurd (let n : ◌≡◌ {A = Option (Read ℕ)} None (Some r) = e in cc)
after_spaced (b ∷ bs) r e = let k = subst (Leaves (length bs)) e (spaced_leaves (b ∷ bs) (length bs) (omega arith)) in omega arith

pub after_row : (bs : List ℕ) (r : Read Row) → read_row bs ≡ Some r → length r.rest < length bs
after_row [] r e = absurd (let n : ◌≡◌ {A = Option (Read Row)} None (Some r) = e in cc)
after_row (b ∷ bs) r e = let k = subst (Leaves (length bs)) e (row_leaves (b ∷ bs) (length bs) (omega arith)) in omega arith
