-- Numbers: one digit after the other, and that a number is read as it is written.
use Rattle.std.proofs.Common.{◌≡◌, ℕ, ◌+◌, ◌-◌, ◌*◌, ◌/◌, ◌%◌, ◌<◌, ◌≤◌, true, false, List, [], ◌∷◌, ◌++◌, Some, decimal, refl, ap, ◌∙◌, append_assoc, arith}
use Rattle.std.specs.Char.{is_ascii_digit}
use Rattle.std.proofs.lemmas.Bool.{lt-ltb, le-leb, and_from}
use Rattle.std.proofs.lemmas.Fmt.{decimal_by_steps}
use Rattle.texts.specs.Reading.{read, read_digits, digit_first, read_number, read_byte}

-- One step of the digits, and each way that it can go.
module _ (n b : ℕ) (bs : List ℕ) where
  pub more : is_ascii_digit b ≡ true → n < 100000000 → read_digits n (b ∷ bs) ≡ read_digits (10 * n + (b - 48)) bs
  more d l = rw (d, lt-ltb n 100000000 l)

  pub stop : is_ascii_digit b ≡ false → read_digits n (b ∷ bs) ≡ Some (read n (b ∷ bs))
  stop d = rw d

pub ended : (n : ℕ) (bs : List ℕ) → digit_first bs ≡ false → read_digits n bs ≡ Some (read n bs)
ended n [] h = refl
ended n (b ∷ bs) h = stop n b bs h

-- The digits of n in front of a text: it begins with a digit, and is read on from n.
pub record Spells (n : ℕ) (ds : List ℕ) (rest : List ℕ) : Type 0 where
  pub first : digit_first (ds ++ rest) ≡ true
  pub reads : read_digits 0 (ds ++ rest) ≡ read_digits n rest

digit : (n : ℕ) → n < 10 → is_ascii_digit (48 + n) ≡ true
digit n h = and_from _ _ (le-leb 48 (48 + n) (omega arith)) (le-leb (48 + n) 57 (omega arith))

pub spells : (n : ℕ) → n < 1000000000 → (rest : List ℕ) → Spells n (decimal n) rest
spells n small = decimal_by_steps (λ m ds. m < 1000000000 → (rest : List ℕ) → Spells m ds rest) one next n (omega arith) small
  where
    one : (m : ℕ) → m < 10 → m < 1000000000 → (rest : List ℕ) → Spells m ((48 + m) ∷ []) rest
    one m h l rest = record {
      first = digit m h;
      reads = let e : 10 * 0 + (48 + m - 48) ≡ m = omega arith in more 0 (48 + m) rest (digit m h) (omega arith) ∙ ap (λ k. read_digits k rest) e;
    }

    next : (m : ℕ) (ds : List ℕ) → 10 ≤ m → (m / 10 < 1000000000 → (rest : List ℕ) → Spells (m / 10) ds rest)
        → m < 1000000000 → (rest : List ℕ) → Spells m (ds ++ ((48 + m % 10) ∷ [])) rest
    next m ds h before l rest =
        let d : is_ascii_digit (48 + m % 10) ≡ true = digit (m % 10) (omega arith) in
        let s = before (omega arith) ((48 + m % 10) ∷ rest) in
        let e : 10 * (m / 10) + (48 + m % 10 - 48) ≡ m = omega arith in
        record {
          first = rw append_assoc s.first;
          reads = rw append_assoc (s.reads ∙ more (m / 10) (48 + m % 10) rest d (omega arith) ∙ ap (λ k. read_digits k rest) e);
        }

-- A number that ends where the text goes on without a digit is read as itself.
pub number_back : (n : ℕ) (rest : List ℕ) → n < 1000000000 → digit_first rest ≡ false → read_number (decimal n ++ rest) ≡ Some (read n rest)
number_back n rest l e =
    let s = spells n l rest in
    rw s.first (s.reads ∙ ended n rest e)

pub byte_back : (n : ℕ) (rest : List ℕ) → n < 256 → digit_first rest ≡ false → read_byte (decimal n ++ rest) ≡ Some (read n rest)
byte_back n rest l e = rw (number_back n rest (omega arith) e, lt-ltb n 256 l)
