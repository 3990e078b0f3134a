-- Numbers and words are read as they are written.
use Rattle.std.proofs.Common.{◌≡◌, ℕ, zero, suc, ◌+◌, ◌-◌, ◌≤◌, true, false, eqb, ltb, leb, List, [], ◌∷◌, ◌++◌, length, take, replicate, Some, None, codes, decimal, refl, ap, ◌∙◌, append_assoc, arith, length-append}
use Rattle.std.proofs.lemmas.Bool.{and_parts, and_from, leb-true, ltb-true, eqb-true, ne_eqb}
use Rattle.machine.specs.declared.row.Word.{Word}
use Rattle.machine.specs.Rows.{is_byte, is_symbol, padded, lawful_word, symbols_of}
use Rattle.machine.specs.Lists.{all}
use Rattle.machine.proofs.Padding.{padded_fits}
use Rattle.reports.specs.Texts.{spaced, numbers_text}
use Rattle.texts.specs.Reading.{read, ended, digit_first, read_byte, read_spaced, put_front, read_some, read_numbers, after, read_word, read_states}
use Rattle.texts.proofs.Fronts.{there}
use Rattle.texts.proofs.Decimals.{spells, byte_back}
use Rattle.texts.proofs.Somes.{some_more, some_stop}

-- The text goes on with something that is no number, so that numbers end here.
pub record Ends (rest : List ℕ) : Type 0 where
  pub digit : digit_first rest ≡ false
  pub spaced : read_spaced rest ≡ None

no_digit : (ns rest : List ℕ) → digit_first rest ≡ false → digit_first (spaced ns ++ rest) ≡ false
no_digit [] rest h = h
no_digit (n ∷ ns) rest h = refl

pub some_back : (ns : List ℕ) (most : ℕ) (rest : List ℕ) → all is_byte ns ≡ true → length ns ≤ most → Ends rest
    → read_some most (spaced ns ++ rest) ≡ read ns rest
some_back [] most rest b l e = some_stop most rest e.spaced
some_back (n ∷ ns) most rest b l e =
    let k = and_parts (is_byte n) (all is_byte ns) b in
    let one : read_spaced (spaced (n ∷ ns) ++ rest) ≡ Some (read n (spaced ns ++ rest)) =
    ap read_byte (append_assoc (decimal n) (spaced ns) rest)
    ∙ byte_back n (spaced ns ++ rest) (ltb-true n 256 k.0) (no_digit ns rest e.digit) in
    some_more most (spaced (n ∷ ns) ++ rest) (read n (spaced ns ++ rest)) (omega arith) one
    ∙ ap (put_front n) (some_back ns (most - 1) rest k.1 (omega arith) e)

no_dash : (ys : List ℕ) → digit_first ys ≡ true → after (codes "-") ys ≡ None
no_dash [] h = refl
no_dash (y ∷ ys) h =
    let k = leb-true 48 y (and_parts (leb 48 y) (leb y 57) h).0 in
    rw (ne_eqb y 45 (λ e. omega arith))

pub numbers_back : (ns : List ℕ) (most : ℕ) (rest : List ℕ) → all is_byte ns ≡ true → length ns ≤ most → Ends rest
    → read_numbers most (numbers_text ns ++ rest) ≡ read ns rest
numbers_back [] most rest b l e = refl
numbers_back (n ∷ ns) most rest b l e =
    let k = and_parts (is_byte n) (all is_byte ns) b in
    let m = ltb-true n 256 k.0 in
    let s = spells n (omega arith) (spaced ns ++ rest) in
    let d : digit_first ((decimal n ++ spaced ns) ++ rest) ≡ true = rw append_assoc s.first in
    rw (no_dash ((decimal n ++ spaced ns) ++ rest) d) (some_back (n ∷ ns) most rest b l e)

length-spaced : (ns rest : List ℕ) → length ns ≤ length (spaced ns ++ rest)
length-spaced [] rest = omega arith
length-spaced (n ∷ ns) rest =
    simp length-append (omega (arith, simp length-append at (length-spaced ns rest)))

length-numbers : (ns rest : List ℕ) → length ns ≤ length (numbers_text ns ++ rest)
length-numbers [] rest = omega arith
length-numbers (n ∷ ns) rest = length-spaced (n ∷ ns) rest

-- A line of states.
pub states_back : (name ns rest : List ℕ) → all is_byte ns ≡ true → read_states name (name ++ (numbers_text ns ++ (codes "\n" ++ rest))) ≡ Some (read ns rest)
states_back name ns rest b =
    let line : List ℕ = numbers_text ns ++ (codes "\n" ++ rest) in
    rw (there name line) (ap ended (numbers_back ns (length line) (codes "\n" ++ rest) b (length-numbers ns (codes "\n" ++ rest)) (record { digit = refl; spaced = refl })))

-- What stands in a word: n symbols, and k zeros after them.
pub record Stands (n k : ℕ) (bs : List ℕ) : Type 0 where
  pub long : length (take n bs) ≡ n
  pub bytes : all is_byte (take n bs) ≡ true
  pub whole : bs ≡ take n bs ++ replicate k 0

stands : (n k : ℕ) (bs : List ℕ) → padded n bs ≡ true → length bs ≡ n + k → Stands n k bs
stands zero zero [] p l = record { long = refl; bytes = refl; whole = refl }
stands zero (suc k) [] p l = absurd (omega arith)
stands (suc n) k [] p l = absurd (let z : ◌≡◌ {A = ℕ} 0 1 = cc in omega arith)
stands zero zero (b ∷ bs) p l = absurd (omega arith)
stands zero (suc k) (b ∷ bs) p l =
    let h = and_parts (eqb b 0) (padded zero bs) p in
    let e = eqb-true b 0 h.0 in
    let s = stands zero k bs h.1 (omega arith) in
    record { long = refl; bytes = refl; whole = cc }
stands (suc n) k (b ∷ bs) p l =
    let h = and_parts (is_symbol b) (padded n bs) p in
    let s = stands n k bs h.1 (omega arith) in
    record {
      long = ap suc s.long;
      bytes = and_from (is_byte b) (all is_byte (take n bs)) (and_parts (ltb 0 b) (is_byte b) h.0).1 s.bytes;
      whole = cc;
    }

pub word_back : (w : Word) (rest : List ℕ) → lawful_word w ≡ true → Ends rest → read_word (numbers_text (symbols_of w) ++ rest) ≡ Some (read w rest)
word_back w rest h e =
    let p = and_parts (eqb (length w.symbols) 10) (padded w.len w.symbols) h in
    let ten = eqb-true (length w.symbols) 10 p.0 in
    let fits = padded_fits w.len w.symbols p.1 in
    let s = stands w.len (10 - w.len) w.symbols p.1 (omega arith) in
    rw (numbers_back (symbols_of w) 10 rest s.bytes (omega (arith, s.long)) e, s.long, ← s.whole)
