-- Rows are read as they are written.
use Rattle.std.proofs.Common.{◌≡◌, ℕ, ◌+◌, ◌-◌, ◌<◌, ◌≤◌, true, List, [], ◌∷◌, ◌++◌, length, Some, Ok, codes, decimal, Option, refl, ap, ◌∙◌, append_assoc, arith, length-append}
use Rattle.std.proofs.lemmas.Bool.{and_parts, ne_eqb}
use Rattle.std.proofs.lemmas.Bool.Decides.{nat_tests}
use Rattle.machine.specs.declared.row.Word.{Word}
use Rattle.machine.specs.declared.row.Row.{Row}
use Rattle.machine.specs.Rows.{lawful_word, lawful_row, pops, pushes}
use Rattle.machine.specs.Lists.{all}
use Rattle.reports.specs.Texts.{numbers_text, row_text, rows_text}
use Rattle.texts.specs.Reading.{Read, read, and_then, ended, read_word, read_after, read_row, with_row, read_rows}
use Rattle.texts.proofs.Decimals.{number_back, byte_back}
use Rattle.texts.proofs.NumbersBack.{word_back}
use Rattle.texts.proofs.Lines.{rows_end, rows_more}

-- Reading goes on with what a part gives.
goes : {X Y : Type 0} {o : Option X} {x : X} {y : Option Y} (k : X → Option Y) → o ≡ Some x → k x ≡ y → and_then o k ≡ y
goes k e f = ap (λ p. and_then p k) e ∙ f

-- What a lawful row is made of.
pub record Lawful (r : Row) : Type 0 where
  pub from : r.from < 256
  pub letter : r.letter < 256
  pub to : r.to < 256
  pub popped : lawful_word r.popped ≡ true
  pub pushed : lawful_word r.pushed ≡ true

pub row_bytes : (r : Row) → lawful_row r ≡ true → Lawful r
row_bytes r h = grind (arith, nat_tests)

-- The text of a row, and what stands after it, from the front on.
module _ (place : ℕ) (r : Row) (rest : List ℕ) where
  abbrev after_push : List ℕ
  after_push = codes "\n" ++ rest

  abbrev after_pop : List ℕ
  after_pop = codes " push" ++ (numbers_text (pushes r) ++ after_push)

  abbrev after_to : List ℕ
  after_to = codes " pop" ++ (numbers_text (pops r) ++ after_pop)

  abbrev after_letter : List ℕ
  after_letter = codes " to " ++ (decimal r.to ++ after_to)

  abbrev after_from : List ℕ
  after_from = codes " letter " ++ (decimal r.letter ++ after_letter)

  abbrev after_place : List ℕ
  after_place = codes " from " ++ (decimal r.from ++ after_from)

  abbrev with_pushed : Word → Read Word → Option (Read Row)
  with_pushed popped pushed =
      ended (read (record { from = r.from; letter = r.letter; to = r.to; popped = popped; pushed = pushed.value }) pushed.rest)

  abbrev with_popped : Read Word → Option (Read Row)
  with_popped popped = and_then (read_after (codes " push") read_word popped.rest) (with_pushed popped.value)

  row_regrouped : row_text place r ++ rest ≡ codes "row " ++ (decimal place ++ after_place)
  row_regrouped =
      regrouped (codes "row ") (decimal place) (codes " from ") (decimal r.from) (codes " letter ") (decimal r.letter)
      (codes " to ") (decimal r.to) (codes " pop") (numbers_text (pops r)) (codes " push") (numbers_text (pushes r)) (codes "\n")
    where
      regrouped : (a b c d e f g h i j k l m : List ℕ)
          → (a ++ b ++ c ++ d ++ e ++ f ++ g ++ h ++ i ++ j ++ k ++ l ++ m) ++ rest
          ≡ a ++ (b ++ (c ++ (d ++ (e ++ (f ++ (g ++ (h ++ (i ++ (j ++ (k ++ (l ++ (m ++ rest))))))))))))
      regrouped a b c d e f g h i j k l m = simp append_assoc

  pub row_back : lawful_row r ≡ true → place < 1000000000 → read_row (row_text place r ++ rest) ≡ Some (read r rest)
  row_back h l =
      let b = row_bytes r h in
      let e0 = number_back place after_place l refl in
      let e1 = byte_back r.from after_from b.from refl in
      let e2 = byte_back r.letter after_letter b.letter refl in
      let e3 = byte_back r.to after_to b.to refl in
      let e4 = word_back r.popped after_pop b.popped (record { digit = refl; spaced = refl }) in
      let e5 = word_back r.pushed after_push b.pushed (record { digit = refl; spaced = refl }) in
      ap read_row row_regrouped ∙ goes _ e0 (goes _ e1 (goes _ e2 (goes _ e3 (goes with_popped e4 (goes (with_pushed r.popped) e5 refl)))))

length-row : (place : ℕ) (r : Row) (rest : List ℕ) → length rest < length (row_text place r ++ rest)
length-row place r rest =
    let some : 0 < length (row_text place r) = omega arith in
    omega (arith, length-append (row_text place r) rest)

pub length-rows : (place : ℕ) (rs : List Row) → length rs ≤ length (rows_text place rs)
length-rows place [] = omega arith
length-rows place (r ∷ rs) = omega (arith, length-rows (place + 1) rs, length-row place r (rows_text (place + 1) rs))

pub rows_back : (rs : List Row) (most line place : ℕ) → all lawful_row rs ≡ true → length rs ≤ most → place + length rs ≤ 1000000000
    → read_rows most line (rows_text place rs) ≡ Ok rs
rows_back [] most line place h l p = rows_end most line [] refl
rows_back (r ∷ rs) most line place h l p =
    let k = and_parts (lawful_row r) (all lawful_row rs) h in
    let rest : List ℕ = rows_text (place + 1) rs in
    let n = length-row place r rest in
    rows_more most line (row_text place r ++ rest) (read r rest) (omega arith) (ne_eqb _ 0 (λ e. omega arith)) (row_back place r rest k.0 (omega arith))
    ∙ ap (with_row r) (rows_back rs (most - 1) (line + 1) (place + 1) k.1 (omega arith) (omega arith))
