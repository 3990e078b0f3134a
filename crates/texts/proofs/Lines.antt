-- Rows that are read one after the other, and the text past a line.
use Rattle.std.proofs.Common.{◌≡◌, ℕ, zero, suc, ◌+◌, ◌-◌, ◌<◌, ◌≤◌, Bool, true, false, cond, not, eqb, List, [], ◌∷◌, ◌++◌, length, drop, Some, None, Ok, Err, Result, sym, refl, ap, ◌∙◌, append_assoc, append-nil, arith, sub-one}
use Rattle.std.proofs.lemmas.Bool.Decides.{nat_tests}
use Rattle.std.proofs.lemmas.List.{drop_all}
use Rattle.std.proofs.Math.Seq.{drop-nil}
use Rattle.std.specs.List.{position, position_or_len}
use Rattle.machine.specs.declared.row.Row.{Row}
use Rattle.texts.specs.Reading.{Read, read, read_row, with_row, read_rows, next_line}
use Rattle.texts.proofs.Leaves.{after_row}

module _ (left line : ℕ) where
  pub rows_end : (rest : List ℕ) → eqb (length rest) 0 ≡ true → read_rows left line rest ≡ Ok []
  unfolding read_rows
  rows_end [] e = refl
  rows_end (b ∷ bs) e = absurd (let n : ⊥ = grind arith in n)

pub rows_bad : (left line : ℕ) (rest : List ℕ) → length rest ≤ left → eqb (length rest) 0 ≡ false → read_row rest ≡ None → read_rows left line rest ≡ Err line
unfolding read_rows
rows_bad left line [] l e n = cc
rows_bad zero line (b ∷ bs) l e n = refl
rows_bad (suc k) line (b ∷ bs) l e n = rw n

pub rows_more : (left line : ℕ) (rest : List ℕ) (r : Read Row) → 0 < left → eqb (length rest) 0 ≡ false → read_row rest ≡ Some r
    → read_rows left line rest ≡ with_row r.value (read_rows (left - 1) (line + 1) r.rest)
unfolding read_rows
rows_more left line [] r l e n = cc
rows_more zero line (b ∷ bs) r l e n = absurd (omega arith)
rows_more (suc k) line (b ∷ bs) r l e n =
    rw (n, sub-one)

abbrev onto : List Row → Result (List Row) ℕ → Result (List Row) ℕ
onto seen (Ok rs) = Ok (seen ++ rs)
onto seen (Err line) = Err line

onto_more : (seen : List Row) (r : Row) (o : Result (List Row) ℕ) → onto (seen ++ r ∷ []) o ≡ onto seen (with_row r o)
onto_more seen r (Ok rs) = rw append_assoc
onto_more seen r (Err line) = refl

-- The rows that were read so far, with those that are left to read, are all.
pub record Listed (most first : ℕ) (text : List ℕ) (line : ℕ) (seen : List Row) (rest : List ℕ) : Type 0 where
  pub left : ℕ
  pub enough : length rest ≤ left
  pub whole : onto seen (read_rows left line rest) ≡ read_rows most first text

module _ {most first line : ℕ} {text rest : List ℕ} {seen : List Row} (old : Listed most first text line seen rest) where
  pub listed_more : {r : Row} {next : List ℕ} {n : ℕ} {more : List Row} → eqb (length rest) 0 ≡ false → read_row rest ≡ Some (read r next)
      → n ≡ line + 1 → more ≡ seen ++ r ∷ [] → Listed most first text n more next
  listed_more {r} {next} {n} {more} some e up added =
      let s = after_row rest (read r next) e in
      record {
        left = old.left - 1;
        enough = omega (arith, old.enough);
        whole =
            rw (added, onto_more, up)
            (ap (onto seen) (sym (rows_more old.left line rest (read r next) (omega (arith, old.enough)) some e)) ∙ old.whole);
      }

  pub listed_end : eqb (length rest) 0 ≡ true → read_rows most first text ≡ Ok seen
  listed_end e =
      sym old.whole ∙ rw (rows_end old.left line rest e, append-nil)

  pub listed_bad : eqb (length rest) 0 ≡ false → read_row rest ≡ None → read_rows most first text ≡ Err line
  listed_bad some e = sym old.whole ∙ ap (onto seen) (rows_bad old.left line rest old.enough some e)

abbrev pub is_feed : ℕ → Bool
is_feed b = eqb b 10

-- The next line stands past the first line feed.
past_feed : (xs : List ℕ) → drop (position_or_len is_feed xs + 1) xs ≡ next_line xs
past_feed [] = drop-nil 1
past_feed (x ∷ xs) = by (eqb x 10) (past_feed xs)
  where
    by : (t : Bool) → drop (position_or_len is_feed xs + 1) xs ≡ next_line xs
        → drop (cond (not t) (1 + position_or_len is_feed xs) 0 + 1) (x ∷ xs) ≡ cond t xs (next_line xs)
    by true e = refl
    by false e =
        let n : 1 + position_or_len is_feed xs + 1 ≡ suc (position_or_len is_feed xs + 1) = omega arith in
        ap (λ k. drop k (x ∷ xs)) n ∙ e

pub line_found : (xs : List ℕ) (i : ℕ) → Some i ≡ position is_feed xs → drop (i + 1) xs ≡ next_line xs
line_found xs i e =
    let n : i ≡ position_or_len is_feed xs = grind arith in
    ap (λ k. drop (k + 1) xs) n ∙ past_feed xs

pub line_none : (xs : List ℕ) → None ≡ position is_feed xs → [] ≡ next_line xs
line_none xs e =
    let n : length xs ≤ position_or_len is_feed xs = grind (arith, nat_tests) in
    sym (drop_all (position_or_len is_feed xs + 1) xs (omega arith)) ∙ past_feed xs
