-- A whole table, written from its lists.
use Rattle.std.proofs.Common.{◌≡◌, ℕ, ◌<◌, ◌≤◌, List, [], length, inl, inr, Option, Some, None, Result, true, is_ok, ap, sym, subst, arith}
use Rattle.std.specs.Prelude.{MatchOption, MatchResult}
use Rattle.std.specs.Option.{ok_or}
use Rattle.std.proofs.lemmas.List.{length-append}
use Rattle.std.proofs.lemmas.Bool.{cases_lt}
use Rattle.machine.specs.declared.fault.Fault.{Fault}
use Rattle.machine.specs.declared.fault.Rule.TheVariants.{Output}
use Rattle.machine.specs.declared.row.Row.{Row}
use Rattle.machine.specs.Faults.{fault}
use Rattle.machine.specs.Lists.{Lists}
use Rattle.tables.specs.Tables.{encode_table}
use Rattle.writing.specs.Parts.{table_of, no_entries}
use Rattle.writing.specs.PartFacts.{rows_laws}
use Rattle.writing.specs.Stages.{Progress}
use Rattle.writing.specs.Histories.{WritingRows, Finished}
use Rattle.writing.specs.Wholes.{Written, Unwritten}
use Rattle.writing.specs.Wholes.Unwritten.{no_room}

-- the first lists alone fit where the whole table does
pub starts_fit : (ss fs : List ℕ) (rs : List Row) (room : ℕ) → length (encode_table (table_of ss fs rs)) ≤ room → length (encode_table (table_of ss [] [])) ≤ room
starts_fit ss fs rs room h = simp length-append (omega (arith, simp length-append at h))

pub accepts_fit : (ss fs : List ℕ) (rs : List Row) (room : ℕ) → length (encode_table (table_of ss fs rs)) ≤ room → length (encode_table (table_of ss fs [])) ≤ room
accepts_fit ss fs rs room h = simp length-append (omega (arith, simp length-append at h))

-- three counts are six bytes
six : (m : Lists) → 6 ≤ length (encode_table m)
six m = simp length-append (omega arith)

module _ (old : List ℕ) (m : Lists) (new : List ℕ) (n : ℕ) (d : Finished old m new n) where
  -- the size is 0 only where the output is too short for three counts
  pub too_short : n ≡ 0 → length old < 6
  too_short z = elim (cases_lt (length old) 6) [ inl h ↦ h | inr h ↦ absurd (omega (arith, d.size h, six m)) ]

  pub long_enough : 0 < n → 6 ≤ length old
  long_enough p = elim (cases_lt (length old) 6) [ inl h ↦ absurd (omega (arith, (d.short h).0)) | inr h ↦ h ]

  -- what is finished lies within the output
  pub within : (s : Progress Row) (out : List ℕ) → WritingRows old m s out → 6 ≤ length old → n ≤ length old
  within s out w h = omega (arith, d.size h, w.section.room h, rows_laws.size m m.rows)

-- With the count of the rows the table is written, or the output is too short for three counts.
module _ (old : List ℕ) (m : Lists) (new : List ℕ) where
  pub ended : (o : Option ℕ) (f : Fault) (r : Result ℕ Fault) → MatchOption o ((length old < 6) × (m ≡ no_entries) × (new ≡ old)) (λ n. Written old m n new) → f ≡ fault Output 0 0 → r ≡ ok_or o f
      → MatchResult r (λ n. Written old m n new) (λ g. Unwritten old m g new)
  ended None f r t e h = subst (λ x. MatchResult x (λ n. Written old m n new) (λ g. Unwritten old m g new)) (sym h) (no_room t.0 t.1 e t.2)
  ended (Some n) f r t e h = subst (λ x. MatchResult x (λ k. Written old m k new) (λ g. Unwritten old m g new)) (sym h) t

  pub ended_well : (o : Option ℕ) (f : Fault) (r : Result ℕ Fault) → MatchOption o ((length old < 6) × (m ≡ no_entries) × (new ≡ old)) (λ n. Written old m n new) → length (encode_table m) ≤ length old → r ≡ ok_or o f → is_ok r ≡ true
  ended_well None f r t l h = absurd (omega (arith, t.0, six m))
  ended_well (Some n) f r t l h = ap is_ok h
