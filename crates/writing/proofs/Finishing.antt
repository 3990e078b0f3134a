-- The rows are done, and so is the table.
use Rattle.std.proofs.Common.{◌≡◌, ℕ, ◌+◌, ◌≤◌, true, cond, List, ◌++◌, length, take, drop, Ok, sym, ap, ◌∙◌, ap₂, zero-add}
use Rattle.std.proofs.lemmas.List.{append_assoc, take_at}
use Rattle.machine.specs.declared.row.Row.{Row}
use Rattle.machine.specs.Rows.{is_byte}
use Rattle.machine.specs.Lists.{Lists, all}
use Rattle.entries.specs.States.{states}
use Rattle.entries.specs.Rows.{rows}
use Rattle.entries.specs.Sections.{section_bytes}
use Rattle.entries.specs.RowBytes.{rows_laws}
use Rattle.tables.specs.Tables.{open_table, encode_table}
use Rattle.tables.proofs.Opening.{laws}
use Rattle.writing.specs.Parts.{rows_kind, rows_part}
use Rattle.writing.specs.PartFacts as part
use Rattle.writing.specs.Stages.{Progress, end_of, count_fits, closed}
use Rattle.writing.specs.Histories.{WritingRows, Finished}
use Rattle.writing.proofs.Ascents.{all_take}
use Rattle.writing.proofs.Histories.{whole, unchanged, answer_long, answer_short}

module _ (old : List ℕ) (m : Lists) (s : Progress Row) (out new : List ℕ) (n : ℕ) (w : WritingRows old m s out)
    (by : new ≡ closed rows_kind s out) (size : n ≡ cond (count_fits rows_kind s (length out)) (end_of rows s) 0) where
  abbrev done : List ℕ
  done = rows_part.before m

  encoded : done ++ section_bytes rows m.rows ≡ encode_table m
  encoded = append_assoc (section_bytes states m.starts) (section_bytes states m.accepts) (section_bytes rows m.rows)

  pub finished : Finished old m new n
  finished =
      let counts = part.rows_laws.counts m in
      let long : 6 ≤ length old → n ≡ length (done ++ section_bytes rows m.rows) = λ h. size ∙ answer_long rows rows_laws rows_kind old done m.rows s out w.section h in
      record {
        lawful = w.lawful;
        size = λ h. long h ∙ ap length encoded;
        bytes = λ h.
            let k : 0 + length (done ++ section_bytes rows m.rows) ≡ n = zero-add _ ∙ sym (long h) in
            by
            ∙ whole rows rows_laws rows_kind old done m.rows s out w.section h
            ∙ ap₂ {C = List ℕ} (λ x i. x ++ drop i old) encoded k;
        short = λ h. (
          size ∙ answer_short rows rows_laws rows_kind old done m.rows s out w.section counts h,
          by ∙ unchanged rows rows_laws rows_kind old done m.rows s out w.section counts h,
          w.none h,
        );
      }

  -- What was written opens as the table; an output holds bytes.
  pub opens : all is_byte new ≡ true → 6 ≤ length old → open_table (take n new) ≡ Ok m
  opens b h =
      let f = finished in
      let e : take n new ≡ encode_table m = ap (take n) (f.bytes h) ∙ take_at (encode_table m) (drop n old) n (sym (f.size h)) in
      (laws.exactly (take n new) m (all_take is_byte n new b)).1 (f.lawful, e)
