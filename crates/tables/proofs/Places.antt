-- What a view's slices hold: the entries of its table.
use Rattle.std.proofs.Common.{◌≡◌, ℕ, ◌*◌, List, [], ◌∷◌, length, sym, refl, ap, ◌∙◌}
use Rattle.machine.specs.Lists.{Lists}
use Rattle.entries.specs.States.{states}
use Rattle.entries.specs.Rows.{rows}
use Rattle.entries.specs.Sections.{joined}
use Rattle.entries.specs.RowBytes.{rows_laws}
use Rattle.entries.proofs.Sections.{length-joined}
use Rattle.tables.specs.declared.table.Table.{Table}
use Rattle.tables.specs.Tables.{lists_of}
use Rattle.tables.specs.Facts.{lists, limits_of}

-- The bytes of states are the states.
own : (ss : List ℕ) → joined states.encode ss ≡ ss
own [] = refl
own (s ∷ ss) = ap (λ xs. s ∷ xs) (own ss)

pub record Places (t : Table) : Type 0 where
  pub starts : t.starts.now ≡ (lists_of t.bytes.now).starts
  pub accepts : t.accepts.now ≡ (lists_of t.bytes.now).accepts
  pub rows : t.rows.now ≡ joined rows.encode (lists_of t.bytes.now).rows
  pub row_count : length t.rows.now ≡ 25 * length (lists_of t.bytes.now).rows

pub places : (t : Table) → Places t
places t =
    let h = t.lawful in
    let e = lists t.bytes.now t.starts.now t.accepts.now t.rows.now h in
    let r : t.rows.now ≡ joined rows.encode (lists_of t.bytes.now).rows = h.third_bytes ∙ ap (λ (m : Lists). joined rows.encode m.rows) (sym e) in
    let l = limits_of t.bytes.now t.starts.now t.accepts.now t.rows.now h in
    record {
      starts = h.first_bytes ∙ own _ ∙ ap (λ (m : Lists). m.starts) (sym e);
      accepts = h.second_bytes ∙ own _ ∙ ap (λ (m : Lists). m.accepts) (sym e);
      rows = r;
      row_count = ap length r ∙ length-joined rows rows_laws (lists_of t.bytes.now).rows l.rows;
    }
