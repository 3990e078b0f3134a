-- The laws of opening, from those of any file of three sections.
use Rattle.std.proofs.Common.{◌≡◌, ℕ, List, take, Ok, Err, Result, sym, ap, ◌∙◌, arith}
use Rattle.machine.specs.declared.fault.Fault.{Fault}
use Rattle.machine.specs.declared.row.Row.{Row}
use Rattle.machine.specs.Lists.{Lists}
use Rattle.entries.specs.Sections.{and_then}
use Rattle.entries.specs.Files.{Content, read_file, LawfulFile, FileLaws}
use Rattle.entries.specs.StateBytes.{states_laws}
use Rattle.entries.specs.RowBytes.{rows_laws}
use Rattle.entries.proofs.Files as files
use Rattle.tables.specs.Tables.{table_layout, content_of, lists_from, open_table, listed, lists_of, LawfulTable, TableLaws}

file_laws : FileLaws table_layout
file_laws = files.laws table_layout states_laws states_laws rows_laws

opened : (o : Result (Content ℕ ℕ Row) Fault) (m : Lists) → and_then o (λ c. Ok (lists_from c)) ≡ Ok m → o ≡ Ok (content_of m)
opened (Ok c) m h =
    let e : lists_from c ≡ m = cc in
    ap {B = Result (Content ℕ ℕ Row) Fault} (λ n. Ok (content_of n)) e
opened (Err f) m h = absurd (let z : ◌≡◌ {A = ℕ} 0 1 = cc in omega arith)

to_table : (m : Lists) → LawfulFile table_layout (content_of m) → LawfulTable m
to_table m l = record { starts = l.first; accepts = l.second; rows = l.third }

of_table : (m : Lists) → LawfulTable m → LawfulFile table_layout (content_of m)
of_table m l = record { first = l.starts; second = l.accepts; third = l.rows }

pub laws : TableLaws
laws =
    record {
      exactly = λ bs m b. (
        λ h. let k = (file_laws.exactly bs (content_of m) b).0 (opened (read_file table_layout bs) m h) in (to_table m k.0, k.1),
        λ h. ap {B = Result Lists Fault} (λ o. and_then o (λ c. Ok (lists_from c))) ((file_laws.exactly bs (content_of m) b).1 (of_table m h.0, h.1)),
      );
      same = λ m n l k e. ap lists_from (file_laws.same (content_of m) (content_of n) (of_table m l) (of_table n k) e);
    }

pub itself : (bs : List ℕ) {m : Lists} → open_table bs ≡ Ok m → open_table bs ≡ Ok (lists_of bs)
itself bs h = h ∙ ap {B = Result Lists Fault} (λ o. Ok (listed o)) (sym h)

-- A byte more than the longest table decides.
pub enough : (bs : List ℕ) → open_table (take 26119 bs) ≡ open_table bs
enough bs = ap {B = Result Lists Fault} (λ o. and_then o (λ c. Ok (lists_from c))) (files.enough table_layout states_laws states_laws rows_laws bs 26119 (omega arith))
