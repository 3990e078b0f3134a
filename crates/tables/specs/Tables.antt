-- A table: a file of three sections, of starts, of accepting states and of rows.
use Rattle.std.specs.Prelude.{◌≡◌, ℕ, true, ◌↔◌, List, [], Ok, Err, Result}
use Rattle.machine.specs.declared.fault.Fault.{Fault}
use Rattle.machine.specs.declared.row.Row.{Row}
use Rattle.machine.specs.Rows.{is_byte}
use Rattle.machine.specs.Lists.{Lists, all}
use Rattle.entries.specs.States.{states}
use Rattle.entries.specs.Rows.{rows}
use Rattle.entries.specs.Sections.{and_then, Lawful}
use Rattle.entries.specs.Files.{Layout, layout_of, Content, read_file, encode_file}

-- At most 256 starts, 256 accepting states and 1,024 rows.
abbrev pub table_layout : Layout ℕ ℕ Row
table_layout = layout_of states states rows 256 256 1024

-- The lists of a machine as the content of three sections, and back.
abbrev pub content_of : Lists → Content ℕ ℕ Row
content_of m = record { first = m.starts; second = m.accepts; third = m.rows }

abbrev pub lists_from : Content ℕ ℕ Row → Lists
lists_from c = record { starts = c.first; accepts = c.second; rows = c.third }

-- What opening bytes gives: the lists of the table, or the first fault.
abbrev pub open_table : List ℕ → Result Lists Fault
open_table bs = and_then (read_file table_layout bs) (λ c. Ok (lists_from c))

-- The lists that the layout defines for bytes; none for bytes that are no table.
abbrev pub listed : Result Lists Fault → Lists
listed (Ok m) = m
listed (Err f) = record { starts = []; accepts = []; rows = [] }

abbrev pub lists_of : List ℕ → Lists
lists_of bs = listed (open_table bs)

-- Lists that can stand in a table.
pub record LawfulTable (m : Lists) : Type 0 where
  pub starts : Lawful states 256 m.starts
  pub accepts : Lawful states 256 m.accepts
  pub rows : Lawful rows 1024 m.rows

abbrev pub encode_table : Lists → List ℕ
encode_table m = encode_file table_layout (content_of m)

-- Opening and encoding invert each other.
pub record TableLaws : Type 0 where
  -- bytes open exactly when they are the encoding of a lawful table, and then as that table
  pub exactly : (bs : List ℕ) (m : Lists) → all is_byte bs ≡ true → (open_table bs ≡ Ok m) ↔ (LawfulTable m × (bs ≡ encode_table m))
  -- two lawful tables with the same bytes have the same lists
  pub same : (m n : Lists) → LawfulTable m → LawfulTable n → encode_table m ≡ encode_table n → m ≡ n
