-- A section as a part of a table.
use Rattle.std.specs.Prelude.{◌≡◌, ℕ, ◌+◌, ◌*◌, ◌≤◌, List, [], ◌∷◌, ◌++◌, length}
use Rattle.machine.specs.declared.row.Row.{Row}
use Rattle.machine.specs.Lists.{Lists}
use Rattle.entries.specs.Sorts.{Sort}
use Rattle.entries.specs.States.{states}
use Rattle.entries.specs.Sections.{Lawful, section_bytes}
use Rattle.tables.specs.Tables.{LawfulTable, encode_table}
use Rattle.writing.specs.declared.section.Kind.{Kind}

-- The sections of a table, in their order.
abbrev pub starts_kind : Kind
starts_kind = record { section = 1; most = 256; later = 2 }

abbrev pub accepts_kind : Kind
accepts_kind = record { section = 2; most = 256; later = 1 }

abbrev pub rows_kind : Kind
rows_kind = record { section = 3; most = 1024; later = 0 }

abbrev pub table_of : List ℕ → List ℕ → List Row → Lists
table_of ss fs rs = record { starts = ss; accepts = fs; rows = rs }

abbrev pub no_entries : Lists
no_entries = table_of [] [] []

-- Where a section stands in a table.
pub record Part (X : Type 0) : Type 0 where
  -- the last place at which it may begin
  pub latest : ℕ
  -- its entries
  pub entries : Lists → List X
  -- the bytes of the sections before it
  pub before : Lists → List ℕ
  -- the table up to this section, which has these entries; later sections have none
  pub with_entries : Lists → List X → Lists

-- The table with one more entry in this section.
abbrev pub with_more : {X : Type 0} → Part X → Lists → X → Lists
with_more p m x = p.with_entries m (p.entries m ++ x ∷ [])

abbrev pub starts_part : Part ℕ
starts_part = record { latest = 0; entries = λ m. m.starts; before = λ m. []; with_entries = λ m ss. table_of ss [] [] }

abbrev pub accepts_part : Part ℕ
accepts_part =
    record {
      latest = 258;
      entries = λ m. m.accepts;
      before = λ m. section_bytes states m.starts;
      with_entries = λ m fs. table_of m.starts fs [];
    }

abbrev pub rows_part : Part Row
rows_part =
    record {
      latest = 516;
      entries = λ m. m.rows;
      before = λ m. section_bytes states m.starts ++ section_bytes states m.accepts;
      with_entries = λ m rs. table_of m.starts m.accepts rs;
    }

-- What every section obeys.
pub record PartLaws {X : Type 0} (e : Sort X) (k : Kind) (p : Part X) : Type 0 where
  -- its numbers are small enough for every sum of them
  pub wide : e.wide ≤ 25
  pub most : k.most ≤ 1024
  pub later : k.later ≤ 2
  pub latest : p.latest ≤ 516
  -- the entries are those that were given, and stand behind the same bytes
  pub entries : (m : Lists) (xs : List X) → p.entries (p.with_entries m xs) ≡ xs
  pub before : (m : Lists) (xs : List X) → p.before (p.with_entries m xs) ≡ p.before m
  pub with_entries : (m : Lists) (xs ys : List X) → p.with_entries (p.with_entries m xs) ys ≡ p.with_entries m ys
  -- lawful entries keep a table lawful
  pub lawful : (m : Lists) (xs : List X) → LawfulTable m → Lawful e k.most xs → LawfulTable (p.with_entries m xs)
  -- the table's bytes are those before the section, the section's and the later counts
  pub size : (m : Lists) (xs : List X) → length (encode_table (p.with_entries m xs)) ≡ length (p.before m ++ section_bytes e xs) + 2 * k.later
  -- the three counts are six bytes
  pub counts : (m : Lists) → 4 ≤ length (p.before m) + 2 * k.later

-- What a section and the next one obey.
pub record NextLaws {X Y : Type 0} (e : Sort X) (k : Kind) (p : Part X) (f : Sort Y) (n : Kind) (q : Part Y) : Type 0 where
  pub later : k.later ≡ n.later + 1
  -- the longest section ends where the next one may begin
  pub latest : p.latest + 2 + e.wide * k.most ≤ q.latest
  -- the next one stands behind this one, and has no entries yet
  pub before : (m : Lists) (xs : List X) → q.before (p.with_entries m xs) ≡ p.before m ++ section_bytes e xs
  pub none : (m : Lists) (xs : List X) → q.with_entries (p.with_entries m xs) [] ≡ p.with_entries m xs
