-- A whole table, written from its lists.
use Rattle.std.specs.Prelude.{◌≡◌, ℕ, ◌<◌, ◌≤◌, List, [], ◌∷◌, ◌++◌, length, take, Some, Ok, Result, MatchResult}
use Rattle.machine.specs.declared.fault.Fault.{Fault}
use Rattle.machine.specs.declared.fault.Rule.TheVariants.{Output}
use Rattle.machine.specs.Faults.{fault}
use Rattle.machine.specs.Lists.{Lists}
use Rattle.entries.specs.Sorts.{Sort}
use Rattle.entries.specs.States.{states}
use Rattle.entries.specs.Rows.{rows}
use Rattle.entries.specs.Sections.{Lawful, section_bytes}
use Rattle.tables.specs.Tables.{open_table}
use Rattle.writing.specs.declared.section.Kind.{Kind}
use Rattle.writing.specs.Parts.{Part, starts_kind, accepts_kind, rows_kind, no_entries}
use Rattle.writing.specs.Stages.{Progress, put_fault}
use Rattle.writing.specs.Histories.{Writing, WritingTable, Finished}

-- The entries before one of them were accepted, and that one was refused with this fault.
pub record Stopped {X : Type 0} (e : Sort X) (k : Kind) (old done : List ℕ) (xs : List X) (f : Fault) (out : List ℕ) : Type 0 where
  pub before : List X
  pub refused : X
  pub later : List X
  pub stage : Progress X
  pub is : xs ≡ before ++ refused ∷ later
  pub writing : Writing e k old done before stage out
  pub why : put_fault e k stage (length out) refused ≡ Some f

-- All the entries were put into this section of the table m, or those before the first that was refused.
abbrev pub AllPut : {X : Type 0} → Sort X → Kind → Part X → List ℕ → Lists → List X → Result Unit Fault → Progress X → List ℕ → Type 0
AllPut e k p old m xs r s out = MatchResult r (λ _. WritingTable e k p old (p.with_entries m xs) s out) (λ f. Stopped e k old (p.before m) xs f out)

-- Why a table was not written, section by section; last, that the output is too short for three counts.
pub data Unwritten (old : List ℕ) (m : Lists) (f : Fault) (out : List ℕ) : Type 0 where
  in_starts : Stopped states starts_kind old [] m.starts f out → Unwritten old m f out
  in_accepts : Lawful states 256 m.starts → Stopped states accepts_kind old (section_bytes states m.starts) m.accepts f out → Unwritten old m f out
  in_rows : Lawful states 256 m.starts → Lawful states 256 m.accepts
      → Stopped rows rows_kind old (section_bytes states m.starts ++ section_bytes states m.accepts) m.rows f out → Unwritten old m f out
  no_room : length old < 6 → m ≡ no_entries → f ≡ fault Output 0 0 → out ≡ old → Unwritten old m f out

-- The table stands in front of what the output held, and opens as itself; or it was not written.
pub record Written (old : List ℕ) (m : Lists) (n : ℕ) (out : List ℕ) : Type 0 where
  pub long : 6 ≤ length old
  pub fits : n ≤ length old
  pub finished : Finished old m out n
  pub opens : open_table (take n out) ≡ Ok m
