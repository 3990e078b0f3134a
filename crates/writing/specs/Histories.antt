-- What holds after any calls, by the entries that they accepted.
-- Throughout, old is what the output held when writing began, and out is what it holds now.
use Rattle.std.specs.Prelude.{◌≡◌, ℕ, ◌+◌, ◌*◌, ◌<◌, ◌≤◌, List, [], ◌∷◌, ◌++◌, length, drop, Some, None, Ok, Err, Option, Result}
use Rattle.machine.specs.declared.fault.Fault.{Fault}
use Rattle.machine.specs.declared.row.Row.{Row}
use Rattle.machine.specs.Lists.{Lists}
use Rattle.entries.specs.Sorts.{Sort}
use Rattle.entries.specs.States.{states}
use Rattle.entries.specs.Rows.{rows}
use Rattle.entries.specs.Sections.{Lawful, joined, section_bytes}
use Rattle.entries.specs.Outputs.{put_at}
use Rattle.tables.specs.Tables.{LawfulTable, encode_table}
use Rattle.writing.specs.declared.section.Kind.{Kind}
use Rattle.writing.specs.Parts.{Part, no_entries, with_more, starts_kind, accepts_kind, rows_kind, starts_part, accepts_part, rows_part}
use Rattle.writing.specs.Stages.{Progress}

abbrev pub last_of : {X : Type 0} → List X → Option X
last_of [] = None
last_of (x ∷ []) = Some x
last_of (x ∷ y ∷ ys) = last_of (y ∷ ys)

-- The table after a put, by its answer.
abbrev pub after_put : {X : Type 0} → Part X → Lists → X → Result Unit Fault → Lists
after_put p m x (Ok _) = with_more p m x
after_put p m x (Err f) = m

-- A section is being written behind sections that are done, whose bytes are given, and exactly the entries xs were accepted.
pub record Writing {X : Type 0} (e : Sort X) (k : Kind) (old done : List ℕ) (xs : List X) (s : Progress X) (out : List ℕ) : Type 0 where
  -- the stage and the entries agree
  pub lawful : Lawful e k.most xs
  pub begin : s.begin ≡ length done
  pub count : s.count ≡ length xs
  pub last : s.last ≡ last_of xs
  -- the output holds what is done, two bytes for the count and the entries; every other byte is the old one
  pub bytes : 6 ≤ length old → out ≡ put_at (put_at old 0 done) (length done + 2) (joined e.encode xs)
  -- the section and the counts of the later ones fit
  pub room : 6 ≤ length old → length (done ++ section_bytes e xs) + 2 * k.later ≤ length old
  -- an output that is too short for three counts stays as it is, and takes no entry
  pub short : length old < 6 → (xs ≡ []) × (out ≡ old)

-- A table is being written, and exactly the entries of m were accepted: those of the earlier sections, which are done, and of this one so far.
pub record WritingTable {X : Type 0} (e : Sort X) (k : Kind) (p : Part X) (old : List ℕ) (m : Lists) (s : Progress X) (out : List ℕ) : Type 0 where
  pub lawful : LawfulTable m
  -- the later sections have no entries
  pub up_to : m ≡ p.with_entries m (p.entries m)
  pub none : length old < 6 → m ≡ no_entries
  pub section : Writing e k old (p.before m) (p.entries m) s out

-- Each section as it is written: the starts, then the accepting states, then the rows.
abbrev pub WritingStarts : List ℕ → Lists → Progress ℕ → List ℕ → Type 0
WritingStarts = WritingTable states starts_kind starts_part

abbrev pub WritingAccepts : List ℕ → Lists → Progress ℕ → List ℕ → Type 0
WritingAccepts = WritingTable states accepts_kind accepts_part

abbrev pub WritingRows : List ℕ → Lists → Progress Row → List ℕ → Type 0
WritingRows = WritingTable rows rows_kind rows_part

-- The table m was written: its encoding stands in front of what the output held, and n is its number of bytes.
-- Into an output that is too short for three counts nothing was written, and m has no entries.
pub record Finished (old : List ℕ) (m : Lists) (out : List ℕ) (n : ℕ) : Type 0 where
  pub lawful : LawfulTable m
  pub size : 6 ≤ length old → n ≡ length (encode_table m)
  pub bytes : 6 ≤ length old → out ≡ encode_table m ++ drop n old
  pub short : length old < 6 → (n ≡ 0) × (out ≡ old) × (m ≡ no_entries)
