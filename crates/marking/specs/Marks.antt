-- What marking answers: the mark of each row, by the runs of the machine, and the memory that it takes.
use Rattle.std.specs.Prelude.{◌≡◌, ℕ, ◌+◌, ◌*◌, ◌<◌, Bool, true, false, cond, ltb, ◌↔◌, List, [], ◌∷◌, length, take, drop, Some, None, Ok, Err, Option, Result, nat_eq, nat_lt, slice_index, slice_index_or}
use Rattle.machine.specs.declared.fault.Fault.{Fault}
use Rattle.machine.specs.declared.fault.Rule.TheVariants.{Scratch, Marks}
use Rattle.machine.specs.declared.row.Row.{Row}
use Rattle.machine.specs.Faults.{fault}
use Rattle.machine.specs.Lists.{Lists, width_of}
use Rattle.machine.specs.Rows.{zero_row, pushes}
use Rattle.machine.specs.Runs.{Reachable, UsefulRow, UsefulStart, UsefulAccept}
use Rattle.marking.specs.declared.counts.Counts.{Counts}
use Rattle.marking.specs.declared.useful.Useful.{Useful}

abbrev pub row_at : Lists → ℕ → Row
row_at m i = slice_index_or m.rows i zero_row

-- The mark k of a row: 2 where some accepting run takes it, 1 where some run does but no accepting one, 0 where none does.
pub record IsMark (m : Lists) (r : Row) (k : ℕ) : Type 0 where
  pub useful : (k ≡ 2) ↔ UsefulRow m r
  pub reachable : (k ≡ 1) ↔ (Reachable m r × (UsefulRow m r → ⊥))
  pub idle : (k ≡ 0) ↔ (Reachable m r → ⊥)

-- A mark for each row of the machine, in the order of the rows.
pub record Marked (m : Lists) (marks : List ℕ) : Type 0 where
  pub long : length marks ≡ length m.rows
  pub each : (i : ℕ) → i < length m.rows → IsMark m (row_at m i) (slice_index marks i)

abbrev pub count_if : (ℕ → Bool) → List ℕ → ℕ
count_if ok [] = 0
count_if ok (k ∷ ks) = cond (ok k) 1 0 + count_if ok ks

-- How many marks are above 0, and how many are 2.
abbrev pub counts_of : List ℕ → Counts
counts_of marks = record { reachable = count_if (λ k. ltb 0 k) marks; useful = count_if (λ k. nat_eq k 2) marks }

-- A flag for each state, which says whether P holds of it.
pub record Flags (flags : List Bool) (P : ℕ → Type 0) : Type 0 where
  pub long : length flags ≡ 256
  pub each : (s : ℕ) → (slice_index_or flags s false ≡ true) ↔ P s

-- The symbols that rows push, all together.
abbrev pub pushed : List Row → ℕ
pushed [] = 0
pushed (r ∷ rs) = length (pushes r) + pushed rs

-- The nodes of a machine: one for each state, one for each symbol pushed, and four to spare.
abbrev pub node_count : Lists → ℕ
node_count m = width_of m + 4 + pushed m.rows

-- The words of scratch for n nodes and r rows.
abbrev pub words_for : ℕ → ℕ → ℕ
words_for n r = 4 * n * n + 8 * n + 4 * r

abbrev pub scratch_need : Lists → ℕ
scratch_need m = words_for (node_count m) (length m.rows)

-- Why marking is refused, with so many words of scratch and so many mark bytes; None where it is not.
abbrev pub refusal : Lists → ℕ → ℕ → Option Fault
refusal m words bytes =
    cond (nat_lt words (scratch_need m)) (Some (fault Scratch 0 0))
    (cond (nat_lt bytes (length m.rows)) (Some (fault Marks 0 0)) None)

-- The first bytes are the marks of the rows, and those after them are the old ones.
pub record Sets (m : Lists) (old new : List ℕ) : Type 0 where
  pub marked : Marked m (take (length m.rows) new)
  pub beyond : drop (length m.rows) new ≡ drop (length m.rows) old
  pub long : length new ≡ length old

-- What was found of a machine: the marks of its rows, how many there are, its useful starts and its useful accepting states.
pub record Finds (m : Lists) (old new : List ℕ) (u : Useful) : Type 0 where
  pub sets : Sets m old new
  pub counts : u.counts ≡ counts_of (take (length m.rows) new)
  pub starts : Flags u.starts (UsefulStart m)
  pub accepts : Flags u.accepts (UsefulAccept m)

-- A call is refused: it leaves the scratch and the mark bytes as they were.
abbrev pub Refused : Lists → List ℕ → List ℕ → List ℕ → List ℕ → Fault → Type 0
Refused m scratch scratch' marks marks' f =
    (refusal m (length scratch) (length marks) ≡ Some f) × (scratch' ≡ scratch) × (marks' ≡ marks)

-- A call is carried out: the scratch then holds anything.
abbrev pub Granted : Lists → List ℕ → List ℕ → List ℕ → Type 0
Granted m scratch scratch' marks = (refusal m (length scratch) (length marks) ≡ None) × (length scratch' ≡ length scratch)

-- What a call of marking answers, and what it leaves in the scratch and in the mark bytes.
abbrev pub Outcome : Lists → List ℕ → List ℕ → List ℕ → List ℕ → Result Counts Fault → Type 0
Outcome m scratch scratch' marks marks' (Ok c) =
    Granted m scratch scratch' marks × Sets m marks marks' × (c ≡ counts_of (take (length m.rows) marks'))
Outcome m scratch scratch' marks marks' (Err f) = Refused m scratch scratch' marks marks' f

-- The same where the useful starts and accepting states are asked for too.
abbrev pub UsefulOutcome : Lists → List ℕ → List ℕ → List ℕ → List ℕ → Result Useful Fault → Type 0
UsefulOutcome m scratch scratch' marks marks' (Ok u) = Granted m scratch scratch' marks × Finds m marks marks' u
UsefulOutcome m scratch scratch' marks marks' (Err f) = Refused m scratch scratch' marks marks' f

-- The runs of a machine fix its marks.
abbrev pub OneMarking : Type 0
OneMarking = (m : Lists) (js ks : List ℕ) → Marked m js → Marked m ks → js ≡ ks
