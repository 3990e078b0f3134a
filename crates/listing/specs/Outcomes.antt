-- What listing the marks of a machine answers, and what it leaves in the scratch, in the mark bytes and in the output.
use Rattle.std.specs.Prelude.{◌≡◌, ℕ, ◌<◌, ◌≤◌, ◌⊎◌, List, ◌++◌, length, take, drop, Some, None, Ok, Err, Result}
use Rattle.machine.specs.declared.fault.Fault.{Fault}
use Rattle.machine.specs.declared.fault.Rule.TheVariants.{Output}
use Rattle.machine.specs.Faults.{fault}
use Rattle.machine.specs.Lists.{Lists}
use Rattle.marking.specs.Marks.{refusal, Sets}
use Rattle.listing.specs.Listings.{listing_text}

-- The text stands at the start of the output where it fits, before the old bytes; else the output is the old one.
abbrev pub Written : List ℕ → List ℕ → List ℕ → Result ℕ Fault → Type 0
Written text old new (Ok n) = (n ≡ length text) × (n ≤ length old) × (new ≡ text ++ drop n old)
Written text old new (Err f) = (length old < length text) × (f ≡ fault Output 0 0) × (new ≡ old)

-- Marking is refused, and nothing changes.
pub record NotMarked (m : Lists) (scratch scratch' marks marks' out out' : List ℕ) (f : Fault) : Type 0 where
  pub why : refusal m (length scratch) (length marks) ≡ Some f
  pub scratch_kept : scratch' ≡ scratch
  pub marks_kept : marks' ≡ marks
  pub out_kept : out' ≡ out

-- The rows are marked, and then their listing is written or does not fit.
pub record MarkedRows (m : Lists) (scratch scratch' marks marks' out out' : List ℕ) (r : Result ℕ Fault) : Type 0 where
  pub allowed : refusal m (length scratch) (length marks) ≡ None
  pub scratch_long : length scratch' ≡ length scratch
  pub sets : Sets m marks marks'
  pub written : Written (listing_text (take (length m.rows) marks')) out out' r

abbrev pub ListOutcome : Lists → List ℕ → List ℕ → List ℕ → List ℕ → List ℕ → List ℕ → Result ℕ Fault → Type 0
ListOutcome m scratch scratch' marks marks' out out' (Ok n) = MarkedRows m scratch scratch' marks marks' out out' (Ok n)
ListOutcome m scratch scratch' marks marks' out out' (Err f) =
    NotMarked m scratch scratch' marks marks' out out' f ⊎ MarkedRows m scratch scratch' marks marks' out out' (Err f)
