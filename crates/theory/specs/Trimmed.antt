-- What it is to trim a machine to its useful parts, and lists that ascend.
use Rattle.std.specs.Prelude.{◌↔◌, ℕ}
use mathlib.Core.List.{List, [], ◌∷◌, Memᴰ}
use Rattle.machine.specs.declared.row.Row.{Row}
use Rattle.machine.specs.Lists.{Lists}
use Rattle.machine.specs.Runs.{Among, UsefulRow, UsefulStart, UsefulAccept, SameRuns}

-- The same starts, accepting states and rows are useful in both.
pub record SameUseful (m n : Lists) : Type 0 where
  pub starts : (s : ℕ) → UsefulStart m s ↔ UsefulStart n s
  pub accepts : (f : ℕ) → UsefulAccept m f ↔ UsefulAccept n f
  pub rows : (r : Row) → UsefulRow m r ↔ UsefulRow n r

-- t has as members exactly what is useful in m.
pub record TrimOf (m t : Lists) : Type 0 where
  pub starts : (s : ℕ) → Memᴰ s t.starts ↔ UsefulStart m s
  pub accepts : (f : ℕ) → Memᴰ f t.accepts ↔ UsefulAccept m f
  pub rows : (r : Row) → Memᴰ r t.rows ↔ UsefulRow m r

-- Each part of t is a part of n.
pub record PartOf (t n : Lists) : Type 0 where
  pub starts : Among t.starts n.starts
  pub accepts : Among t.accepts n.accepts
  pub rows : Among t.rows n.rows

-- A trimmed machine has the accepting runs of the machine that it came from, and it is part of every machine that has them.
-- Two machines have the same accepting runs where the same parts of them are useful, and only there.
-- No contract asks for this record; proofs/Trim.antt proves it.
pub record Trimming : Type 0 where
  pub same : (m t : Lists) → TrimOf m t → SameRuns m t
  pub least : (m t n : Lists) → TrimOf m t → SameRuns m n → PartOf t n
  pub decided : (m n : Lists) → SameRuns m n ↔ SameUseful m n

-- Each element stands in R to the next.
abbrev pub Ascending : {A : Type 0} → (A → A → Type 0) → List A → Type 0
Ascending R [] = Unit {0}
Ascending R (x ∷ []) = Unit {0}
Ascending R (x ∷ (y ∷ ys)) = R x y × Ascending R (y ∷ ys)
