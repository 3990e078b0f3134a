-- The words that nodes take, and where the states and rows of a machine stand among nodes.
use Rattle.std.specs.Prelude.{◌≡◌, ℕ, ◌<◌, ◌≤◌, List, length, slice_index}
use Rattle.machine.specs.Lists.{Lists}
use Rattle.marking.specs.Marks.{row_at}

-- Words for n nodes, of which those from low on are inner.
pub record Shaped (n low : ℕ) (labels nexts : List ℕ) : Type 0 where
  pub labels_long : length labels ≡ n
  pub nexts_long : length nexts ≡ n
  pub low_in : low ≤ n
  pub next_in : (x : ℕ) → low ≤ x → x < n → slice_index nexts x < n

-- The states of the machine are nodes, and firsts has a node for each row.
pub record Fit (m : Lists) (n : ℕ) (firsts : List ℕ) : Type 0 where
  pub long : length m.rows ≤ length firsts
  pub from : (i : ℕ) → i < length m.rows → (row_at m i).from < n
  pub first : (i : ℕ) → i < length m.rows → slice_index firsts i < n
  pub starts : (i : ℕ) → i < length m.starts → slice_index m.starts i < n
  pub accepts : (i : ℕ) → i < length m.accepts → slice_index m.accepts i < n
