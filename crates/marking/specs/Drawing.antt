-- The nodes of the words that rows push, as they are written down row by row.
use Rattle.std.specs.Prelude.{◌≡◌, ℕ, zero, suc, ◌+◌, ◌<◌, ◌≤◌, List, length, take, slice_index}
use Rattle.machine.specs.Rows.{pushes}
use Rattle.machine.specs.Lists.{Lists}
use Rattle.marking.specs.Marks.{row_at, pushed}

-- The nodes of a word lie from base on, one for each symbol. The next node of each is the one before it, and of the first it is prev.
abbrev pub next_of : ℕ → ℕ → ℕ → ℕ
next_of base prev zero = prev
next_of base prev (suc k) = base + k

-- The first so many nodes of the word are there.
pub record WordDrawn (word : List ℕ) (base prev : ℕ) (labels nexts : List ℕ) (count : ℕ) : Type 0 where
  pub label : (k : ℕ) → k < count → slice_index labels (base + k) ≡ slice_index word k
  pub next : (k : ℕ) → k < count → slice_index nexts (base + k) ≡ next_of base prev k

-- What lies below a place is as it was.
abbrev pub Below : ℕ → List ℕ → List ℕ → Type 0
Below base old new = (x : ℕ) → x < base → slice_index new x ≡ slice_index old x

-- A word was drawn from base on.
pub record DrewWord (word : List ℕ) (base prev : ℕ) (labels nexts labels' nexts' : List ℕ) (count last : ℕ) : Type 0 where
  pub drawn : WordDrawn word base prev labels' nexts' count
  pub labels_below : Below base labels labels'
  pub nexts_below : Below base nexts nexts'
  pub final : last ≡ next_of base prev count

-- The node from which the nodes of the word lie that the row at a place pushes.
abbrev pub base_of : Lists → ℕ → ℕ → ℕ
base_of m low i = low + pushed (take i m.rows)

-- The words of the rows before a place were drawn, and the first nodes of those rows written down.
pub record DrewRows (m : Lists) (low : ℕ) (labels nexts firsts : List ℕ) (count base : ℕ) : Type 0 where
  pub words : (i : ℕ) → i < count → WordDrawn (pushes (row_at m i)) (base_of m low i) (row_at m i).to labels nexts (length (pushes (row_at m i)))
  pub first : (i : ℕ) → i < count → slice_index firsts i ≡ next_of (base_of m low i) (row_at m i).to (length (pushes (row_at m i)))
  pub reached : base ≡ base_of m low count

-- There is room for the nodes.
pub record Roomy (m : Lists) (low : ℕ) (labels nexts firsts : List ℕ) : Type 0 where
  pub labels_room : low + pushed m.rows ≤ length labels
  pub nexts_room : low + pushed m.rows ≤ length nexts
  pub firsts_room : length m.rows ≤ length firsts
  pub few : low + pushed m.rows ≤ 65535
