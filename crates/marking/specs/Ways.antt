-- The ways of a word: lean trails that read it and whose first node stands in a relation C to a node top.
-- They are walked from their beginning, while levels are filled from their end.
use Rattle.std.specs.Prelude.{◌≡◌, ℕ, suc, ◌+◌, ◌<◌, ◌≤◌, ◌⊎◌, List, length, slice_index}
use Rattle.theory.specs.Graph.{Graph}
use Rattle.theory.specs.Levels.{Reads}
use Rattle.marking.specs.declared.edges.Edges.{Edges}
use Rattle.marking.specs.Relations.{On}
use Rattle.marking.specs.Nodes.{Level, Joins, GoesOn}

-- A way comes to x where the first j symbols of the word are still to read.
pub data Passed (g : Graph) (E C : ℕ → ℕ → Type 0) (word : List ℕ) (q top : ℕ) : ℕ → ℕ → Type 0 where
  begin : {j x : ℕ} → j ≡ length word → Level g E word q j x → C x top → Passed g E C word q top j x
  step : {j x : ℕ} (y z : ℕ) → Passed g E C word q top (suc j) y → E y z → Reads g word j z → x ≡ g.next z → Level g E word q j x → Passed g E C word q top j x

-- The edge from u to the inner node v lies on a way.
pub record Inside (g : Graph) (E C : ℕ → ℕ → Type 0) (word : List ℕ) (q top u v : ℕ) : Type 0 where
  pub place : ℕ
  pub passed : Passed g E C word q top (suc place) u
  pub step : E u v
  pub reads : Reads g word place v
  pub level : Level g E word q place (g.next v)

-- The edge from u to v is the last one of a way, to q.
pub record Last (g : Graph) (E C : ℕ → ℕ → Type 0) (word : List ℕ) (q top u v : ℕ) : Type 0 where
  pub end : v ≡ q
  pub passed : Passed g E C word q top 0 u
  pub step : E u q

-- The edge from u to v lies on a way.
abbrev pub OnWay : Graph → (ℕ → ℕ → Type 0) → (ℕ → ℕ → Type 0) → List ℕ → ℕ → ℕ → ℕ → ℕ → Type 0
OnWay g E C word q top u v = Inside g E C word q top u v ⊎ Last g E C word q top u v

-- Lines from k up to the word's length have the nodes that ways come to, and the lines below are empty.
pub record Walked (g : Graph) (E C : ℕ → ℕ → Type 0) (word : List ℕ) (q top n : ℕ) (ways : List ℕ) (k : ℕ) : Type 0 where
  pub has : (j z : ℕ) → k ≤ j → z < n → Passed g E C word q top j z → On ways n 11 z j
  pub only : (j z : ℕ) → j ≤ length word → On ways n 11 z j → Passed g E C word q top j z
  pub below : (j z : ℕ) → j < k → On ways n 11 z j → ⊥

-- u is the next node of an inner node, below high, that has the label and to which an edge leads from a node of line j + 1 of the ways; and u is in line j of the levels.
pub record Comes (edges : Edges) (label : ℕ) (levels ways : List ℕ) (j high u : ℕ) : Type 0 where
  pub node : ℕ
  pub above : edges.nodes.low ≤ node
  pub below : node < high
  pub on : GoesOn edges.nodes label levels j node
  pub next : u ≡ slice_index edges.nodes.nexts.now node
  pub source : ℕ
  pub way : On ways edges.nodes.size 11 source (j + 1)
  pub before : Joins edges source node

-- An edge leads from u, of line j + 1 of the ways, to the inner node v, below high, that has the label and whose next node is in line j of the levels.
pub record Leaves (edges : Edges) (label : ℕ) (levels ways : List ℕ) (j high u v : ℕ) : Type 0 where
  pub above : edges.nodes.low ≤ v
  pub below : v < high
  pub on : GoesOn edges.nodes label levels j v
  pub way : On ways edges.nodes.size 11 u (j + 1)
  pub before : Joins edges u v
