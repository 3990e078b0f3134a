-- The nodes of a machine's graph and the edges between them, as they lie in words, and the levels of a word.
use Rattle.std.specs.Prelude.{◌≡◌, ℕ, suc, ◌<◌, ◌≤◌, T, List, length, slice_index, slice_index_or}
use Rattle.theory.specs.Graph.{Graph}
use Rattle.theory.specs.Levels.{Reads}
use Rattle.marking.specs.declared.nodes.Nodes.{Nodes}
use Rattle.marking.specs.declared.edges.Edges.{Edges}
use Rattle.marking.specs.Relations.{Member, On, Holds}

-- The nodes are those of the graph g.
pub record Drawn (g : Graph) (nodes : Nodes) : Type 0 where
  pub inner_from : (x : ℕ) → T (g.inner x) → (nodes.low ≤ x) × (x < nodes.size)
  pub inner_of : (x : ℕ) → nodes.low ≤ x → x < nodes.size → T (g.inner x)
  pub label : (x : ℕ) → nodes.low ≤ x → x < nodes.size → slice_index nodes.labels.now x ≡ g.label x
  pub next : (x : ℕ) → nodes.low ≤ x → x < nodes.size → slice_index nodes.nexts.now x ≡ g.next x

-- An edge leads from x to y.
abbrev pub Joins : Edges → ℕ → ℕ → Type 0
Joins edges x y = Holds edges.cells.now edges.nodes.size x y

-- The node x has the label, and its next node stands in line j.
pub record GoesOn (nodes : Nodes) (label : ℕ) (levels : List ℕ) (j x : ℕ) : Type 0 where
  pub labelled : slice_index_or nodes.labels.now x 0 ≡ label
  pub onward : On levels nodes.size 11 (slice_index nodes.nexts.now x) j

-- u stands before an inner node, below high, that has the label and whose next node stands in line j.
pub record Leads (edges : Edges) (label : ℕ) (levels : List ℕ) (j high u : ℕ) : Type 0 where
  pub node : ℕ
  pub above : edges.nodes.low ≤ node
  pub below : node < high
  pub on : GoesOn edges.nodes label levels j node
  pub before : Joins edges u node

-- From x a lean trail over E reads the first j symbols of the word and comes to q.
pub data Level (g : Graph) (E : ℕ → ℕ → Type 0) (word : List ℕ) (q : ℕ) : ℕ → ℕ → Type 0 where
  none : {x : ℕ} → E x q → Level g E word q 0 x
  again : {j x : ℕ} (z : ℕ) → Reads g word j z → E x z → Level g E word q j (g.next z) → Level g E word q (suc j) x

-- Lines 0 to k are the levels of the word.
pub record Filled (g : Graph) (E : ℕ → ℕ → Type 0) (word : List ℕ) (q n : ℕ) (levels : List ℕ) (k : ℕ) : Type 0 where
  pub has : (j z : ℕ) → j ≤ k → z < n → Level g E word q j z → On levels n 11 z j
  pub only : (j z : ℕ) → j ≤ k → On levels n 11 z j → Level g E word q j z

-- The set has the nodes from which the whole word can be read down to q.
pub record Readers (g : Graph) (E : ℕ → ℕ → Type 0) (word : List ℕ) (q n : ℕ) (set : List ℕ) : Type 0 where
  pub on : (x : ℕ) → Member set x → Level g E word q (length word) x
  pub off : (x : ℕ) → x < n → Level g E word q (length word) x → Member set x

-- The relation b has the pairs of a, and besides each pair of a node of the word's last level and a node that f stands before in a.
abbrev pub Follows : Graph → List ℕ → ℕ → ℕ → List ℕ → ℕ → ℕ → ℕ → Type 0
Follows g a n f word q u v = Level g (Holds a n) word q (length word) u × Holds a n f v
