-- Nodes to which trails lead from a set, and nodes from which they lead into one.
use Rattle.std.specs.Prelude.{◌≡◌, ℕ, ◌<◌, ◌≤◌, Bool, true, false, T, List, slice_index}
use mathlib.Core.List.{Memᴰ}
use Rattle.theory.specs.Graph.{Graph}
use Rattle.marking.specs.Relations.{Member, Holds, zeros}
use Rattle.marking.specs.declared.edges.Edges.{Edges}
use Rattle.marking.specs.Nodes.{Drawn, Joins}

pub data Ahead (g : Graph) (E : ℕ → ℕ → Type 0) (S : ℕ → Type 0) : ℕ → Type 0 where
  begin : {x : ℕ} → S x → Ahead g E S x
  along : {x y : ℕ} → Ahead g E S x → E x y → Ahead g E S y
  lower : {x : ℕ} → Ahead g E S x → T (g.inner x) → Ahead g E S (g.next x)

pub data Behind (g : Graph) (E : ℕ → ℕ → Type 0) (S : ℕ → Type 0) : ℕ → Type 0 where
  end : {x : ℕ} → S x → Behind g E S x
  along : {x y : ℕ} → E x y → Behind g E S y → Behind g E S x
  lower : {x : ℕ} → T (g.inner x) → Behind g E S (g.next x) → Behind g E S x

-- The set b is made from a by the inner nodes before k: a node whose next node is in the set comes in, with all that stand before it.
pub record Rises (edges : Edges) (a b : List ℕ) (changed : Bool) (k : ℕ) : Type 0 where
  pub grows : (z : ℕ) → Member a z → Member b z
  pub down : (u z : ℕ) → Joins edges u z → Member b z → Member b u
  pub sound : (g : Graph) → Drawn g edges.nodes → (z : ℕ) → Member b z → Behind g (Joins edges) (Member a) z
  pub same : changed ≡ false → b ≡ a
  pub fewer : changed ≡ true → zeros b < zeros a
  pub closed : changed ≡ false → (x : ℕ) → edges.nodes.low ≤ x → x < k → Member b (slice_index edges.nodes.nexts.now x) → Member b x

-- The set has exactly the nodes from which a trail leads into S.
pub record IsBehind (edges : Edges) (S : List ℕ) (set : List ℕ) : Type 0 where
  pub sound : (g : Graph) → Drawn g edges.nodes → (z : ℕ) → Member set z → Behind g (Joins edges) (λ x. Memᴰ x S) z
  pub done : (g : Graph) → Drawn g edges.nodes → (z : ℕ) → Behind g (Joins edges) (λ x. Memᴰ x S) z → Member set z

-- z stands before one of the first k states of the list.
abbrev pub BeforeOne : List ℕ → ℕ → List ℕ → ℕ → ℕ → Type 0
BeforeOne cells n ss k z = (i : ℕ) × (i < k) × Holds cells n z (slice_index ss i)

-- The set b is made from a by the inner nodes before k: where a node is in the set its next node comes in, with all that it stands before.
pub record Sinks (edges : Edges) (a b : List ℕ) (changed : Bool) (k : ℕ) : Type 0 where
  pub grows : (z : ℕ) → Member a z → Member b z
  pub up : (z u : ℕ) → Joins edges z u → Member b z → Member b u
  pub sound : (g : Graph) → Drawn g edges.nodes → (z : ℕ) → Member b z → Ahead g (Joins edges) (Member a) z
  pub same : changed ≡ false → b ≡ a
  pub fewer : changed ≡ true → zeros b < zeros a
  pub closed : changed ≡ false → (x : ℕ) → edges.nodes.low ≤ x → x < k → Member b x → Member b (slice_index edges.nodes.nexts.now x)

-- The set has exactly the nodes to which a trail leads from S.
pub record IsAhead (edges : Edges) (S : List ℕ) (set : List ℕ) : Type 0 where
  pub sound : (g : Graph) → Drawn g edges.nodes → (z : ℕ) → Member set z → Ahead g (Joins edges) (λ x. Memᴰ x S) z
  pub done : (g : Graph) → Drawn g edges.nodes → (z : ℕ) → Ahead g (Joins edges) (λ x. Memᴰ x S) z → Member set z

-- One of the first k states of the list stands before z.
abbrev pub AfterOne : List ℕ → ℕ → List ℕ → ℕ → ℕ → Type 0
AfterOne cells n ss k z = (i : ℕ) × (i < k) × Holds cells n (slice_index ss i) z
