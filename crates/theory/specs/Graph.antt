-- The graph whose trails stand for stacks.
use Rattle.std.specs.Prelude.{◌≡◌, Bool, true, false, ℕ, ◌<◌, T}
use Rattle.std.proofs.Math.Option.{some}
use mathlib.Core.List.{List, [], ◌∷◌, ◌++◌, Memᴰ}
use Rattle.std.proofs.Math.ListN.{get_elem?}
use Rattle.machine.specs.declared.row.Row.{Row}
use Rattle.machine.specs.Rows.{pops, pushes}
use Rattle.machine.specs.Lists.{Lists}
use Rattle.machine.specs.Runs.{Reach}

-- The nodes below width are the states. An inner node has a label and a next node.
-- first i is the node of the whole word that the row at place i pushes.
pub record Graph : Type 0 where
  pub width : ℕ
  pub inner : ℕ → Bool
  pub label : ℕ → ℕ
  pub next : ℕ → ℕ
  pub first : ℕ → ℕ

-- A trail from x to y by edges of E, which read nothing, and by next-edges, which read the label.
-- What was read last stands first in the word.
pub data Trail (g : Graph) (E : ℕ → ℕ → Type 0) (x : ℕ) : List ℕ → ℕ → Type 0 where
  here : Trail g E x [] x
  edge : {w : List ℕ} {y z : ℕ} → Trail g E x w y → E y z → Trail g E x w z
  down : {w v : List ℕ} {y : ℕ} → Trail g E x w y → T (g.inner y) → v ≡ g.label y ∷ w → Trail g E x v (g.next y)

-- Each edge of E that the trail takes is in G.
abbrev pub Within : {g : Graph} {E : ℕ → ℕ → Type 0} (G : ℕ → ℕ → Type 0) {x : ℕ} {w : List ℕ} {y : ℕ} → Trail g E x w y → Type 0
Within G here = Unit {0}
Within G (edge {y} {z} p e) = Within G p × G y z
Within G (down p i e) = Within G p

-- No two edges of E stand side by side, and with false none stands at the end.
abbrev pub Lean : {g : Graph} {E : ℕ → ℕ → Type 0} {x : ℕ} {w : List ℕ} {y : ℕ} → Trail g E x w y → Bool → Type 0
Lean here b = Unit {0}
Lean (edge p e) true = Lean p false
Lean (edge p e) false = ⊥
Lean (down p i e) b = Lean p true

-- Row r stands at place i.
abbrev pub At : List Row → ℕ → Row → Type 0
At rows i r = get_elem? rows i ≡ some r

abbrev pub NoEdge : ℕ → ℕ → Type 0
NoEdge x y = ⊥

-- What the graph of a machine satisfies: node x stands for the state `st x` with `tail x` on top of whatever is below.
pub record Lawful (m : Lists) (g : Graph) : Type 0 where
  pub st : ℕ → ℕ
  pub tail : ℕ → List ℕ
  pub state_st : (q : ℕ) → q < g.width → st q ≡ q
  pub state_tail : (q : ℕ) → q < g.width → tail q ≡ []
  pub inner_st : (x : ℕ) → T (g.inner x) → st x ≡ st (g.next x)
  pub inner_tail : (x : ℕ) → T (g.inner x) → tail x ≡ tail (g.next x) ++ (g.label x ∷ [])
  pub walk : (i : ℕ) (r : Row) → At m.rows i r → Trail g NoEdge (g.first i) (pushes r) r.to
  pub starts_fit : (s : ℕ) → Memᴰ s m.starts → s < g.width
  pub accepts_fit : (f : ℕ) → Memᴰ f m.accepts → f < g.width
  pub from_fit : (r : Row) → Memᴰ r m.rows → r.from < g.width
  pub to_fit : (r : Row) → Memᴰ r m.rows → r.to < g.width

-- Each edge of E is a run of the machine.
abbrev pub Sound : (m : Lists) (g : Graph) → Lawful m g → (ℕ → ℕ → Type 0) → Type 0
Sound m g l E = (x y : ℕ) → E x y → Reach m (l.st x) (l.tail x) (l.st y) (l.tail y)

-- Where a lean trail reads what row i pops and ends where that row begins, there is an edge to the word that the row pushes.
abbrev pub Closed : Lists → Graph → (ℕ → ℕ → Type 0) → Type 0
Closed m g E = (i : ℕ) (r : Row) → At m.rows i r → (x : ℕ) (π : Trail g E x (pops r) r.from) → Lean π true → E x (g.first i)

-- From the state q with the stack κ, rows of m lead to an accepting state.
abbrev pub Accepts : Lists → ℕ → List ℕ → Type 0
Accepts m q κ = (f : ℕ) × (ω : List ℕ) × Memᴰ f m.accepts × Reach m q κ f ω

-- Some stack from a start puts x on top, and with y in place of x the machine goes on to accept.
abbrev pub Good : (m : Lists) (g : Graph) → Lawful m g → (ℕ → ℕ → Type 0) → ℕ → ℕ → Type 0
Good m g l E x y =
    (s : ℕ) × (ρ : List ℕ) × Memᴰ s m.starts × Trail g E s ρ x × Accepts m (l.st y) (l.tail y ++ ρ)

-- G has each edge on a trail from a start to an accepting state.
abbrev pub Based : Lists → Graph → (ℕ → ℕ → Type 0) → (ℕ → ℕ → Type 0) → Type 0
Based m g E G =
    (s f : ℕ) (w : List ℕ) → Memᴰ s m.starts → Memᴰ f m.accepts → (π : Trail g E s w f) → Within G π

-- Where G has the edge from x to what row i pushes, it has each edge on a lean trail from x that reads what the row pops.
abbrev pub Back : Lists → Graph → (ℕ → ℕ → Type 0) → (ℕ → ℕ → Type 0) → Type 0
Back m g E G =
    (i : ℕ) (r : Row) → At m.rows i r → (x : ℕ) (π : Trail g E x (pops r) r.from) → Lean π true → G x (g.first i) → Within G π
