-- The theorems that contracts ask for. A relation is given as a table of Booleans, so that each statement is a type of level 0.
use Rattle.std.specs.Prelude.{◌≡◌, Bool, true, ◌↔◌, ℕ, T}
use mathlib.Core.List.{List, [], ◌++◌, Memᴰ}
use Rattle.machine.specs.declared.row.Row.{Row}
use Rattle.machine.specs.Rows.{pops}
use Rattle.machine.specs.Lists.{Lists}
use Rattle.machine.specs.Runs.{Among, Reach, Reachable, UsefulRow, UsefulStart, UsefulAccept}
use Rattle.theory.specs.Trimmed.{Ascending}
use Rattle.theory.specs.Graph.{Graph, Trail, Within, Lean, At, Lawful, Sound, Closed, Accepts, Good, Based, Back}
use Rattle.theory.specs.Layout.{graph_of, Fits}

abbrev pub Table : Type 0
Table = ℕ → ℕ → Bool

abbrev pub Holds : {A : Type 0} → (A → A → Bool) → A → A → Type 0
Holds e x y = T (e x y)

-- Of a table e of edges that is sound and closed: what its trails say of runs.
pub record Forward (m : Lists) (g : Graph) (l : Lawful m g) (e : Table) : Type 0 where
  pub sound_trail : (x y : ℕ) (w : List ℕ) → Trail g (Holds e) x w y → (ρ : List ℕ) → Reach m (l.st x) (l.tail x ++ ρ) (l.st y) (l.tail y ++ (w ++ ρ))
  pub complete : (s q : ℕ) (ω : List ℕ) → Reach m s [] q ω → (π : Trail g (Holds e) s ω q) × Lean π true
  pub reachable : (r : Row) → Memᴰ r m.rows → Reachable m r ↔ ((s : ℕ) × Memᴰ s m.starts × (ρ : List ℕ) × (x : ℕ) × Trail g (Holds e) s ρ x × (π : Trail g (Holds e) x (pops r) r.from) × Lean π true)
  pub useful_start : (s : ℕ) → UsefulStart m s ↔ (Memᴰ s m.starts × (f : ℕ) × Memᴰ f m.accepts × (w : List ℕ) × Trail g (Holds e) s w f)
  pub useful_accept : (f : ℕ) → UsefulAccept m f ↔ (Memᴰ f m.accepts × (s : ℕ) × Memᴰ s m.starts × (w : List ℕ) × Trail g (Holds e) s w f)

abbrev pub Forwards : Type 0
Forwards = (m : Lists) (g : Graph) (l : Lawful m g) (e : Table) → Sound m g l (Holds e) → Closed m g (Holds e) → Forward m g l e

-- Of a table c of edges that is based and goes back: what it says of useful rows.
pub record Backward (m : Lists) (g : Graph) (l : Lawful m g) (e c : Table) : Type 0 where
  pub needed : (s : ℕ) → Memᴰ s m.starts → (κ : List ℕ) (q : ℕ) (π : Trail g (Holds e) s κ q) → Lean π true → Accepts m q κ → Within (Holds c) π
  pub useful_row : ((x y : ℕ) → T (c x y) → Good m g l (Holds e) x y) → (i : ℕ) (r : Row) → At m.rows i r → UsefulRow m r ↔ ((x : ℕ) × (π : Trail g (Holds e) x (pops r) r.from) × Lean π true × T (c x (g.first i)))

abbrev pub Backwards : Type 0
Backwards =
    (m : Lists) (g : Graph) (l : Lawful m g) (e c : Table) → Sound m g l (Holds e) → Closed m g (Holds e)
    → Based m g (Holds e) (Holds c) → Back m g (Holds e) (Holds c) → Backward m g l e c

-- The rules by which c grows add only good edges.
pub record Grows (m : Lists) (g : Graph) (l : Lawful m g) (e : Table) : Type 0 where
  pub based : Based m g (Holds e) (Good m g l (Holds e))
  pub back : Back m g (Holds e) (Good m g l (Holds e))

abbrev pub Growing : Type 0
Growing = (m : Lists) (g : Graph) (l : Lawful m g) (e : Table) → Sound m g l (Holds e) → Grows m g l e

-- Each machine has a lawful graph, and the runs of the machine itself are edges that are sound and closed.
pub record Stands (m : Lists) (width : ℕ) : Type 0 where
  pub lawful : Lawful m (graph_of width m.rows)
  pub closed : Closed m (graph_of width m.rows) (λ x y. Reach m (lawful.st x) (lawful.tail x) (lawful.st y) (lawful.tail y))

abbrev pub Standing : Type 0
Standing = (m : Lists) (width : ℕ) → Fits m width → Stands m width

-- Two lists of rows that ascend strictly and have the same members are equal.
abbrev pub OneOrder : Type 0
OneOrder =
    (lt : Row → Row → Bool) → ((r : Row) → T (lt r r) → ⊥) → ((q r s : Row) → T (lt q r) → T (lt r s) → T (lt q s))
    → (xs ys : List Row) → Ascending (Holds lt) xs → Ascending (Holds lt) ys → Among xs ys → Among ys xs → xs ≡ ys
