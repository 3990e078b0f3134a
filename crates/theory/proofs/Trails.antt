-- Trails joined and split.
use mathlib.Core.Path.{◌≡◌, sym, ap}
use mathlib.Core.Bool.{Bool, true, false}
use mathlib.Core.List.{List, [], ◌∷◌, ◌++◌, cons≢nil}
use Prim.Native.Nat.{ℕ}
use Rattle.theory.specs.Graph.{Graph, Trail, here, edge, down, Within, Lean, NoEdge}

-- A trail by next-edges alone is a trail over any edges.
pub widen : {g : Graph} {E : ℕ → ℕ → Type 0} {x : ℕ} {w : List ℕ} {y : ℕ} → Trail g NoEdge x w y → Trail g E x w y
widen here = here
widen (edge p e) = absurd e
widen (down p i e) = down (widen p) i e

module _ {g : Graph} {E : ℕ → ℕ → Type 0} where
  pub join : {x y z : ℕ} {w v : List ℕ} → Trail g E x w y → Trail g E y v z → Trail g E x (v ++ w) z
  join p here = p
  join p (edge q e) = edge (join p q) e
  join {w} p (down q i e) = down (join p q) i (ap (λ u. u ++ w) e)

  pub within_left : (G : ℕ → ℕ → Type 0) {x y z : ℕ} {w v : List ℕ} (p : Trail g E x w y) (q : Trail g E y v z) → Within G (join p q) → Within G p
  unfolding join
  within_left G p here h = h
  within_left G p (edge q e) h = within_left G p q h.0
  within_left G p (down q i e) h = within_left G p q h

pub lean_join : {g : Graph} {E : ℕ → ℕ → Type 0} {x y z : ℕ} {w v : List ℕ} (p : Trail g E x w y) (q : Trail g NoEdge y v z) → Lean p true → Lean (join p (widen {E = E} q)) true
unfolding join widen
lean_join p here h = h
lean_join p (edge q e) h = absurd e
lean_join p (down q i e) h = lean_join p q h

-- A trail that reads σ ++ ρ reads ρ up to a node in the middle, and σ from there.
pub record Split (g : Graph) (E G : ℕ → ℕ → Type 0) (x : ℕ) (w : List ℕ) (y : ℕ) (π : Trail g E x w y) (σ ρ : List ℕ) : Type 0 where
  pub middle : ℕ
  pub rest : List ℕ
  pub same : rest ≡ ρ
  pub below : Trail g E x rest middle
  pub over : Trail g E middle σ y
  pub back : Within G below → Within G over → Within G π
  pub lean : (b : Bool) → Lean π b → Lean below false × Lean over b

pub split : {g : Graph} {E : ℕ → ℕ → Type 0} (G : ℕ → ℕ → Type 0) {x : ℕ} {w : List ℕ} {y : ℕ} (π : Trail g E x w y) (σ ρ : List ℕ) → w ≡ σ ++ ρ → Split g E G x w y π σ ρ
split G {x} here [] ρ e = record { middle = x; rest = []; same = e; below = here; over = here; back = λ a b. a; lean = λ b h. (tt, tt) }
split G here (s ∷ σ) ρ e = absurd (cons≢nil (sym e))
split G (edge p a) σ ρ e =
    let q = split G p σ ρ e in
    record { middle = q.middle; rest = q.rest; same = q.same; below = q.below; over = edge q.over a; back = λ u v. (q.back u v.0, v.1); lean = elim [ true ↦ λ h. q.lean false h | false ↦ λ h. absurd h ] }
split {g} G (down {v} {y} p i f) [] ρ e = record { middle = g.next y; rest = v; same = e; below = down p i f; over = here; back = λ a b. a; lean = λ b h. (h, tt) }
split {g} G (down {w} {y} p i f) (s ∷ σ) ρ e =
    let h : w ≡ σ ++ ρ = cc in
    let k : s ∷ σ ≡ g.label y ∷ σ = cc in
    let q = split G p σ ρ h in
    record { middle = q.middle; rest = q.rest; same = q.same; below = q.below; over = down q.over i k; back = q.back; lean = λ b h. q.lean true h }
