-- Reading a word by trails, one symbol more at a time.
use Rattle.std.proofs.Common.{◌≡◌, ℕ, suc, Bool, true, false, T, List, [], ◌∷◌, ◌++◌, length, sym, refl, ap, ◌∙◌, subst, arith, length-append}
use mathlib.Core.Option.{some}
use lib.ListN.{get_elem?}
use Rattle.theory.specs.Graph.{Graph, Trail, here, edge, down, Lean}
use Rattle.theory.specs.Levels.{Reads}

between : (u w : List ℕ) (a : ℕ) → get_elem? (u ++ (a ∷ w)) (length u) ≡ some a
between [] w a = refl
between (x ∷ u) w a = between u w a

pub one_more : (u : List ℕ) (a : ℕ) → length (u ++ (a ∷ [])) ≡ suc (length u)
one_more u a = let e = length-append u (a ∷ []) in omega (arith, e)

-- the symbol behind u is read by an inner node that has it as its label
pub reads : (g : Graph) (word u w v : List ℕ) (z : ℕ) → T (g.inner z) → v ≡ g.label z ∷ w → word ≡ u ++ v → Reads g word (length u) z
reads g word u w v z i d f =
    record { inner = i; label = subst (λ t. get_elem? t (length u) ≡ some (g.label z)) (sym (f ∙ ap (λ t. u ++ t) d)) (between u w (g.label z)) }

-- an edge to z and the next-edge before a lean trail make a lean trail
module _ (g : Graph) (E : ℕ → ℕ → Type 0) where
  pub before : (x z : ℕ) → T (g.inner z) → E x z → {v : List ℕ} {y : ℕ} (π : Trail g E (g.next z) v y) (b : Bool) → Lean π b → (τ : Trail g E x (v ++ (g.label z ∷ [])) y) × Lean τ b
  before x z i k here b h = (down (edge here k) i refl, tt)
  before x z i k (edge p j) true h = let r = before x z i k p false h in (edge r.0 j, r.1)
  before x z i k (edge p j) false h = absurd h
  before x z i k (down p j d) b h = let r = before x z i k p true h in (down r.0 j (ap (λ t. t ++ (g.label z ∷ [])) d), r.1)
