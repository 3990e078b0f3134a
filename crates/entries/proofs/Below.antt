-- What is below an entry is below all that this one is below.
use Rattle.std.proofs.Common.{◌≡◌, ℕ, true, List, [], ◌∷◌, Ordering, Less, Equal, Greater, refl, ap, arith}
use Rattle.std.specs.Ordering.{is_lt}
use Rattle.entries.specs.Sorts.{Sort, Laws}
use Rattle.entries.specs.Sections.{BelowAll}

is_less : (o : Ordering) → is_lt o ≡ true → o ≡ Less
is_less Less h = refl
is_less Equal h = absurd (let z : ◌≡◌ {A = ℕ} 0 1 = cc in omega arith)
is_less Greater h = absurd (let z : ◌≡◌ {A = ℕ} 0 1 = cc in omega arith)

module _ {X : Type 0} (e : Sort X) (laws : Laws e) where
  less : (x y z : X) → is_lt (e.rank x y) ≡ true → is_lt (e.rank y z) ≡ true → is_lt (e.rank x z) ≡ true
  less x y z h k = ap is_lt (laws.through x y z (is_less _ h) (is_less _ k))

  pub lift : (x y : X) → is_lt (e.rank x y) ≡ true → (zs : List X) → BelowAll e y zs → BelowAll e x zs
  lift x y h [] a = tt
  lift x y h (z ∷ zs) a = (less x y z h a.0, lift x y h zs a.1)
