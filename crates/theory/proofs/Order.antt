-- Two strictly ascending lists with the same members are equal.
use mathlib.Core.Path.{◌≡◌, refl, sym, ◌∙◌, ap₂, subst}
use mathlib.Core.Logic.{inl, inr}
use mathlib.Core.List.Memᴰ
use mathlib.Core.List.{List, [], ◌∷◌, Memᴰ}
use Rattle.machine.specs.Runs.{Among}
use Rattle.theory.specs.Trimmed.{Ascending}

module _ {A : Type 0} (R : A → A → Type 0) (irrefl : (x : A) → R x x → ⊥) (trans : (x y z : A) → R x y → R y z → R x z) where
  ascends : (x : A) (xs : List A) → Ascending R (x ∷ xs) → Ascending R xs
  ascends x [] h = tt
  ascends x (y ∷ ys) h = h.1

  -- the head stands in R to each later element
  least : (x : A) (xs : List A) → Ascending R (x ∷ xs) → (z : A) → Memᴰ z xs → R x z
  least x [] h z k = absurd (Memᴰ.not-nil k)
  least x (y ∷ ys) h z k =
      elim (Memᴰ.cases_cons k) [ inl e ↦ subst (λ u. R x u) (sym e) h.0 | inr j ↦ trans x y z h.0 (least y ys h.1 z j) ]

  heads : (x : A) (xs : List A) (y : A) (ys : List A) → Ascending R (x ∷ xs) → Ascending R (y ∷ ys) → Memᴰ x (y ∷ ys) → Memᴰ y (x ∷ xs) → x ≡ y
  heads x xs y ys hx hy p q =
      elim (Memᴰ.cases_cons p) [
        | inl e ↦ e
        | inr j ↦ elim (Memᴰ.cases_cons q) [ inl e ↦ sym e | inr k ↦ absurd (irrefl x (trans x y x (least x xs hx y k) (least y ys hy x j))) ]
      ]

  tails : (x : A) (xs : List A) (y : A) (ys : List A) → x ≡ y → Ascending R (x ∷ xs) → Among (x ∷ xs) (y ∷ ys) → Among xs ys
  tails x xs y ys e hx a z k =
      elim (Memᴰ.cases_cons (a z (Memᴰ.tail k))) [ inl f ↦ absurd (irrefl x (subst (λ u. R x u) (f ∙ sym e) (least x xs hx z k))) | inr j ↦ j ]

  pub unique : (xs ys : List A) → Ascending R xs → Ascending R ys → Among xs ys → Among ys xs → xs ≡ ys
  unique [] [] hx hy a b = refl
  unique [] (y ∷ ys) hx hy a b = absurd (Memᴰ.not-nil (b y (Memᴰ.head refl)))
  unique (x ∷ xs) [] hx hy a b = absurd (Memᴰ.not-nil (a x (Memᴰ.head refl)))
  unique (x ∷ xs) (y ∷ ys) hx hy a b =
      let e = heads x xs y ys hx hy (a x (Memᴰ.head refl)) (b y (Memᴰ.head refl)) in
      ap₂ {C = List A} (λ u us. u ∷ us) e
      (unique xs ys (ascends x xs hx) (ascends y ys hy) (tails x xs y ys e hx a) (tails y ys x xs (sym e) hy b))
