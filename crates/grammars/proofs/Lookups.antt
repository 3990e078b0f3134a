-- Looking for a terminal, place by place.
use Rattle.std.proofs.Common.{◌≡◌, ℕ, suc, ◌+◌, ◌<◌, Bool, true, false, cond, eqb, ltb, List, [], ◌∷◌, length, get_or, Some, None, Option, sym, refl, ap, ◌∙◌, ap₂, inl, inr, arith}
use mathlib.Core.List.Memᴰ
use mathlib.Core.List.{Memᴰ}
use Rattle.std.specs.List.{IsAnyAnswer, position_or_len, position_from, find, range_with_len}
use Rattle.std.proofs.lemmas.Iterator.Adapters.{position_from-zero}
use Rattle.std.proofs.lemmas.Bool.{cases_Bool, or_cases, or_left, or_right, eqb-true, eq-eqb, both_ways}
use Rattle.std.proofs.lemmas.List.Elements.{contains_decides}
use Rattle.std.proofs.lemmas.Bool.Decides.{same_from_decides, Decides-eqb, Decides-by_or}
use Rattle.grammars.specs.Grammars.{is_among, first_terminal, Apart}

-- What `contains` tells.
pub among : (ts : List ℕ) (s : ℕ) (r : Bool) → IsAnyAnswer (λ y t. eqb y s ≡ t) ts r → r ≡ is_among s ts
among ts s r h =
    same_from_decides r (is_among s ts) (contains_decides eqb Decides-eqb ts s r h)
    (Decides-by_or (λ t. eqb t s) (λ t. t ≡ s) (is_among s) (λ t. Decides-eqb t s) refl (λ _ _. refl) ts)

-- The first place of a terminal, as the library tells it of a list, and of the numbers from 0 on.
module _ (ts : List ℕ) where
  placed : (p : ℕ) (ss : List ℕ) → position_from (λ s. is_among s ts) p ss ≡ first_terminal ts p ss
  placed p [] = refl
  placed p (s ∷ ss) = ap (λ o. cond (is_among s ts) (Some p) o) (placed (p + 1) ss)

  pub first_place : (ss : List ℕ) → cond (ltb (position_or_len (λ s. is_among s ts) ss) (length ss)) (Some (position_or_len (λ s. is_among s ts) ss)) None ≡ first_terminal ts 0 ss
  first_place ss = position_from-zero (λ s. is_among s ts) ss ∙ placed 0 ss

  numbered : (f : ℕ → ℕ) (p : ℕ) (ss : List ℕ) → ((i : ℕ) → i < length ss → f (p + i) ≡ get_or ss i 0) → find (λ i. is_among (f i) ts) (range_with_len p (length ss)) ≡ first_terminal ts p ss
  numbered f p [] h = refl
  numbered f p (s ∷ ss) h =
      let here : p ≡ p + 0 = omega arith in
      let next : (i : ℕ) → p + 1 + i ≡ p + suc i = λ i. omega arith in
      ap₂ {C = Option ℕ} (λ b o. cond b (Some p) o) (ap (λ x. is_among x ts) (ap f here ∙ h 0 (omega arith)))
      (numbered f (p + 1) ss (λ i l. ap f (next i) ∙ h (suc i) (omega arith)))

  pub first_number : (f : ℕ → ℕ) (ss : List ℕ) → ((i : ℕ) → i < length ss → f i ≡ get_or ss i 0) → find (λ i. is_among (f i) ts) (range_with_len 0 (length ss)) ≡ first_terminal ts 0 ss
  first_number f ss h = let none : (i : ℕ) → 0 + i ≡ i = λ i. omega arith in numbered f 0 ss (λ i l. ap f (none i) ∙ h i l)

-- No place is found exactly where none of the symbols is a terminal.
among_mem : (s : ℕ) (ts : List ℕ) → is_among s ts ≡ true → Memᴰ s ts
among_mem s [] h = absurd (let z : ◌≡◌ {A = ℕ} 0 1 = cc in omega arith)
among_mem s (t ∷ ts) h =
    elim (or_cases (eqb t s) (is_among s ts) h) [
      | inl e ↦ Memᴰ.head (sym (eqb-true t s e))
      | inr k ↦ Memᴰ.tail (among_mem s ts k)
    ]

mem_among : (s : ℕ) (ts : List ℕ) → Memᴰ s ts → is_among s ts ≡ true
mem_among s [] h = absurd (Memᴰ.not-nil h)
mem_among s (t ∷ ts) h =
    elim (Memᴰ.cases_cons h) [
      | inl e ↦ or_left (eqb t s) (is_among s ts) (eq-eqb t s (sym e))
      | inr k ↦ or_right (eqb t s) (is_among s ts) (mem_among s ts k)
    ]

apart_by : (ts : List ℕ) (s : ℕ) (ss : List ℕ) (p : ℕ) (b : Bool) (o : Option ℕ) → is_among s ts ≡ b → (o ≡ None → Apart ts ss) → cond b (Some p) o ≡ None → Apart ts (s ∷ ss)
apart_by ts s ss p true o e f h = absurd (let z : ◌≡◌ {A = ℕ} 0 1 = cc in omega arith)
apart_by ts s ss p false o e f h =
    λ x m t. elim (Memᴰ.cases_cons m) [
      | inl k ↦ both_ways (is_among s ts) e (ap (λ y. is_among y ts) (sym k) ∙ mem_among x ts t)
      | inr k ↦ f h x k t
    ]

pub none_apart : (ts : List ℕ) (p : ℕ) (ss : List ℕ) → first_terminal ts p ss ≡ None → Apart ts ss
none_apart ts p [] h = λ x m t. Memᴰ.not-nil m
none_apart ts p (s ∷ ss) h = apart_by ts s ss p (is_among s ts) (first_terminal ts (p + 1) ss) refl (none_apart ts (p + 1) ss) h

pub apart_none : (ts : List ℕ) (p : ℕ) (ss : List ℕ) → Apart ts ss → first_terminal ts p ss ≡ None
apart_none ts p [] h = refl
apart_none ts p (s ∷ ss) h =
    elim (cases_Bool (is_among s ts)) [
      | inl e ↦ absurd (h s (Memᴰ.head refl) (among_mem s ts e))
      | inr e ↦ ap (λ b. cond b (Some p) (first_terminal ts (p + 1) ss)) e ∙ apart_none ts (p + 1) ss (λ x m. h x (Memᴰ.tail m))
    ]
