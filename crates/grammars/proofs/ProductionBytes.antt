-- What the code of a rule's entry finds in its bytes.
use Rattle.std.proofs.Common.{◌≡◌, ℕ, ◌<◌, Bool, not, eqb, List, [], ◌∷◌, length, get_or, sym, refl, ◌∙◌, inl, inr, arith}
use Rattle.std.specs.Ordering.{ordering_then}
use Rattle.std.specs.List.{IsAnyAnswer, ContainsAt as Has, AllByRecursion as All}
use Rattle.std.proofs.lemmas.List.{get_or_default}
use Rattle.std.proofs.lemmas.Bool.{cases_eq}
use Rattle.std.proofs.lemmas.List.Elements.{contains_decides}
use Rattle.std.proofs.ByRecursion.{All-from_get_or, all-has, Decides-by_and}
use Rattle.std.proofs.lemmas.Bool.Decides.{same_from_decides, Decides-not, Decides-like, Decides-ltb, Decides-eqb}
use Rattle.machine.specs.Lists.{all}
use Rattle.entries.specs.Sorts.{lexical}
use Rattle.entries.specs.Orders.{lexical-append}
use Rattle.grammars.specs.declared.production.Production.{Production}
use Rattle.grammars.specs.Productions.{not_bottom, production_rank}

-- The order by the first two bytes, then by the right side, is that of the bytes.
pub bytewise : (a b : Production) → ordering_then (lexical (a.left ∷ a.right.len ∷ []) (b.left ∷ b.right.len ∷ [])) (lexical a.right.symbols b.right.symbols) ≡ production_rank a b
bytewise a b = sym (lexical-append (a.left ∷ a.right.len ∷ []) (b.left ∷ b.right.len ∷ []) a.right.symbols b.right.symbols refl)

-- Bytes among which 255 does not stand are all below it.
module _ (xs : List ℕ) (typed : (i : ℕ) → get_or xs i 0 < 256) where
  below : (Has xs 255 → ⊥) → (i : ℕ) → i < length xs → get_or xs i 0 < 255
  below h i l =
      elim (cases_eq (get_or xs i 0) 255) [
        | inl e ↦ absurd (h (i, l, λ d. get_or_default xs i d 0 l ∙ e))
        | inr ne ↦ let b = typed i in grind arith
      ]

  above : All (λ b. b < 255) xs → Has xs 255 → ⊥
  above h k = let e = all-has (λ b. b < 255) xs 255 h k in omega arith

  pub lacks : (r : Bool) → IsAnyAnswer (λ y t. eqb y 255 ≡ t) xs r → not r ≡ all not_bottom xs
  lacks r h =
      let none = Decides-not r (contains_decides eqb Decides-eqb xs 255 r h) in
      let each = Decides-by_and not_bottom (λ b. b < 255) (all not_bottom) (λ b. Decides-ltb b 255) refl (λ _ _. refl) xs in
      same_from_decides (not r) (all not_bottom xs) (Decides-like (not r) (λ k. All-from_get_or (λ b. b < 255) xs 0 (below k)) above none) each
