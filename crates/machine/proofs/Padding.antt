-- A word's bytes, looked at one by one.
use Rattle.std.proofs.Common.{◌≡◌, ℕ, zero, suc, ◌+◌, ◌-◌, ◌<◌, ◌≤◌, true, ◌&&◌, eqb, List, [], ◌∷◌, length, get_or, drop, sym, refl, ap, ◌∙◌, arith}
use Rattle.std.proofs.lemmas.Bool.{and_parts, ne_eqb}
use Rattle.std.proofs.lemmas.List.{at_drop_more, at_drop_all}
use Rattle.machine.specs.Rows.{is_symbol, padded}

down : (n b : ℕ) (bs : List ℕ) → 0 < n → padded n (b ∷ bs) ≡ (is_symbol b && padded (n - 1) bs)
down zero b bs h = absurd (omega arith)
down (suc n) b bs h = let e : n ≡ suc n - 1 = omega arith in ap (λ k. is_symbol b && padded k bs) e

none : (n : ℕ) → padded n [] ≡ eqb n 0
none zero = refl
none (suc n) = let e : (suc n ≡ 0 → ⊥) = λ k. omega arith in sym (ne_eqb (suc n) 0 e)

module _ (xs : List ℕ) (i : ℕ) (h : i < length xs) where
  pub step_zero : padded 0 (drop i xs) ≡ (eqb (get_or xs i 0) 0 && padded 0 (drop (i + 1) xs))
  step_zero = at_drop_more (padded 0) xs i 0 h

  pub step_more : (n : ℕ) → 0 < n → padded n (drop i xs) ≡ (is_symbol (get_or xs i 0) && padded (n - 1) (drop (i + 1) xs))
  step_more n k = at_drop_more (padded n) xs i 0 h ∙ down n _ _ k

pub at_end : (xs : List ℕ) (i n : ℕ) → length xs ≤ i → padded n (drop i xs) ≡ eqb n 0
at_end xs i n h = at_drop_all (padded n) xs i h ∙ none n

-- a padded word has as many bytes as it says
pub padded_fits : (n : ℕ) (bs : List ℕ) → padded n bs ≡ true → n ≤ length bs
padded_fits zero bs p = omega arith
padded_fits (suc n) [] p = absurd (let z : ◌≡◌ {A = ℕ} 0 1 = cc in omega arith)
padded_fits (suc n) (b ∷ bs) p = omega (arith, padded_fits n bs (and_parts (is_symbol b) (padded n bs) p).1)
