-- A word that stands in front of a text.
use Rattle.std.proofs.Common.{◌≡◌, ℕ, Bool, true, false, cond, eqb, List, [], ◌∷◌, ◌++◌, Some, None, Option, refl, sym, ap, ◌∙◌, Bor, MatchOption}
use Rattle.std.proofs.lemmas.Bool.{eq-eqb, eqb-true}
use Rattle.std.specs.Option.{option_copied}
use Rattle.texts.specs.Reading.{after}

pub there : (p rest : List ℕ) → after p (p ++ rest) ≡ Some rest
there [] rest = refl
there (c ∷ p) rest = rw (eq-eqb c c refl) (there p rest)

pub not_there : (p s : List ℕ) → ((rest : List ℕ) → s ≡ p ++ rest → ⊥) → after p s ≡ None
not_there [] s h = absurd (h s refl)
not_there (c ∷ p) [] h = refl
not_there (c ∷ p) (b ∷ s) h = by (eqb b c) (λ e. not_there p s (λ rest k. h rest (let same = eqb-true b c e in cc)))
  where
    by : (t : Bool) → (t ≡ true → after p s ≡ None) → cond t (after p s) None ≡ None
    by false k = refl
    by true k = k refl

pub stripped : (p s : List ℕ) (r : Option (Bor (List ℕ))) → MatchOption r ((rest : List ℕ) → s ≡ p ++ rest → ⊥) (λ x. s ≡ p ++ x.now)
    → option_copied r ≡ after p s
stripped p s None h = sym (not_there p s h)
stripped p s (Some x) h = sym (ap (after p) h ∙ there p x.now)
