-- One more than the largest state, found as the maximum of a chain.
use Rattle.std.proofs.Common.{◌≡◌, ℕ, suc, ◌+◌, max, List, [], ◌∷◌, length, get_or, Option, map, unwrap_or, refl, ap, ap₂, ◌∙◌, subst, arith}
use Rattle.std.specs.Prelude.{fold, MatchOption}
use Rattle.std.specs.List.{reduce, range_with_len}
use Rattle.machine.specs.declared.row.Row.{Row}
use Rattle.machine.specs.Lists.{above, ends}

above_fold : (x : ℕ) (xs : List ℕ) → fold max x xs + 1 ≡ max (x + 1) (above xs)
above_fold x [] = omega arith
above_fold x (y ∷ ys) = let e = above_fold (max x y) ys in omega arith

-- One more than the largest, or 0 where there is none, is one more than the largest.
pub above_reduce : {More : ℕ → Type 0} (xs : List ℕ) (r : Option ℕ) (n : ℕ) → r ≡ reduce max xs → MatchOption r (n ≡ 0) More → ((x : ℕ) → More x → n ≡ x + 1) → n ≡ above xs
above_reduce {More} [] r n e h more = subst (λ o. MatchOption o (n ≡ 0) More) e h
above_reduce {More} (x ∷ xs) r n e h more =
    let k = more (fold max x xs) (subst (λ o. MatchOption o (n ≡ 0) More) e h) in
    omega (arith, k, above_fold x xs)

-- One more than the larger state of a row.
abbrev pub top : Row → ℕ
top r = max r.from r.to + 1

tops_fold : (k : ℕ) (rs : List Row) → fold max k (map top rs) ≡ max k (above (ends rs))
tops_fold k [] = omega arith
tops_fold k (r ∷ rs) = let e = tops_fold (max k (top r)) rs in omega arith

pub tops : (rs : List Row) → unwrap_or (reduce max (map top rs)) 0 ≡ above (ends rs)
tops [] = refl
tops (r ∷ rs) = let e = tops_fold (top r) rs in omega arith

-- To go over the places of the rows is to go over the rows.
pub placed : (f : ℕ → ℕ) (d : Row) (rs : List Row) (a : ℕ) → ((i : ℕ) → f (a + i) ≡ top (get_or rs i d)) → map f (range_with_len a (length rs)) ≡ map top rs
placed f d [] a h = refl
placed f d (r ∷ rs) a h = ap₂ {C = List ℕ} (λ x xs. x ∷ xs) (ap f (omega arith) ∙ h 0) (placed f d rs (a + 1) (λ i. ap f (omega arith) ∙ h (suc i)))
