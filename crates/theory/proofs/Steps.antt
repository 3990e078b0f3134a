-- Runs joined, cut, and put on top of a deeper stack.
use mathlib.Core.Path.{◌≡◌, refl, sym, ◌∙◌, ap}
use mathlib.Core.Logic.{inl, inr}
use mathlib.Core.List.Memᴰ
use mathlib.Core.List.{List, [], ◌∷◌, ◌++◌, append_assoc, Memᴰ}
use Prim.Native.Nat.{ℕ, suc, ◌+◌}
use native.Mathlib.Omega.{arith}
use lib.ListN.{length}
use Rattle.machine.specs.declared.row.Row.{Row}
use Rattle.machine.specs.Rows.{pops, pushes}
use Rattle.machine.specs.Lists.{Lists}
use Rattle.machine.specs.Runs.{Among, Runs, stop, step, Reach}

pub starting : {p p' q : ℕ} {κ κ' ω : List ℕ} {rs : List Row} → p' ≡ p → κ' ≡ κ → Runs p κ rs q ω → Runs p' κ' rs q ω
starting a b (stop e f) = stop (a ∙ e) (b ∙ f)
starting a b (step ρ e f t) = step ρ (a ∙ e) (b ∙ f) t

pub join_runs : {p q u : ℕ} {κ ω υ : List ℕ} {rs ss : List Row} → Runs p κ rs q ω → Runs q ω ss u υ → Runs p κ (rs ++ ss) u υ
join_runs (stop e f) b = starting e f b
join_runs (step ρ e f t) b = step ρ e f (join_runs t b)

-- A run goes the same way on top of whatever is deeper.
pub deeper : {p q : ℕ} {κ ω : List ℕ} {rs : List Row} (δ : List ℕ) → Runs p κ rs q ω → Runs p (κ ++ δ) rs q (ω ++ δ)
deeper δ (stop e f) = stop e (ap (λ w. w ++ δ) f)
deeper δ (step {r} ρ e f t) =
    step (ρ ++ δ) e (ap (λ w. w ++ δ) f ∙ append_assoc (pops r) ρ δ) (starting refl (sym (append_assoc (pushes r) ρ δ)) (deeper δ t))

pub both_among : {xs ys zs : List Row} → Among xs zs → Among ys zs → Among (xs ++ ys) zs
both_among {xs} a b r k = elim (Memᴰ.append_cases xs k) [ inl h ↦ a r h | inr h ↦ b r h ]

-- A run that takes the row r, cut before and after it.
pub record Cut (r : Row) (rs : List Row) (p : ℕ) (κ : List ℕ) (q : ℕ) (ω : List ℕ) : Type 0 where
  pub before : List Row
  pub after : List Row
  pub rest : List ℕ
  pub parts : length rs ≡ length before + suc (length after)
  pub before_in : Among before rs
  pub after_in : Among after rs
  pub first : Runs p κ before r.from (pops r ++ rest)
  pub last : Runs r.to (pushes r ++ rest) after q ω

pub cut : {r : Row} {rs : List Row} {p q : ℕ} {κ ω : List ℕ} → Memᴰ r rs → Runs p κ rs q ω → Cut r rs p κ q ω
cut (Memᴰ.head {xs = xs} h) (step ρ e f t) =
    record {
      before = [];
      after = xs;
      rest = ρ;
      parts = omega arith;
      before_in = λ r k. absurd (Memᴰ.not-nil k);
      after_in = λ r k. Memᴰ.tail k;
      first = stop (e ∙ sym (ap (λ (u : Row). u.from) h)) (f ∙ sym (ap (λ (u : Row). pops u ++ ρ) h));
      last = starting (ap (λ (u : Row). u.to) h) (ap (λ (u : Row). pushes u ++ ρ) h) t;
    }
cut (Memᴰ.tail {x = x} k) (step ρ e f t) =
    let c = cut k t in
    record {
      before = x ∷ c.before;
      after = c.after;
      rest = c.rest;
      parts = omega (arith, c.parts);
      before_in = both_among {xs = x ∷ []} (λ r h. Memᴰ.head (Memᴰ.eq_of_singleton h)) (λ r h. Memᴰ.tail (c.before_in r h));
      after_in = λ r h. Memᴰ.tail (c.after_in r h);
      first = step ρ e f c.first;
      last = c.last;
    }

-- The same of what rows of a machine reach.
module _ (m : Lists) where
  pub stays : {p q : ℕ} {κ ω : List ℕ} → p ≡ q → κ ≡ ω → Reach m p κ q ω
  stays e f = ([], λ r k. absurd (Memᴰ.not-nil k), stop e f)

  abbrev pub goes : {p q u : ℕ} {κ ω υ : List ℕ} → Reach m p κ q ω → Reach m q ω u υ → Reach m p κ u υ
  goes a b = (a.0 ++ b.0, both_among a.1 b.1, join_runs a.2 b.2)

  pub above : {p q : ℕ} {κ ω : List ℕ} (δ : List ℕ) → Reach m p κ q ω → Reach m p (κ ++ δ) q (ω ++ δ)
  above δ a = (a.0, a.1, deeper δ a.2)

  abbrev pub one : (r : Row) (ρ : List ℕ) → Memᴰ r m.rows → Reach m r.from (pops r ++ ρ) r.to (pushes r ++ ρ)
  one r ρ k = (r ∷ [], λ u h. Memᴰ.cast (Memᴰ.eq_of_singleton h) k, step ρ refl refl (stop refl refl))
