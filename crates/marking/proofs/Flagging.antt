-- Flags of states, set one after the other.
use Rattle.std.proofs.Common.{◌≡◌, ℕ, zero, suc, ◌+◌, ◌<◌, Bool, true, false, ◌↔◌, List, length, get_or, set, replicate, sym, refl, ap, ◌∙◌, subst, inl, inr, arith, length-set}
use mathlib.Core.List.{Memᴰ}
use Rattle.std.proofs.lemmas.List.{get_or-set_same, get_or-set_other}
use Rattle.std.proofs.lemmas.Bool.{cases_eq, false≢true}
use Rattle.marking.specs.Relations.{Member}
use Rattle.marking.specs.Marks.{Flags}
use Rattle.marking.proofs.Reaching.{mem_at, place_of}

-- one of the first k states of the list, and in the set
abbrev pub Early : List ℕ → List ℕ → ℕ → ℕ → Type 0
Early ss ws k s = (i : ℕ) × (i < k) × (get_or ss i 0 ≡ s) × Member ws s

none_set : (k i : ℕ) → get_or (replicate k false) i false ≡ false
none_set zero i = refl
none_set (suc k) zero = refl
none_set (suc k) (suc i) = none_set k i

pub flags_none : (flags : List Bool) (ss ws : List ℕ) → length flags ≡ 256 → flags ≡ replicate 256 false → Flags flags (Early ss ws 0)
flags_none flags ss ws long is = record {
  long = long;
  each = λ s. (λ t. absurd (false≢true (sym (none_set 256 s) ∙ sym (ap (λ fs. get_or fs s false) is) ∙ t)), λ (i, h, e, k). absurd (omega arith));
}

module _ (flags : List Bool) (ss ws : List ℕ) (k : ℕ) (f : Flags flags (Early ss ws k)) where
  earlier : {s : ℕ} → Early ss ws k s → Early ss ws (k + 1) s
  earlier (i, h, e, m) = (i, omega arith, e, m)

  pub flags_more : (s : ℕ) → s ≡ get_or ss k 0 → s < 256 → Member ws s → Flags (set flags s true) (Early ss ws (k + 1))
  flags_more s e lt m =
      let l = f.long in
      let here : get_or (set flags s true) s false ≡ true = get_or-set_same flags s true false (omega arith) in
      record {
        long = simp length-set (omega arith);
        each = λ t. elim (cases_eq t s) [
          | inl same ↦ (λ _. (k, omega arith, sym e ∙ sym same, rw same m), λ _. rw same here)
          | inr ne ↦
              let other : get_or (set flags s true) t false ≡ get_or flags t false = get_or-set_other flags s t true false ne in (
                λ h. earlier ((f.each t).0 (sym other ∙ h)),
                λ (i, h, a, b). elim (cases_eq i k) [
                  | inl here' ↦ absurd (ne (sym a ∙ ap (λ j. get_or ss j 0) here' ∙ sym e))
                  | inr ni ↦ other ∙ (f.each t).1 (i, omega arith, a, b)
                ],
              )
        ];
      }

  pub flags_skip : (s : ℕ) → s ≡ get_or ss k 0 → (Member ws s → ⊥) → Flags flags (Early ss ws (k + 1))
  flags_skip s e off = record {
    long = f.long;
    each = λ t. (
      λ h. earlier ((f.each t).0 h),
      λ (i, h, a, b). elim (cases_eq i k) [
        | inl here' ↦ absurd (off (subst (λ x. Member ws x) (sym a ∙ ap (λ j. get_or ss j 0) here' ∙ sym e) b))
        | inr ni ↦ (f.each t).1 (i, omega arith, a, b)
      ],
    );
  }

pub flags_all : (flags : List Bool) (ss ws : List ℕ) (k : ℕ) → length ss ≡ k → Flags flags (Early ss ws k) → Flags flags (λ s. Memᴰ s ss × Member ws s)
flags_all flags ss ws k e f = record {
  long = f.long;
  each = λ s. (
    λ h. let (i, lt, a, m) = (f.each s).0 h in (subst (λ x. Memᴰ x ss) a (mem_at ss i (omega arith)), m),
    λ (p, m). let (i, lt, a) = place_of p in (f.each s).1 (i, omega arith, a, m),
  );
}

-- the same flags, told otherwise
pub flags_as : (flags : List Bool) {P Q : ℕ → Type 0} → Flags flags P → ((s : ℕ) → Q s ↔ P s) → Flags flags Q
flags_as flags f q = record { long = f.long; each = λ s. (λ h. (q s).1 ((f.each s).0 h), λ h. (f.each s).1 ((q s).0 h)) }
