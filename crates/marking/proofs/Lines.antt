-- Steps of a relation by whole lines.
use Rattle.std.proofs.Common.{◌≡◌, ℕ, zero, suc, ◌+◌, ◌*◌, ◌/◌, ◌%◌, ◌<◌, ◌≤◌, Bool, false, ◌||◌, ◌⊎◌, List, [], ◌∷◌, length, get_or, sym, refl, ◌∙◌, inl, inr, arith}
use Rattle.std.proofs.lemmas.Nat.{div_below, mod_below, div-add-mod'}
use Rattle.std.proofs.lemmas.List.{get_or_past}
use Rattle.std.proofs.lemmas.Bool.{cases_eq, cases_lt, cases_Bool, or_parts, false≢true}
use Rattle.std.proofs.lemmas.Bool.Decides.{nat_tests}
use Rattle.marking.specs.Relations.{Member, Holds, Adds, Preorder, SomeNot, Onto, BothNot, Steps, Touches, zeros}
use Rattle.marking.proofs.Cells.{adds_then, adds_as, member_in}

zeros_le : (xs ys : List ℕ) → length xs ≡ length ys → ((k : ℕ) → 0 < get_or xs k 0 → 0 < get_or ys k 0) → zeros ys ≤ zeros xs
zeros_le [] [] e h = omega arith
zeros_le [] (y ∷ ys) e h = omega arith
zeros_le (x ∷ xs) [] e h = omega arith
zeros_le (x ∷ xs) (y ∷ ys) e h =
    let more = zeros_le xs ys (omega arith) (λ k. h (suc k)) in
    let z : 0 < x → 0 < y = h 0 in
    grind (arith, nat_tests)

pub zeros_lt : (xs ys : List ℕ) → length xs ≡ length ys → ((k : ℕ) → 0 < get_or xs k 0 → 0 < get_or ys k 0)
    → (k : ℕ) → get_or xs k 0 ≡ 0 → 0 < get_or ys k 0 → zeros ys < zeros xs
zeros_lt [] [] e h k p q = omega arith
zeros_lt [] (y ∷ ys) e h k p q = omega arith
zeros_lt (x ∷ xs) [] e h k p q = omega arith
zeros_lt (x ∷ xs) (y ∷ ys) e h zero p q =
    let more = zeros_le xs ys (omega arith) (λ k. h (suc k)) in
    grind (arith, nat_tests)
zeros_lt (x ∷ xs) (y ∷ ys) e h (suc k) p q =
    let more = zeros_lt xs ys (omega arith) (λ k. h (suc k)) k p q in
    let z : 0 < x → 0 < y = h 0 in
    grind (arith, nat_tests)

-- what is so of each pair is so of each word
flat : (ws ws' : List ℕ) (n : ℕ) → length ws ≡ n * n → ((u v : ℕ) → Holds ws n u v → Holds ws' n u v) → (k : ℕ) → 0 < get_or ws k 0 → 0 < get_or ws' k 0
flat ws ws' n e h k p =
    elim (cases_lt k (n * n)) [
      | inr far ↦ let z = get_or_past ws k 0 (omega arith) in omega arith
      | inl near ↦
          elim n as (λ m. k < m * m → ((u v : ℕ) → Holds ws m u v → Holds ws' m u v) → 0 < get_or ws' k 0) [
            | zero ↦ λ near h. omega arith
            | suc m ↦ λ near h.
                let r : k / suc m * suc m + k % suc m ≡ k = div-add-mod' k (suc m) in
                let g = h (k % suc m) (k / suc m) (record {
                  source = mod_below k (suc m) (omega arith);
                  target = div_below k (suc m) (suc m) (omega arith) near;
                  on = rw r p;
                }) in
                rw r at g.on
          ] near h
    ]

-- a pair that was not there makes one no fewer
fewer : {a b : List ℕ} {n : ℕ} {R : ℕ → ℕ → Type 0} → Adds a b n n R → length a ≡ n * n → length b ≡ length a
    → (u v : ℕ) → u < n → v < n → R u v → (Holds a n u v → ⊥) → zeros b < zeros a
fewer {a} {b} {n} t e d u v hu hv r off =
    let on = t.done u v hu hv r in
    let was : get_or a (v * n + u) 0 ≡ 0 = elim (cases_eq (get_or a (v * n + u) 0) 0) [
      | inl z ↦ z
      | inr ne ↦ absurd (off (record { source = hu; target = hv; on = omega arith }))
    ] in
    zeros_lt a b (sym d) (flat a b n e t.grows) (v * n + u) was on.on

pub fewer_onto : (a b : List ℕ) (n : ℕ) (ss : List ℕ) (f : ℕ) → Preorder a n → Adds a b n n (Onto a n ss f) → length a ≡ n * n → length b ≡ length a → length ss ≡ n → f < n → SomeNot a n ss f → zeros b < zeros a
fewer_onto a b n ss f p t e d l hf (u, m, off) =
    let hu : u < n = let k = member_in ss u m in omega arith in
    fewer t e d u f hu hf (m, p.reflexive f hf) off

pub fewer_both : (a b : List ℕ) (n : ℕ) (ss ts : List ℕ) (y : ℕ) → Adds a b n n (λ u v. (v ≡ y) × (Member ss u × Member ts u)) → length a ≡ n * n → length b ≡ length a → length ss ≡ n → y < n → BothNot a n ss ts y → zeros b < zeros a
fewer_both a b n ss ts y t e d l hy (u, m, k, off) =
    let hu : u < n = let i = member_in ss u m in omega arith in
    fewer t e d u y hu hy (refl, (m, k)) off

-- first by R, then by S
pub steps_then : {a b c : List ℕ} {n : ℕ} {R S : ℕ → ℕ → Type 0} {t r : Bool} (Q : ℕ → ℕ → Type 0)
    → Steps a b n R t → Steps b c n S r
    → ((u v : ℕ) → R u v → Q u v) → ((u v : ℕ) → S u v → Q u v) → ((u v : ℕ) → Q u v → R u v ⊎ S u v)
    → Steps a c n Q (t || r)
steps_then {a} {b} {c} {t = t} {r = r} Q p q f g h = record {
  adds = adds_then Q p.adds q.adds f g h;
  same = λ e. let o = or_parts t r e in q.same o.1 ∙ p.same o.0;
  fewer = λ e. elim (cases_Bool r) [
    | inl y ↦ still (q.fewer y)
    | inr no' ↦ let s = q.same no' in let x = p.fewer in grind arith
  ];
}
  where
    still : zeros c < zeros b → zeros c < zeros a
    still k = elim (cases_Bool t) [ inl y ↦ let x = p.fewer y in omega arith | inr no' ↦ let s = p.same no' in grind arith ]

-- the same step, told otherwise
pub steps_as : {a b : List ℕ} {n : ℕ} {R : ℕ → ℕ → Type 0} {t : Bool} (Q : ℕ → ℕ → Type 0) → Steps a b n R t → ((u v : ℕ) → R u v → Q u v) → ((u v : ℕ) → u < n → v < n → Q u v → R u v) → Steps a b n Q t
steps_as Q s f g = record { adds = adds_as Q s.adds f g; same = s.same; fewer = s.fewer }

pub steps_none : (a : List ℕ) (n : ℕ) (R : ℕ → ℕ → Type 0) → ((u v : ℕ) → R u v → ⊥) → Steps a a n R false
steps_none a n R off = record {
  adds = record { grows = λ u v h. h; sound = λ u v h. inl h; done = λ u v hu hv r. absurd (off u v r) };
  same = λ e. refl;
  fewer = λ e. absurd (false≢true e);
}

pub touches_none : (a : List ℕ) (n : ℕ) (s : List ℕ) → Touches a a n s s false
touches_none a n s = record { keeps = λ y m. m; still = λ u v h. inl h; quiet = λ e. refl }

pub touches_then : {a b c : List ℕ} {n : ℕ} {s t w : List ℕ} {x y : Bool} → Touches a b n s t x → Touches b c n t w y → Touches a c n s w (x || y)
touches_then {x = x} {y = y} p q = record {
  keeps = λ z m. q.keeps z (p.keeps z m);
  still = λ u v h. elim (q.still u v h) [
    | inl o ↦ elim (p.still u v o) [ inl k ↦ inl k | inr m ↦ inr (q.keeps v m) ]
    | inr m ↦ inr m
  ];
  quiet = λ e. let o = or_parts x y e in q.quiet o.1 ∙ p.quiet o.0;
}
