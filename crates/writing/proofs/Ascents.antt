-- Lawful entries, with one more behind them.
use Rattle.std.proofs.Common.{◌≡◌, ℕ, ◌<◌, ◌≤◌, Bool, true, ◌&&◌, List, [], ◌∷◌, ◌++◌, length, take, drop, Some, sym, refl, ap, ◌∙◌, append-nil, arith}
use Rattle.std.proofs.lemmas.List.{append_assoc, length-append, length_push, length-take, take-append-drop}
use Rattle.std.proofs.Math.Bool.{and_assoc}
use Rattle.std.proofs.lemmas.Bool.{and_parts, and_from}
use Rattle.machine.specs.Lists.{all}
use Rattle.entries.specs.Sorts.{Sort, Laws}
use Rattle.entries.specs.Sections.{follows, BelowAll, Ascending, Lawful, joined}
use Rattle.entries.proofs.Below.{lift}
use Rattle.writing.specs.Histories.{last_of}

pub last_push : {X : Type 0} (xs : List X) (x : X) → last_of (xs ++ x ∷ []) ≡ Some x
last_push [] x = refl
last_push (y ∷ []) x = refl
last_push (y ∷ z ∷ zs) x = last_push (z ∷ zs) x

joined-append : {X : Type 0} (f : X → List ℕ) (xs ys : List X) → joined f (xs ++ ys) ≡ joined f xs ++ joined f ys
joined-append f [] ys = refl
joined-append f (x ∷ xs) ys = ap (λ zs. f x ++ zs) (joined-append f xs ys) ∙ sym (append_assoc (f x) (joined f xs) (joined f ys))

pub joined_push : {X : Type 0} (f : X → List ℕ) (xs : List X) (x : X) → joined f (xs ++ x ∷ []) ≡ joined f xs ++ f x
joined_push f xs x = joined-append f xs (x ∷ []) ∙ ap (λ zs. joined f xs ++ zs) (append-nil (f x))

-- the first entries have no more bytes than all of them
pub joined_take : {X : Type 0} (f : X → List ℕ) (n : ℕ) (xs : List X) → length (joined f (take n xs)) ≤ length (joined f xs)
joined_take f n xs = omega (arith, simp (take-append-drop, length-append) at (ap length (joined-append f (take n xs) (drop n xs))))

all-append : {X : Type 0} (ok : X → Bool) (xs ys : List X) → all ok (xs ++ ys) ≡ (all ok xs && all ok ys)
all-append ok [] ys = refl
all-append ok (x ∷ xs) ys = rw (all-append ok xs ys) (sym (and_assoc (ok x) (all ok xs) (all ok ys)))

pub all_take : {X : Type 0} (ok : X → Bool) (n : ℕ) (xs : List X) → all ok xs ≡ true → all ok (take n xs) ≡ true
all_take ok n xs h = (and_parts _ _ (sym (all-append ok (take n xs) (drop n xs)) ∙ ap (all ok) (take-append-drop n xs) ∙ h)).0

module _ {X : Type 0} (e : Sort X) where
  ascending_last : (xs : List X) (x : X) → Ascending e (xs ++ x ∷ []) → follows e (last_of xs) x ≡ true
  ascending_last [] x a = refl
  ascending_last (y ∷ []) x a = a.0.0
  ascending_last (y ∷ z ∷ zs) x a = ascending_last (z ∷ zs) x a.1

  below_front : (x : X) (xs ys : List X) → BelowAll e x (xs ++ ys) → BelowAll e x xs
  below_front x [] ys b = tt
  below_front x (z ∷ xs) ys b = (b.0, below_front x xs ys b.1)

  ascending_front : (xs ys : List X) → Ascending e (xs ++ ys) → Ascending e xs
  ascending_front [] ys a = tt
  ascending_front (x ∷ xs) ys a = (below_front x xs ys a.0, ascending_front xs ys a.1)

  -- the first of lawful entries are lawful
  pub lawful_take : (most n : ℕ) (xs : List X) → Lawful e most xs → Lawful e most (take n xs)
  lawful_take most n xs l =
      record {
        few = simp length-take (omega (arith, l.few));
        limits = all_take e.lawful n xs l.limits;
        ascending = ascending_front (take n xs) (drop n xs) (rw (take-append-drop n xs) l.ascending);
      }

  -- what makes the last of lawful entries acceptable
  pub lawful_last : (most : ℕ) (xs : List X) (x : X) → Lawful e most (xs ++ x ∷ [])
      → (e.lawful x ≡ true) × (follows e (last_of xs) x ≡ true) × (length xs < most)
  lawful_last most xs x l =
      let n = length_push xs x in
      let f : length xs < most = omega (arith, l.few) in
      let limits = and_parts _ _ (sym (all-append e.lawful xs (x ∷ [])) ∙ l.limits) in
      ((and_parts _ _ limits.1).0, ascending_last xs x l.ascending, f)

module _ {X : Type 0} (e : Sort X) (laws : Laws e) where
  ascending_push : (xs : List X) (x : X) → Ascending e xs → follows e (last_of xs) x ≡ true → Ascending e (xs ++ x ∷ [])
  ascending_push [] x a h = (tt, tt)
  ascending_push (y ∷ []) x a h = ((h, tt), (tt, tt))
  ascending_push (y ∷ z ∷ zs) x a h =
      let i = ascending_push (z ∷ zs) x a.1 h in
      ((a.0.0, lift e laws y z a.0.0 (zs ++ x ∷ []) i.0), i)

  pub lawful_push : (most : ℕ) (xs : List X) (x : X) → Lawful e most xs → e.lawful x ≡ true → follows e (last_of xs) x ≡ true → length xs < most
      → Lawful e most (xs ++ x ∷ [])
  lawful_push most xs x l o f n =
      let p = length_push xs x in
      record {
        few = omega arith;
        limits = all-append e.lawful xs (x ∷ []) ∙ and_from _ _ l.limits (and_from _ _ o refl);
        ascending = ascending_push xs x l.ascending f;
      }
