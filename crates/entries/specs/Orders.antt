-- Total orders: of numbers, of lists by their first difference, and by one part after another. No definition to believe, only proofs.
use Rattle.std.specs.Prelude.{◌≡◌, ℕ, List, [], ◌∷◌, ◌++◌, length, refl}
use Rattle.std.specs.declared.cmp.Ordering.TheVariants.{Less, Equal, Greater}
use Rattle.std.specs.declared.cmp.Ordering.{Ordering}
use Rattle.std.proofs.Common.{sym, ap, ap₂, ◌∙◌, arith}
use Rattle.std.specs.Ordering.{ordering_reverse, ordering_then, nat_cmp}
use Rattle.std.specs.Cmp.Lexicographic.{slice_cmp}
use Rattle.std.proofs.lemmas.Bool.Decides.{nat_tests}
use Rattle.entries.specs.Sorts.{numbers, lexical}

-- The laws of an order, of any values.
pub record Order {X : Type 0} (rank : X → X → Ordering) : Type 0 where
  pub same : (x y : X) → rank x y ≡ Equal → x ≡ y
  pub itself : (x : X) → rank x x ≡ Equal
  pub flips : (x y : X) → rank y x ≡ ordering_reverse (rank x y)
  pub through : (x y z : X) → rank x y ≡ Less → rank y z ≡ Less → rank x z ≡ Less

then_equal : (u v : Ordering) → ordering_then u v ≡ Equal → (u ≡ Equal) × (v ≡ Equal)
then_equal Less v h = let z : ◌≡◌ {A = ℕ} 0 1 = cc in absurd (omega arith)
then_equal Equal v h = (refl, h)
then_equal Greater v h = let z : ◌≡◌ {A = ℕ} 0 1 = cc in absurd (omega arith)

then_flips : (u v : Ordering) → ordering_then (ordering_reverse u) (ordering_reverse v) ≡ ordering_reverse (ordering_then u v)
then_flips Less v = refl
then_flips Equal v = refl
then_flips Greater v = refl

pub then_assoc : (u v w : Ordering) → ordering_then (ordering_then u v) w ≡ ordering_then u (ordering_then v w)
then_assoc Less v w = refl
then_assoc Equal v w = refl
then_assoc Greater v w = refl

-- By one order, and where it finds the two equal by another.
module _ {A : Type 0} (rank : A → A → Ordering) (laws : Order rank) where
  through_by : (a b c : A) (u w : Ordering) (v x y : Ordering) → rank a b ≡ u → rank b c ≡ w → (v ≡ Less → x ≡ Less → y ≡ Less) → ordering_then u v ≡ Less → ordering_then w x ≡ Less → ordering_then (rank a c) y ≡ Less
  through_by a b c Less Less v x y p q f h k = ap (λ r. ordering_then r y) (laws.through a b c p q)
  through_by a b c Less Equal v x y p q f h k = ap (λ r. ordering_then r y) (ap (rank a) (sym (laws.same b c q)) ∙ p)
  through_by a b c Less Greater v x y p q f h k = let z : ◌≡◌ {A = ℕ} 0 1 = cc in absurd (omega arith)
  through_by a b c Equal Less v x y p q f h k = ap (λ r. ordering_then r y) (ap (λ o. rank o c) (laws.same a b p) ∙ q)
  through_by a b c Equal Equal v x y p q f h k = ap (λ r. ordering_then r y) (ap (λ o. rank o c) (laws.same a b p) ∙ q) ∙ f h k
  through_by a b c Equal Greater v x y p q f h k = let z : ◌≡◌ {A = ℕ} 0 1 = cc in absurd (omega arith)
  through_by a b c Greater w v x y p q f h k = let z : ◌≡◌ {A = ℕ} 0 1 = cc in absurd (omega arith)

  through_then : (a b c : A) (v x y : Ordering) → (v ≡ Less → x ≡ Less → y ≡ Less) → ordering_then (rank a b) v ≡ Less → ordering_then (rank b c) x ≡ Less → ordering_then (rank a c) y ≡ Less
  through_then a b c v x y f h k = through_by a b c (rank a b) (rank b c) v x y refl refl f h k

  pub paired : {X B : Type 0} (more : B → B → Ordering) → Order more → (f : X → A) (g : X → B) → ((x y : X) → f x ≡ f y → g x ≡ g y → x ≡ y) → Order (λ x y. ordering_then (rank (f x) (f y)) (more (g x) (g y)))
  paired more moreLaws f g whole = record {
    same = λ x y h. let p = then_equal _ _ h in whole x y (laws.same _ _ p.0) (moreLaws.same _ _ p.1);
    itself = λ x. ap₂ {C = Ordering} ordering_then (laws.itself (f x)) (moreLaws.itself (g x));
    flips = λ x y. ap₂ {C = Ordering} ordering_then (laws.flips (f x) (f y)) (moreLaws.flips (g x) (g y)) ∙ then_flips (rank (f x) (f y)) (more (g x) (g y));
    through = λ x y z. through_then (f x) (f y) (f z) _ _ _ (moreLaws.through (g x) (g y) (g z));
  }

pub numbers_order : Order numbers
numbers_order = record {
  same = λ x y h. grind (arith, nat_tests);
  itself = λ x. grind (arith, nat_tests);
  flips = λ x y. grind (arith, nat_tests);
  through = λ x y z h k. grind (arith, nat_tests);
}

lists_same : (xs ys : List ℕ) → lexical xs ys ≡ Equal → xs ≡ ys
lists_same [] [] h = refl
lists_same [] (y ∷ ys) h = let z : ◌≡◌ {A = ℕ} 0 1 = cc in absurd (omega arith)
lists_same (x ∷ xs) [] h = let z : ◌≡◌ {A = ℕ} 0 1 = cc in absurd (omega arith)
lists_same (x ∷ xs) (y ∷ ys) h = let p = then_equal (numbers x y) (lexical xs ys) h in ap₂ {C = List ℕ} (λ u us. u ∷ us) (numbers_order.same x y p.0) (lists_same xs ys p.1)

lists_itself : (xs : List ℕ) → lexical xs xs ≡ Equal
lists_itself [] = refl
lists_itself (x ∷ xs) = ap₂ {C = Ordering} ordering_then (numbers_order.itself x) (lists_itself xs)

lists_flips : (xs ys : List ℕ) → lexical ys xs ≡ ordering_reverse (lexical xs ys)
lists_flips [] [] = refl
lists_flips [] (y ∷ ys) = refl
lists_flips (x ∷ xs) [] = refl
lists_flips (x ∷ xs) (y ∷ ys) = ap₂ {C = Ordering} ordering_then (numbers_order.flips x y) (lists_flips xs ys) ∙ then_flips (numbers x y) (lexical xs ys)

lists_through : (xs ys zs : List ℕ) → lexical xs ys ≡ Less → lexical ys zs ≡ Less → lexical xs zs ≡ Less
lists_through [] [] zs h k = let z : ◌≡◌ {A = ℕ} 0 1 = cc in absurd (omega arith)
lists_through [] (y ∷ ys) [] h k = let z : ◌≡◌ {A = ℕ} 0 1 = cc in absurd (omega arith)
lists_through [] (y ∷ ys) (z ∷ zs) h k = refl
lists_through (x ∷ xs) [] zs h k = let z : ◌≡◌ {A = ℕ} 0 1 = cc in absurd (omega arith)
lists_through (x ∷ xs) (y ∷ ys) [] h k = let z : ◌≡◌ {A = ℕ} 0 1 = cc in absurd (omega arith)
lists_through (x ∷ xs) (y ∷ ys) (z ∷ zs) h k = through_then numbers numbers_order x y z _ _ _ (lists_through xs ys zs) h k

pub lists_order : Order lexical
lists_order = record { same = lists_same; itself = lists_itself; flips = lists_flips; through = lists_through }

-- Parts of equal length, one after the other, compare as their parts do.
pub lexical-append : (xs ys us vs : List ℕ) → length xs ≡ length ys → lexical (xs ++ us) (ys ++ vs) ≡ ordering_then (lexical xs ys) (lexical us vs)
lexical-append [] [] us vs h = refl
lexical-append [] (y ∷ ys) us vs h = absurd (omega arith)
lexical-append (x ∷ xs) [] us vs h = absurd (omega arith)
lexical-append (x ∷ xs) (y ∷ ys) us vs h =
    let n : length xs ≡ length ys = omega arith in
    ap (ordering_then (numbers x y)) (lexical-append xs ys us vs n) ∙ sym (then_assoc (numbers x y) (lexical xs ys) (lexical us vs))

by_number : (x y : ℕ) → nat_cmp x y ≡ numbers x y
by_number x y = grind (arith, nat_tests)

-- What `cmp` answers of two arrays of bytes.
pub lexical_from_cmp : (xs ys : List ℕ) → slice_cmp nat_cmp xs ys ≡ lexical xs ys
lexical_from_cmp [] [] = refl
lexical_from_cmp [] (y ∷ ys) = refl
lexical_from_cmp (x ∷ xs) [] = refl
lexical_from_cmp (x ∷ xs) (y ∷ ys) = ap₂ {C = Ordering} ordering_then (by_number x y) (lexical_from_cmp xs ys)
