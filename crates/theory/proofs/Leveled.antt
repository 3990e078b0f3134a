-- The levels have every lean trail that reads the word, and every edge on one.
use mathlib.Core.Path.{◌≡◌, refl, sym, ◌∙◌, ap, subst}
use mathlib.Core.Bool.{Bool, true, false}
use mathlib.Core.List.{List, [], ◌∷◌, ◌++◌, append_assoc, append-nil}
use Prim.Native.Nat.{ℕ}
use lib.Dec.{T}
use lib.ListN.{length}
use Rattle.theory.specs.Graph.{Graph, Trail, here, edge, down, Within, Lean}
use Rattle.theory.specs.Theorems.{Table, Holds}
use Rattle.theory.specs.Levels.{Reads, Levels, Sweep, Leveling}
use Rattle.theory.proofs.Reading.{one_more, reads, before}

module _ (g : Graph) (e : Table) (word : List ℕ) (q : ℕ) (loops : (z : ℕ) → T (g.inner z) → T (e z z)) where
  shifted : (u w v : List ℕ) (z : ℕ) → v ≡ g.label z ∷ w → word ≡ u ++ v → word ≡ (u ++ (g.label z ∷ [])) ++ w
  shifted u w v z d f = f ∙ ap (λ t. u ++ t) d ∙ sym (append_assoc u (g.label z ∷ []) w)

  -- what is known of the end y of a lean trail, where n symbols are still to read:
  -- with false, that it goes on to q; with true, that whoever has an edge to y does
  abbrev Goes : Table → ℕ → ℕ → Bool → Type 0
  Goes P n y true = T (e y y) × ((v : ℕ) → T (e v y) → T (P n v))
  Goes P n y false = T (P n y)

  ends : (P : Table) (n y : ℕ) (b : Bool) → Goes P n y b → T (P n y)
  ends P n y true c = c.1 y c.0
  ends P n y false c = c

  onward : (P : Table) → Levels g e word q P → (u : List ℕ) (z : ℕ) → Reads g word (length u) z → T (P (length u) (g.next z)) → Goes P (length (u ++ (g.label z ∷ []))) z true
  onward P l u z r h = (loops z r.inner, λ v k. subst (λ n. T (P n v)) (sym (one_more u (g.label z))) (l.again (length u) z r v k h))

  least : (P : Table) → Levels g e word q P → {x : ℕ} {w : List ℕ} {y : ℕ} (π : Trail g (Holds e) x w y) (b : Bool) → Lean π b → (u : List ℕ) → word ≡ u ++ w → Goes P (length u) y b → T (P (length word) x)
  least P l {x} here b h u f c = subst (λ n. T (P n x)) (sym (ap length (f ∙ append-nil u))) (ends P (length u) x b c)
  least P l (edge {y} p k) true h u f c = least P l p false h u f (c.1 y k)
  least P l (edge p k) false h u f c = absurd h
  least P l (down {w} {v} {y = z} p i d) b h u f c =
      least P l p true h (u ++ (g.label z ∷ [])) (shifted u w v z d f) (onward P l u z (reads g word u w v z i d f) (ends P (length u) (g.next z) b c))

  module _ (c P Q : Table) (top : ℕ) (s : Sweep g e c word q top P Q) where
    -- what a lean trail shows: with false, that Q has its end y; with true, that Q has a node with an edge to y
    abbrev Came : ℕ → ℕ → Bool → Type 0
    Came n y true = (v : ℕ) × T (Q n v) × T (e v y)
    Came n y false = T (Q n y)

    -- what a trail that ends in an edge needs for that edge
    abbrev Puts : ℕ → ℕ → Bool → Type 0
    Puts n y true = (v : ℕ) → T (Q n v) → T (e v y) → T (c v y)
    Puts n y false = Unit {0}

    came : (n y : ℕ) (b : Bool) → Goes P n y b → T (Q n y) → Came n y b
    came n y true o h = (y, h, o.0)
    came n y false o h = h

    inside : {x : ℕ} {w : List ℕ} {y : ℕ} (π : Trail g (Holds e) x w y) (b : Bool) → Lean π b → (u : List ℕ) → word ≡ u ++ w → T (c x top) → Goes P (length u) y b → Puts (length u) y b → Within (Holds c) π × Came (length u) y b
    inside {x} here b h u f t o k =
        let d = ap length (f ∙ append-nil u) in
        (tt, came (length u) x b o (subst (λ n. T (Q n x)) d (s.begin x (subst (λ n. T (P n x)) (sym d) (ends P (length u) x b o)) t)))
    inside (edge {y} p j) true h u f t o k =
        let r = inside p false h u f t (o.1 y j) tt in
        ((r.0, k y r.1 j), (y, r.1, j))
    inside (edge p j) false h u f t o k = absurd h
    inside (down {w} {v} {y = z} p i d) b h u f t o k =
        let a = reads g word u w v z i d f in
        let m = ends P (length u) (g.next z) b o in
        let n = one_more u (g.label z) in
        let r = inside p true h (u ++ (g.label z ∷ [])) (shifted u w v z d f) t (onward P s.levels u z a m) (λ y y1 y2. s.put (length u) z a y (subst (λ n. T (Q n y)) n y1) y2 m) in
        let (y, y1, y2) = r.1 in
        (r.0, came (length u) (g.next z) b o (s.again (length u) z a y (subst (λ n. T (Q n y)) n y1) y2 m))

  pub leveling : T (e q q) → Leveling g e word q
  leveling own =
      record {
        least = λ P l x π h. least P l π true h [] refl (own, l.none);
        within = λ c P Q top s x π h t. (inside c P Q top s π true h [] refl t (own, s.levels.none) s.last).0;
        longer = λ x z v i k π h. before g (Holds e) x z i k π true h;
      }
