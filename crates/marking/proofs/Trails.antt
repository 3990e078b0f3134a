-- A level is where a lean trail that reads the word begins.
use Rattle.std.proofs.Common.{◌≡◌, ℕ, zero, suc, Bool, true, false, T, List, [], ◌∷◌, ◌++◌, length, take, sym, refl, ap, ◌∙◌, subst, inl, inr, append_assoc, append-nil, arith}
use mathlib.Core.Option.{some}
use lib.ListN.{get_elem?}
use Rattle.theory.specs.Graph.{Graph, Trail, here, edge, down, Within, Lean}
use Rattle.theory.specs.Levels.{Reads}
use Rattle.theory.proofs.Reading.{one_more, reads, before}
use Rattle.marking.specs.Nodes.{Level, none, again}
use Rattle.marking.specs.Ways.{Passed, begin, step, OnWay}

take_one : (word : List ℕ) (j a : ℕ) → get_elem? word j ≡ some a → take j word ++ (a ∷ []) ≡ take (suc j) word
take_one [] j a e = absurd (let z : ◌≡◌ {A = ℕ} 0 1 = cc in omega arith)
take_one (w ∷ ws) zero a e = let f : w ≡ a = cc in ap (λ x. x ∷ []) (sym f)
take_one (w ∷ ws) (suc j) a e = ap (λ xs. w ∷ xs) (take_one ws j a e)

module _ (g : Graph) (E : ℕ → ℕ → Type 0) where
  pub level_trail : (word : List ℕ) (q : ℕ) {j x : ℕ} → Level g E word q j x → (π : Trail g E x (take j word) q) × Lean π true
  level_trail word q (none e) = (edge here e, tt)
  level_trail word q {x = x} (again {j} z r e l) =
      let p = level_trail word q l in
      let t = before g E x z r.inner e p.0 true p.1 in
      subst (λ w. (π : Trail g E x w q) × Lean π true) (take_one word j (g.label z) r.label) t

  module _ (word : List ℕ) (q : ℕ) (loops : (z : ℕ) → T (g.inner z) → E z z) where
    -- what is known of the end y of a lean trail, where n symbols are still to read:
    -- with false, that it goes on to q; with true, that whoever has an edge to y does
    abbrev Goes : ℕ → ℕ → Bool → Type 0
    Goes n y true = E y y × ((v : ℕ) → E v y → Level g E word q n v)
    Goes n y false = Level g E word q n y

    ends : (n y : ℕ) (b : Bool) → Goes n y b → Level g E word q n y
    ends n y true c = c.1 y c.0
    ends n y false c = c

    onward : (u : List ℕ) (z : ℕ) → Reads g word (length u) z → Level g E word q (length u) (g.next z) → Goes (length (u ++ (g.label z ∷ []))) z true
    onward u z r h = (loops z r.inner, λ v k. subst (λ n. Level g E word q n v) (sym (one_more u (g.label z))) (again z r k h))

    level_from : {x : ℕ} {w : List ℕ} {y : ℕ} (π : Trail g E x w y) (b : Bool) → Lean π b → (u : List ℕ) → word ≡ u ++ w → Goes (length u) y b → Level g E word q (length word) x
    level_from {x} here b h u f c = subst (λ n. Level g E word q n x) (sym (ap length (f ∙ append-nil u))) (ends (length u) x b c)
    level_from (edge {y} p k) true h u f c = level_from p false h u f (c.1 y k)
    level_from (edge p k) false h u f c = absurd h
    level_from (down {w} {v} {y = z} p i d) b h u f c =
        level_from p true h (u ++ (g.label z ∷ [])) (f ∙ ap (λ t. u ++ t) d ∙ sym (append_assoc u (g.label z ∷ []) w)) (onward u z (reads g word u w v z i d f) (ends (length u) (g.next z) b c))

    -- Where C has each edge of the ways, it has each edge of a lean trail that begins one.
    module _ (C : ℕ → ℕ → Type 0) (top : ℕ) (put : (u v : ℕ) → OnWay g E C word q top u v → C u v) where
      abbrev Way : ℕ → ℕ → Type 0
      Way = Passed g E C word q top

      -- what a lean trail shows: with false, that a way comes to its end y; with true, that one comes to a node with an edge to y
      abbrev Came : ℕ → ℕ → Bool → Type 0
      Came n y true = (v : ℕ) × Way n v × E v y
      Came n y false = Way n y

      -- what a trail that ends in an edge needs for that edge
      abbrev Puts : ℕ → ℕ → Bool → Type 0
      Puts n y true = (v : ℕ) → Way n v → E v y → C v y
      Puts n y false = Unit {0}

      came : (n y : ℕ) (b : Bool) → Goes n y b → Way n y → Came n y b
      came n y true o h = (y, h, o.0)
      came n y false o h = h

      inside : {x : ℕ} {w : List ℕ} {y : ℕ} (π : Trail g E x w y) (b : Bool) → Lean π b → (u : List ℕ) → word ≡ u ++ w → C x top → Goes (length u) y b → Puts (length u) y b → Within C π × Came (length u) y b
      inside {x} here b h u f t o k = (tt, came (length u) x b o (begin (sym (ap length (f ∙ append-nil u))) (ends (length u) x b o) t))
      inside (edge {y} p j) true h u f t o k =
          let r = inside p false h u f t (o.1 y j) tt in
          ((r.0, k y r.1 j), (y, r.1, j))
      inside (edge p j) false h u f t o k = absurd h
      inside (down {w} {v} {y = z} p i d) b h u f t o k =
          let a = reads g word u w v z i d f in
          let m = ends (length u) (g.next z) b o in
          let n = one_more u (g.label z) in
          let r = inside p true h (u ++ (g.label z ∷ [])) (f ∙ ap (λ t. u ++ t) d ∙ sym (append_assoc u (g.label z ∷ []) w)) t (onward u z a m)
          (λ y y1 y2. put y z (inl (record { place = length u; passed = subst (λ n. Way n y) n y1; step = y2; reads = a; level = m }))) in
          let (y, y1, y2) = r.1 in
          (r.0, came (length u) (g.next z) b o (step y z (subst (λ n. Way n y) n y1) y2 a refl m))

      pub trail_ways : E q q → {x : ℕ} (π : Trail g E x word q) → Lean π true → C x top → Within C π
      trail_ways own π h t = (inside π true h [] refl t (own, λ v k. none k) (λ v p e. put v q (inr (record { end = refl; passed = p; step = e })))).0

    pub trail_level : E q q → {x : ℕ} (π : Trail g E x word q) → Lean π true → Level g E word q (length word) x
    trail_level own π h = level_from π true h [] refl (own, λ v k. none k)

-- Of a larger relation.
pub level_map : (g : Graph) {E S : ℕ → ℕ → Type 0} (word : List ℕ) (q : ℕ) → ((x y : ℕ) → E x y → S x y) → {j x : ℕ} → Level g E word q j x → Level g S word q j x
level_map g word q f (none e) = none (f _ _ e)
level_map g word q f (again z r e l) = again z r (f _ _ e) (level_map g word q f l)

-- What stands before a node of a level is in that level.
pub level_down : (g : Graph) {E : ℕ → ℕ → Type 0} (word : List ℕ) (q : ℕ) → ((x y z : ℕ) → E x y → E y z → E x z) → {j x : ℕ} → Level g E word q j x → (u : ℕ) → E u x → Level g E word q j u
level_down g word q t (none e) u h = none (t _ _ _ h e)
level_down g word q t (again z r e l) u h = again z r (t _ _ _ h e) l
