-- A row more of a round.
use Rattle.std.proofs.Common.{◌≡◌, ℕ, zero, suc, ◌+◌, ◌<◌, Bool, true, false, ◌||◌, List, [], ◌∷◌, length, get_or, sym, refl, ◌∙◌, subst, inl, inr, arith}
use Rattle.std.proofs.lemmas.List.{take_all}
use Rattle.std.proofs.lemmas.Bool.{cases_lt, cases_Bool, or_parts, and_parts, false≢true}
use Rattle.machine.specs.declared.row.Row.{Row}
use Rattle.machine.specs.Rows.{zero_row, pops}
use Rattle.machine.specs.Lists.{Lists, all}
use Rattle.theory.specs.Graph.{Graph, Trail, Lean, At, Lawful}
use Rattle.theory.proofs.Steps.{goes}
use Rattle.theory.proofs.Useful.{own_closed}
use Rattle.marking.specs.Relations.{Holds, Adds, Preorder, zeros}
use Rattle.marking.specs.declared.nodes.Nodes.{Nodes}
use Rattle.marking.specs.Nodes.{Drawn, Level, none, again, Follows}
use Rattle.marking.specs.Marks.{row_at}
use Rattle.marking.specs.Rounds.{Own, Draws, Obeyed, Round, Saturated}
use Rattle.marking.proofs.Applying.{own_graph, own_drawn}
use Rattle.marking.proofs.Trails.{level_trail, level_map}

pub row_stands : (rows : List Row) (i : ℕ) → i < length rows → At rows i (get_or rows i zero_row)
row_stands [] i h = absurd (omega arith)
row_stands (r ∷ rs) zero h = refl
row_stands (r ∷ rs) (suc i) h = row_stands rs i (omega arith)

module _ (m : Lists) (g : Graph) (l : Lawful m g) where
  -- what follows from edges that are runs is a run
  follows_own : (a : List ℕ) (n : ℕ) → ((u v : ℕ) → Holds a n u v → Own m g l u v) → (i : ℕ) (r : Row) → At m.rows i r → (u v : ℕ) → Follows g a n (g.first i) (pops r) r.from u v → Own m g l u v
  follows_own a n s i r at u v (lev, h) =
      let p = level_trail g (Own m g l) (pops r) r.from (level_map g (pops r) r.from s lev) in
      let w = take_all (length (pops r)) (pops r) (omega arith) in
      let t : (π : Trail g (Own m g l) u (pops r) r.from) × Lean π true = subst (λ x. (π : Trail g (Own m g l) u x r.from) × Lean π true) w p in
      goes m (own_closed m g l i r at u t.0 t.1) (s (g.first i) v h)

module _ (m : Lists) (nodes : Nodes) (firsts : List ℕ) where
  abbrev n : ℕ
  n = nodes.size

  pub round_none : (a : List ℕ) → Preorder a n → Round m nodes firsts a a false 0
  round_none a p = record {
    order = p;
    grows = λ u v h. h;
    same = λ e. refl;
    fewer = λ e. absurd (false≢true e);
    sound = λ g d s u v h. s u v h;
    obeyed = λ e g d i z h. absurd (omega arith);
  }

  module _ (a b c : List ℕ) (t r : Bool) (i : ℕ) (here : i < length m.rows) (inside : get_or firsts i 0 < n)
      (h : Round m nodes firsts a b t i)
      (d : (g : Graph) → Drawn g nodes → Adds b c n n (Follows g b n (get_or firsts i 0) (pops (row_at m i)) (row_at m i).from))
      (order : Preorder c n) (same : r ≡ false → c ≡ b) (fewer : r ≡ true → zeros c < zeros b) where
    more_sound : (g : Graph) (w : Draws m nodes firsts g) → ((u v : ℕ) → Holds a n u v → Own m g w.lawful u v) → (u v : ℕ) → Holds c n u v → Own m g w.lawful u v
    more_sound g w s u v k =
        let sb = h.sound g w s in
        let at = row_stands m.rows i here in
        elim ((d g w.drawn).sound u v k) [
          | inl o ↦ sb u v o
          | inr f ↦ follows_own m g w.lawful b n sb i (row_at m i) at u v (f.0, subst (λ x. Holds b n x v) (w.first i here) f.1)
        ]

    more_obeyed : t ≡ false → c ≡ b → (g : Graph) → Drawn g nodes → Obeyed m n firsts g b (i + 1)
    more_obeyed e f g w j z k lev =
        elim (cases_lt j i) [
          | inl lt ↦ h.obeyed e g w j z lt lev
          | inr ge ↦
              let s : i ≡ j = omega arith in
              let lev' = subst (λ y. Level g (Holds b n) (pops (row_at m y)) (row_at m y).from (length (pops (row_at m y))) z) (sym s) lev in
              let on = (d g w).done z (get_or firsts i 0) (level_in g lev') inside (lev', h.order.reflexive (get_or firsts i 0) inside) in
              subst (λ x. Holds x n z (get_or firsts j 0)) f (subst (λ y. Holds c n z (get_or firsts y 0)) s on)
        ]
      where
        level_in : (g : Graph) {word : List ℕ} {q j x : ℕ} → Level g (Holds b n) word q j x → x < n
        level_in g (none e) = e.source
        level_in g (again y r e l) = e.source

    pub round_more : Round m nodes firsts a c (t || r) (i + 1)
    round_more = record {
      order = order;
      grows = λ u v k. grows_by u v (h.grows u v k);
      same = λ e. let q = or_parts t r e in same q.1 ∙ h.same q.0;
      fewer = λ e. elim (cases_Bool r) [
        | inl y ↦ still (fewer y)
        | inr no' ↦ let f = same no' in let x = h.fewer in grind arith
      ];
      sound = more_sound;
      obeyed = λ e g w. let q = or_parts t r e in subst (λ x. Obeyed m n firsts g x (i + 1)) (sym (same q.1)) (more_obeyed q.0 (same q.1) g w);
    }
      where
        grows_by : (u v : ℕ) → Holds b n u v → Holds c n u v
        grows_by u v k = (d (own_graph nodes) (own_drawn nodes)).grows u v k

        still : zeros c < zeros b → zeros c < zeros a
        still k = elim (cases_Bool t) [ inl y ↦ let x = h.fewer y in omega arith | inr no' ↦ let f = h.same no' in grind arith ]

pub all_at : {X : Type 0} (ok : X → Bool) (xs : List X) (d : X) (i : ℕ) → all ok xs ≡ true → i < length xs → ok (get_or xs i d) ≡ true
all_at ok [] d i a h = absurd (omega arith)
all_at ok (x ∷ xs) d zero a h = (and_parts (ok x) (all ok xs) a).0
all_at ok (x ∷ xs) d (suc i) a h = all_at ok xs d i (and_parts (ok x) (all ok xs) a).1 (omega arith)

-- What the rounds so far have made of a.
pub record Reached (m : Lists) (nodes : Nodes) (firsts : List ℕ) (a b : List ℕ) : Type 0 where
  pub order : Preorder b nodes.size
  pub grows : (u v : ℕ) → Holds a nodes.size u v → Holds b nodes.size u v
  pub sound : (g : Graph) (d : Draws m nodes firsts g) → ((u v : ℕ) → Holds a nodes.size u v → Own m g d.lawful u v) → (u v : ℕ) → Holds b nodes.size u v → Own m g d.lawful u v

module _ (m : Lists) (nodes : Nodes) (firsts : List ℕ) (a : List ℕ) where
  pub reached_none : Preorder a nodes.size → Reached m nodes firsts a a
  reached_none p = record { order = p; grows = λ u v h. h; sound = λ g d s. s }

  pub reached_more : (b c : List ℕ) (t : Bool) (k : ℕ) → Reached m nodes firsts a b → Round m nodes firsts b c t k → Reached m nodes firsts a c
  reached_more b c t k h d = record { order = d.order; grows = λ u v x. d.grows u v (h.grows u v x); sound = λ g w s. d.sound g w (h.sound g w s) }

  pub saturated : (b : List ℕ) → Reached m nodes firsts a b → ((g : Graph) → Drawn g nodes → Obeyed m nodes.size firsts g b (length m.rows)) → Saturated m nodes firsts a b
  saturated b h o = record { order = h.order; grows = h.grows; sound = h.sound; obeyed = o }
