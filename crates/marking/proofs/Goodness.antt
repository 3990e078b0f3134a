-- Rounds backward: what lies on a way from a good edge is good.
use Rattle.std.proofs.Common.{◌≡◌, ℕ, zero, suc, ◌+◌, ◌<◌, Bool, false, ◌||◌, ◌⊎◌, List, [], ◌∷◌, ◌++◌, length, get_or, take, drop, sym, refl, ap, ◌∙◌, subst, inl, inr, append_assoc, arith}
use mathlib.Core.Option.{some}
use mathlib.Core.List.{Memᴰ}
use lib.ListN.{get_elem?}
use Rattle.std.proofs.lemmas.List.{take-append-drop, drop_all}
use Rattle.std.proofs.lemmas.Bool.{cases_lt, cases_eq, cases_Bool, or_parts, false≢true}
use Rattle.machine.specs.declared.row.Row.{Row}
use Rattle.machine.specs.Rows.{pops, pushes}
use Rattle.machine.specs.Lists.{Lists}
use Rattle.theory.specs.Graph.{Graph, Trail, edge, down, At, Lawful, Accepts, Good}
use Rattle.theory.proofs.Steps.{stays, goes, one}
use Rattle.theory.proofs.Useful.{member, lower, level, at_state, of_state, earlier, sound_trail}
use Rattle.marking.specs.Relations.{Member, Holds, Steps, Touches, zeros}
use Rattle.marking.specs.declared.edges.Edges.{Edges}
use Rattle.marking.specs.Nodes.{Drawn, Joins, Level}
use Rattle.marking.specs.Ways.{Passed, begin, step, OnWay}
use Rattle.marking.specs.Marks.{row_at}
use Rattle.marking.specs.Rounds.{Own, RowWalked, Pending, KeepsGood, BackRound, BackSaturated}
use Rattle.marking.proofs.Applying.{own_graph, own_drawn}
use Rattle.marking.proofs.Trails.{level_trail}
use Rattle.marking.proofs.Rounding.{row_stands}

drop_read : (word : List ℕ) (j a : ℕ) → get_elem? word j ≡ some a → drop j word ≡ a ∷ drop (suc j) word
drop_read [] j a e = absurd (let z : ◌≡◌ {A = ℕ} 0 1 = cc in omega arith)
drop_read (w ∷ ws) zero a e = let f : w ≡ a = cc in ap (λ x. x ∷ ws) f
drop_read (w ∷ ws) (suc j) a e = drop_read ws j a e

module _ (m : Lists) (g : Graph) (l : Lawful m g) (E : ℕ → ℕ → Type 0) (sound : (x y : ℕ) → E x y → Own m g l x y)
    (i : ℕ) (r : Row) (at : At m.rows i r) (C : ℕ → ℕ → Type 0) (good : (u v : ℕ) → C u v → Good m g l E u v) where
  abbrev word : List ℕ
  word = pops r

  fits : r.from < g.width
  fits = l.from_fit r (member m.rows i r at)

  -- A stack from a start that puts x on top, with the word but for its first j symbols below; and with the whole word on it the machine goes on to accept.
  record Stood (j x : ℕ) : Type 0 where
    start : ℕ
    begins : Memᴰ start m.starts
    rest : List ℕ
    trail : Trail g E start (drop j word ++ rest) x
    accepts : Accepts m r.from (word ++ rest)

  -- the row applies, and what it pushes leads on
  applies : (ρ : List ℕ) → Accepts m (l.st (g.first i)) (l.tail (g.first i) ++ ρ) → Accepts m r.from (word ++ ρ)
  applies ρ a =
      let k = member m.rows i r at in
      let e = level m g l (l.walk i r at) ρ in
      let f = of_state m g l r.to (l.to_fit r k) (pushes r ++ ρ) in
      let b = earlier m g l E sound (goes m f (stays m (sym e.0) (sym e.1))) a in
      earlier m g l E sound (one m r ρ k) b

  stood : {j x : ℕ} → Passed g E C word r.from (g.first i) j x → Stood j x
  stood {j} {x} (begin e lev c) =
      let (s, ρ, hs, p, a) = good x (g.first i) c in
      let d : ρ ≡ drop j word ++ ρ = ap (λ w. w ++ ρ) (sym (drop_all j word (omega arith))) in
      record { start = s; begins = hs; rest = ρ; trail = subst (λ w. Trail g E s w x) d p; accepts = applies ρ a }
  stood {j} {x} (step y z p e rd s lev) =
      let t = stood p in
      let d : drop j word ++ t.rest ≡ g.label z ∷ (drop (suc j) word ++ t.rest) = ap (λ w. w ++ t.rest) (drop_read word j (g.label z) rd.label) in
      record { start = t.start; begins = t.begins; rest = t.rest; trail = subst (λ v. Trail g E t.start (drop j word ++ t.rest) v) (sym s) (down (edge t.trail e) rd.inner d); accepts = t.accepts }

  -- from a node of level j, with the rest of the word below, the machine comes to where the row applies
  reads_on : (j x : ℕ) → Level g E word r.from j x → (ρ : List ℕ) → Accepts m r.from (word ++ ρ) → Accepts m (l.st x) (l.tail x ++ (drop j word ++ ρ))
  reads_on j x lev ρ a =
      let t = (level_trail g E word r.from lev).0 in
      let whole : take j word ++ (drop j word ++ ρ) ≡ word ++ ρ = sym (append_assoc (take j word) (drop j word) ρ) ∙ ap (λ w. w ++ ρ) (take-append-drop j word) in
      let p = goes m (sound_trail m g l E sound t (drop j word ++ ρ)) (at_state m g l r.from fits (take j word ++ (drop j word ++ ρ))) in
      earlier m g l E sound p (subst (λ w. Accepts m r.from w) (sym whole) a)

  pub on_way_good : (u v : ℕ) → OnWay g E C word r.from (g.first i) u v → Good m g l E u v
  on_way_good u v (inl k) =
      let j : ℕ = k.place in
      let t = stood k.passed in
      let d = drop_read word j (g.label v) k.reads.label in
      let a = reads_on j (g.next v) k.level t.rest t.accepts in
      (t.start, drop (suc j) word ++ t.rest, t.begins, t.trail, earlier m g l E sound (stays m (l.inner_st v k.reads.inner) (lower m g l v k.reads.inner d t.rest)) a)
  on_way_good u v (inr k) =
      let t = stood k.passed in
      let a = earlier m g l E sound (at_state m g l r.from fits (word ++ t.rest)) t.accepts in
      subst (λ y. Good m g l E u y) (sym k.end) (t.start, word ++ t.rest, t.begins, t.trail, a)

-- Ways from the nodes that stand before top depend on these alone.
passed_as : {g : Graph} {E C D : ℕ → ℕ → Type 0} {word : List ℕ} {q top : ℕ} → ((x : ℕ) → C x top → D x top) → {j x : ℕ} → Passed g E C word q top j x → Passed g E D word q top j x
passed_as f (begin e l c) = begin e l (f _ c)
passed_as f (step y z p e r s l) = step y z (passed_as f p) e r s l

on_way_as : {g : Graph} {E C D : ℕ → ℕ → Type 0} {word : List ℕ} {q top : ℕ} → ((x : ℕ) → C x top → D x top) → (u v : ℕ) → OnWay g E C word q top u v → OnWay g E D word q top u v
on_way_as f u v (inl k) = inl (record { place = k.place; passed = passed_as f k.passed; step = k.step; reads = k.reads; level = k.level })
on_way_as f u v (inr k) = inr (record { end = k.end; passed = passed_as f k.passed; step = k.step })

module _ (m : Lists) (edges : Edges) (firsts : List ℕ) where
  abbrev Way : Graph → List ℕ → Row → ℕ → ℕ → ℕ → Type 0
  Way g b row first = OnWay g (Joins edges) (Holds b edges.nodes.size) (pops row) row.from first

  -- Where the edges of the ways over b are in c, and c has no more before the first node than b, the row is walked.
  settled : (g : Graph) (b c t w : List ℕ) (y : Bool) → Touches b c edges.nodes.size t w y → (i : ℕ) → ((u v : ℕ) → Way g b (row_at m i) (get_or firsts i 0) u v → Holds c edges.nodes.size u v)
      → Member w (get_or firsts i 0) ⊎ RowWalked m edges firsts g c i
  settled g b c t w y h i into =
      elim (cases_lt 0 (get_or w (get_or firsts i 0) 0)) [
        | inl k ↦ inl k
        | inr k ↦ inr (λ u v o. into u v (on_way_as (λ x e. elim (h.still x (get_or firsts i 0) e) [ inl z ↦ z | inr z ↦ absurd (omega arith) ]) u v o))
      ]

  pub back_none : (pending a old : List ℕ) → ((g : Graph) → Drawn g edges.nodes → Pending m edges firsts g a pending) → BackRound m edges firsts pending a a old old false 0
  back_none pending a old p = record {
    grows = λ u v h. h;
    same = λ e. refl;
    fewer = λ e. absurd (false≢true e);
    quiet = λ e. refl;
    sound = λ g d s k. k;
    done = λ g d i h. absurd (omega arith);
    left = λ g d i h lt. elim (p g d i lt) [ inl k ↦ inl k | inr k ↦ inr (inr k) ];
  }

  module _ (pending a b old t : List ℕ) (x : Bool) (i : ℕ) (lt : i < length m.rows) (h : BackRound m edges firsts pending a b old t x i) where
    pub back_skip : (Member pending (get_or firsts i 0) → ⊥) → (Member t (get_or firsts i 0) → ⊥) → BackRound m edges firsts pending a b old t x (i + 1)
    back_skip np nt = record {
      grows = h.grows;
      same = h.same;
      fewer = h.fewer;
      quiet = h.quiet;
      sound = h.sound;
      done = λ g d j k. elim (cases_eq j i) [
        | inl same ↦ elim (h.left g d i (omega arith) lt) [
          | inl z ↦ absurd (np z)
          | inr z ↦ subst (λ y. Member t (get_or firsts y 0) ⊎ RowWalked m edges firsts g b y) (sym same) z
        ]
        | inr ne ↦ h.done g d j (omega arith)
      ];
      left = λ g d j k. h.left g d j (omega arith);
    }

    module _ (c w : List ℕ) (y : Bool)
        (d : (g : Graph) → Drawn g edges.nodes → Steps b c edges.nodes.size (Way g b (row_at m i) (get_or firsts i 0)) y) (tc : Touches b c edges.nodes.size t w y) where
      abbrev own : Steps b c edges.nodes.size (Way (own_graph edges.nodes) b (row_at m i) (get_or firsts i 0)) y
      own = d (own_graph edges.nodes) (own_drawn edges.nodes)

      more_good : KeepsGood m edges firsts a c
      more_good g v s k u z o =
          let kb = h.sound g v s k in
          let at = row_stands m.rows i lt in
          elim ((d g v.drawn).adds.sound u z o) [
            | inl e ↦ kb u z e
            | inr e ↦ on_way_good m g v.lawful (Joins edges) s i (row_at m i) at (Holds b edges.nodes.size) kb u z (subst (λ f. Way g b (row_at m i) f u z) (v.first i lt) e)
          ]

      in_cells : (g : Graph) {word : List ℕ} {q top u v : ℕ} → OnWay g (Joins edges) (Holds b edges.nodes.size) word q top u v → (u < edges.nodes.size) × (v < edges.nodes.size)
      in_cells g (inl k) = (k.step.source, k.step.target)
      in_cells g (inr k) = (k.step.source, rw k.end k.step.target)

      this_row : (g : Graph) → Drawn g edges.nodes → Member w (get_or firsts i 0) ⊎ RowWalked m edges firsts g c i
      this_row g v = settled g b c t w y tc i (λ u z o.
          let (hu, hz) = in_cells g o in
          (d g v).adds.done u z hu hz o)

      -- a row that was walked still is, or its first node was touched
      other_row : (g : Graph) (j : ℕ) → Member t (get_or firsts j 0) ⊎ RowWalked m edges firsts g b j → Member w (get_or firsts j 0) ⊎ RowWalked m edges firsts g c j
      other_row g j (inl k) = inl (tc.keeps (get_or firsts j 0) k)
      other_row g j (inr k) = settled g b c t w y tc j (λ u z o. own.adds.grows u z (k u z o))

      pub back_more : BackRound m edges firsts pending a c old w (x || y) (i + 1)
      back_more = record {
        grows = λ u v k. own.adds.grows u v (h.grows u v k);
        same = λ e. let q = or_parts x y e in own.same q.1 ∙ h.same q.0;
        fewer = λ e. elim (cases_Bool y) [
          | inl z ↦ still (own.fewer z)
          | inr no' ↦ let f = own.same no' in let z = h.fewer in grind arith
        ];
        quiet = λ e. let q = or_parts x y e in tc.quiet q.1 ∙ h.quiet q.0;
        sound = more_good;
        done = λ g v j k. elim (cases_eq j i) [
          | inl same ↦ subst (λ z. Member w (get_or firsts z 0) ⊎ RowWalked m edges firsts g c z) (sym same) (this_row g v)
          | inr ne ↦ other_row g j (h.done g v j (omega arith))
        ];
        left = λ g v j k q. elim (h.left g v j (omega arith) q) [
          | inl z ↦ inl z
          | inr z ↦ inr (other_row g j z)
        ];
      }
        where
          still : zeros c < zeros b → zeros c < zeros a
          still k = elim (cases_Bool x) [ inl z ↦ let q = h.fewer z in omega arith | inr no' ↦ let f = h.same no' in grind arith ]

-- What the rounds so far have made of a, and what is left to walk.
pub record Backed (m : Lists) (edges : Edges) (firsts a b pending touched : List ℕ) : Type 0 where
  pub grows : (u v : ℕ) → Holds a edges.nodes.size u v → Holds b edges.nodes.size u v
  pub sound : KeepsGood m edges firsts a b
  pub left : (g : Graph) → Drawn g edges.nodes → Pending m edges firsts g b pending
  pub blank : (k : ℕ) → get_or touched k 0 ≡ 0

module _ (m : Lists) (edges : Edges) (firsts a : List ℕ) where
  pub backed_none : (pending touched : List ℕ) → ((k : ℕ) → k < length pending → get_or pending k 0 ≡ 1) → length pending ≡ edges.nodes.size
      → ((i : ℕ) → i < length m.rows → get_or firsts i 0 < edges.nodes.size) → ((k : ℕ) → get_or touched k 0 ≡ 0) → Backed m edges firsts a a pending touched
  backed_none pending touched full long first blank = record {
    grows = λ u v h. h;
    sound = λ g d s k. k;
    left = λ g d i lt. inl (let k = first i lt in let e = full (get_or firsts i 0) (omega arith) in omega arith);
    blank = blank;
  }

  pub backed_more : (b c pending touched w next blank : List ℕ) (t : Bool) → Backed m edges firsts a b pending touched
      → BackRound m edges firsts pending b c touched w t (length m.rows) → next ≡ w → ((k : ℕ) → get_or blank k 0 ≡ 0) → Backed m edges firsts a c next blank
  backed_more b c pending touched w next blank t h d e z = record {
    grows = λ u v x. d.grows u v (h.grows u v x);
    sound = λ g q s x. d.sound g q s (h.sound g q s x);
    left = λ g q i lt. subst (λ s. Member s (get_or firsts i 0) ⊎ RowWalked m edges firsts g c i) (sym e) (d.done g q i lt);
    blank = z;
  }

  pub back_saturated : (b c pending touched w : List ℕ) → Backed m edges firsts a b pending touched
      → BackRound m edges firsts pending b c touched w false (length m.rows) → BackSaturated m edges firsts a c
  back_saturated b c pending touched w h d = record {
    grows = λ u v x. d.grows u v (h.grows u v x);
    sound = λ g q s x. d.sound g q s (h.sound g q s x);
    walked = λ g q i lt. elim (d.done g q i lt) [
      | inl k ↦ absurd (let e = ap (λ s. get_or s (get_or firsts i 0) 0) (d.quiet refl) in let z = h.blank (get_or firsts i 0) in omega arith)
      | inr k ↦ k
    ];
  }
