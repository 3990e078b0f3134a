-- The ways of a word, line by line from the last one.
use Rattle.std.proofs.Common.{◌≡◌, ℕ, zero, suc, ◌+◌, ◌*◌, ◌<◌, ◌≤◌, List, [], ◌∷◌, length, get_or, sym, ap, ◌∙◌, subst, inl, inr, ⊎_elim, add-one, arith}
use mathlib.Core.Option.{Option, some, some-injective}
use lib.ListN.{get_elem?}
use Rattle.std.proofs.lemmas.Nat.{mul-add-lt}
use Rattle.std.proofs.lemmas.Bool.{cases_eq}
use Rattle.theory.specs.Graph.{Graph}
use Rattle.theory.specs.Levels.{Reads}
use Rattle.marking.specs.declared.edges.Edges.{Edges}
use Rattle.marking.specs.Relations.{On, Holds, Adds}
use Rattle.marking.specs.Nodes.{Drawn, Joins, GoesOn, Level, Filled}
use Rattle.marking.specs.Ways.{Passed, begin, step, Walked, Comes}
use Rattle.marking.proofs.Cells.{adds_then, adds_as}

-- a symbol more: line j takes in the next node of x
module _ (edges : Edges) (label : ℕ) (levels a b : List ℕ) (j x : ℕ)
    (t : Adds a b edges.nodes.size 11 (λ u v. (v ≡ j) × Comes edges label levels a j x u)) where
  -- line j + 1 is as it was
  as_before : (z : ℕ) → On b edges.nodes.size 11 z (j + 1) → On a edges.nodes.size 11 z (j + 1)
  as_before z h = ⊎_elim (λ k. k) (λ r. absurd (let k = r.0 in omega arith)) (t.sound z (j + 1) h)

  within : {h k u : ℕ} (l : Comes edges label levels a j h u) → l.node < k → Comes edges label levels a j k u
  within l lt = record { node = l.node; above = l.above; below = lt; on = l.on; next = l.next; source = l.source; way = l.way; before = l.before }

  pub comes_more : (c : List ℕ) (to : ℕ) → to ≡ get_or edges.nodes.nexts.now x 0 → Adds b c edges.nodes.size 11 (λ u v. (u ≡ to) × (v ≡ j)) → edges.nodes.low ≤ x → GoesOn edges.nodes label levels j x
      → (s : ℕ) → Joins edges s x → On b edges.nodes.size 11 s (j + 1) → Adds a c edges.nodes.size 11 (λ u v. (v ≡ j) × Comes edges label levels a j (x + 1) u)
  comes_more c to e s lo o y h w =
      adds_then _ t s (λ u v r. let k = r.1.below in (r.0, within r.1 (omega arith)))
      (λ u v r. (r.1, record { node = x; above = lo; below = omega arith; on = o; next = r.0 ∙ e; source = y; way = as_before y w; before = h }))
      (λ u v q. let k = q.1.below in elim (cases_eq q.1.node x) [
        | inl same ↦ inr (q.1.next ∙ ap (λ z. get_or edges.nodes.nexts.now z 0) same ∙ sym e, q.0)
        | inr ne ↦ inl (q.0, within q.1 (omega arith))
      ])

  pub comes_skip : (GoesOn edges.nodes label levels j x → (s : ℕ) → Joins edges s x → On b edges.nodes.size 11 s (j + 1) → ⊥)
      → Adds a b edges.nodes.size 11 (λ u v. (v ≡ j) × Comes edges label levels a j (x + 1) u)
  comes_skip off =
      adds_as _ t (λ u v r. let k = r.1.below in (r.0, within r.1 (omega arith)))
      (λ u v hu hv q. let k = q.1.below in elim (cases_eq q.1.node x) [
        | inl same ↦ absurd (off (rw same at q.1.on) q.1.source (rw same at q.1.before) (t.grows q.1.source (j + 1) q.1.way))
        | inr ne ↦ (q.0, within q.1 (omega arith))
      ])

-- only a place of the word can be read
pub read_in : (word : List ℕ) (j a : ℕ) → get_elem? word j ≡ some a → j < length word
read_in [] j a e = absurd (let z : ◌≡◌ {A = ℕ} 0 1 = cc in omega arith)
read_in (w ∷ ws) zero a e = omega arith
read_in (w ∷ ws) (suc j) a e = let k = read_in ws j a e in omega arith

module _ (g : Graph) (edges : Edges) (good : List ℕ) (d : Drawn g edges.nodes)
    (word : List ℕ) (q top : ℕ) (levels : List ℕ) (k : ℕ) (long : length word ≡ k) (few : k < 11) (f : Filled g (Joins edges) word q edges.nodes.size levels k) where
  abbrev n : ℕ
  n = edges.nodes.size

  abbrev Way : ℕ → ℕ → Type 0
  Way = Passed g (Joins edges) (Holds good n) word q top

  abbrev Ways : List ℕ → ℕ → Type 0
  Ways ws j = Walked g (Joins edges) (Holds good n) word q top n ws j

  way_last : {j z : ℕ} → k ≤ j → Way j z → (j ≡ k) × (Level g (Joins edges) word q j z × Holds good n z top)
  way_last h (begin e l c) = (e ∙ long, (l, c))
  way_last {j} h (step y z p e r s l) = absurd (let i = read_in word j (g.label z) r.label in omega arith)

  pub walked_none : (a b : List ℕ) → ((i : ℕ) → i < (k + 1) * n → get_or a i 0 ≡ 0) → Adds a b n 11 (λ u v. (v ≡ k) × (On levels n 11 u k × Holds good n u top)) → Ways b k
  walked_none a b blank t =
      let off : (j z : ℕ) → j ≤ k → On a n 11 z j → ⊥ = λ j z le h. let i = h.on in let e = blank (j * n + z) (omega (arith, mul-add-lt j n z (k + 1) (omega arith) h.source)) in omega arith in
      record {
        has = λ j z h hz p.
            let w = way_last h p in
            let same = w.0 in
            t.done z j hz (omega arith) (same, (f.has k z (omega arith) hz (subst (λ i. Level g (Joins edges) word q i z) same w.1.0), w.1.1));
        only = λ j z le o. elim (t.sound z j o) [
          | inl h ↦ absurd (off j z (omega arith) h)
          | inr r ↦
              let same = r.0 in
              begin (same ∙ sym long) (subst (λ i. Level g (Joins edges) word q i z) (sym same) (f.only k z (omega arith) r.1.0)) r.1.1
        ];
        below = λ j z h o. elim (t.sound z j o) [
          | inl i ↦ off j z (omega arith) i
          | inr r ↦ (let i = r.0 in omega arith)
        ];
      }

  module _ (a b : List ℕ) (j label : ℕ) (w : Ways a (j + 1)) (at : get_elem? word j ≡ some label) (lt : j < k)
      (t : Adds a b n 11 (λ u v. (v ≡ j) × Comes edges label levels a j n u)) where
    comes_from : {x : ℕ} → x < n → Way j x → Comes edges label levels a j n x
    comes_from hz (begin e l c) = absurd (omega arith)
    comes_from {x} hz (step y z p e r s l) =
        let (lo, hi) = d.inner_from z r.inner in
        let to : x ≡ get_or edges.nodes.nexts.now z 0 = s ∙ sym (d.next z lo hi) in
        record {
          node = z;
          above = lo;
          below = hi;
          on = record {
            labelled = d.label z lo hi ∙ some-injective (g.label z) label (sym r.label ∙ at);
            onward = subst (λ y. On levels n 11 y j) to (f.has j x (omega arith) hz l);
          };
          next = to;
          source = y;
          way = w.has (j + 1) y (omega arith) e.source (subst (λ i. Way i y) (sym (add-one j)) p);
          before = e;
        }

    way_by : {z : ℕ} → Comes edges label levels a j n z → Way j z
    way_by {z} c =
        let lo = c.above in
        let hi = c.below in
        let r : Reads g word j c.node = record { inner = d.inner_of c.node lo hi; label = at ∙ ap {B = Option ℕ} some (sym c.on.labelled ∙ d.label c.node lo hi) } in
        step c.source c.node (subst (λ i. Way i c.source) (add-one j) (w.only (j + 1) c.source (omega arith) c.way)) c.before r (c.next ∙ d.next c.node lo hi) (f.only j z (omega arith) (subst (λ y. On levels n 11 y j) (sym c.next) c.on.onward))

    pub walked_more : Ways b j
    walked_more =
        record {
          has = λ i z h hz p. elim (cases_eq i j) [
            | inl same ↦ t.done z i hz (omega arith) (same, comes_from hz (subst (λ s. Way s z) same p))
            | inr ne ↦ t.grows z i (w.has i z (omega arith) hz p)
          ];
          only = λ i z le o. elim (t.sound z i o) [
            | inl h ↦ w.only i z le h
            | inr r ↦ subst (λ s. Way s z) (sym r.0) (way_by r.1)
          ];
          below = λ i z h o. elim (t.sound z i o) [
            | inl s ↦ w.below i z (omega arith) s
            | inr r ↦ (let s = r.0 in omega arith)
          ];
        }
