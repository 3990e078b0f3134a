-- The edges of ways, put down place by place.
use Rattle.std.proofs.Common.{◌≡◌, ℕ, ◌+◌, ◌<◌, ◌≤◌, Bool, ◌||◌, List, length, get_or, take, sym, ap, ◌∙◌, subst, inl, inr, add-one, arith}
use mathlib.Core.Option.{Option, some, some-injective}
use lib.ListN.{get_elem?}
use Rattle.std.proofs.lemmas.Bool.{cases_eq}
use Rattle.theory.specs.Graph.{Graph}
use Rattle.marking.specs.declared.edges.Edges.{Edges}
use Rattle.marking.specs.Relations.{Member, Holds, IsLine, Steps}
use Rattle.marking.specs.Nodes.{Drawn, Joins, GoesOn, Filled}
use Rattle.marking.specs.Ways.{Passed, Inside, OnWay, Walked, Leaves}
use Rattle.marking.proofs.Filling.{symbol_at}
use Rattle.marking.proofs.Lines.{steps_then, steps_as}
use Rattle.marking.proofs.Walking.{read_in}

module _ (edges : Edges) (label : ℕ) (levels ways : List ℕ) (j x : ℕ) where
  abbrev n : ℕ
  n = edges.nodes.size

  abbrev Leave : ℕ → ℕ → ℕ → Type 0
  Leave = Leaves edges label levels ways j

  within : {h k u v : ℕ} → Leave h u v → v < k → Leave k u v
  within l lt = record { above = l.above; below = lt; on = l.on; way = l.way; before = l.before }

  higher : (u v : ℕ) → Leave x u v → Leave (x + 1) u v
  higher u v l = within l (let k = l.below in omega arith)

  module _ (a b : List ℕ) (t : Bool) (h : Steps a b n (Leave x) t) where
    pub leaves_more : (c sources passed : List ℕ) (r : Bool) → IsLine edges.cells.now n n x sources → IsLine ways n 11 (j + 1) passed
        → Steps b c n (λ u v. (v ≡ x) × (Member sources u × Member passed u)) r
        → edges.nodes.low ≤ x → GoesOn edges.nodes label levels j x → Steps a c n (Leave (x + 1)) (t || r)
    leaves_more c sources passed r ls lp s lo o =
        steps_then _ h s higher
        (λ u v q. let same = q.0 in subst (λ y. Leave (x + 1) u y) (sym same) (record { above = lo; below = omega arith; on = o; way = lp.on u q.1.1; before = ls.on u q.1.0 }))
        (λ u v l. let k = l.below in elim (cases_eq v x) [
          | inl same ↦ inr (same, (ls.off u (rw same at l.before), lp.off u l.way))
          | inr ne ↦ inl (within l (omega arith))
        ])

    pub leaves_skip : (GoesOn edges.nodes label levels j x → ⊥) → Steps a b n (Leave (x + 1)) t
    leaves_skip off =
        steps_as _ h higher
        (λ u v hu hv l. let k = l.below in elim (cases_eq v x) [
          | inl same ↦ absurd (off (rw same at l.on))
          | inr ne ↦ within l (omega arith)
        ])

-- an edge that reads one of the first k symbols
pub record LeavesOne (edges : Edges) (symbols levels ways : List ℕ) (k u v : ℕ) : Type 0 where
  pub place : ℕ
  pub early : place < k
  pub leaves : Leaves edges (get_or symbols place 0) levels ways place edges.nodes.size u v

module _ (edges : Edges) (symbols levels ways : List ℕ) where
  abbrev size : ℕ
  size = edges.nodes.size

  abbrev One : ℕ → ℕ → ℕ → Type 0
  One = LeavesOne edges symbols levels ways

  pub one_none : (u v : ℕ) → One 0 u v → ⊥
  one_none u v l = let k = l.early in omega arith

  pub one_more : (a b c : List ℕ) (t r : Bool) (j label : ℕ) → label ≡ get_or symbols j 0 → Steps a b size (One j) t → Steps b c size (Leaves edges label levels ways j size) r → Steps a c size (One (j + 1)) (t || r)
  one_more a b c t r j label e h s =
      steps_then _ h s
      (λ u v l. record { place = l.place; early = (let k = l.early in omega arith); leaves = l.leaves })
      (λ u v l. record { place = j; early = omega arith; leaves = rw e at l })
      (λ u v l. let k = l.early in elim (cases_eq l.place j) [
        | inl same ↦ inr (rw e (subst (λ p. Leaves edges (get_or symbols p 0) levels ways p size u v) same l.leaves))
        | inr ne ↦ inl (record { place = l.place; early = omega arith; leaves = l.leaves })
      ])

  module _ (g : Graph) (d : Drawn g edges.nodes) (old : List ℕ) (q top k : ℕ)
      (long : length (take k symbols) ≡ k) (room : k ≤ length symbols)
      (f : Filled g (Joins edges) (take k symbols) q size levels k) (w : Walked g (Joins edges) (Holds old size) (take k symbols) q top size ways 0) where
    abbrev word : List ℕ
    word = take k symbols

    inside : (u v : ℕ) → One k u v → Inside g (Joins edges) (Holds old size) word q top u v
    inside u v o =
        let j : ℕ = o.place in
        let lt = o.early in
        let l = o.leaves in
        let lo = l.above in
        let hi = l.below in
        let at : get_elem? word j ≡ some (get_or symbols j 0) = symbol_at symbols k j lt (omega arith) in
        record {
          place = j;
          passed = subst (λ i. Passed g (Joins edges) (Holds old size) word q top i u) (add-one j) (w.only (j + 1) u (omega arith) l.way);
          step = l.before;
          reads = record { inner = d.inner_of v lo hi; label = at ∙ ap {B = Option ℕ} some (sym l.on.labelled ∙ d.label v lo hi) };
          level = f.only j (g.next v) (omega arith) (rw (d.next v lo hi) at l.on.onward);
        }

    outside : (u v : ℕ) → Inside g (Joins edges) (Holds old size) word q top u v → One k u v
    outside u v i =
        let j : ℕ = i.place in
        let lt = read_in word j (g.label v) i.reads.label in
        let (lo, hi) = d.inner_from v i.reads.inner in
        let at : get_elem? word j ≡ some (get_or symbols j 0) = symbol_at symbols k j (omega arith) (omega arith) in
        let to = d.next v lo hi in
        record {
          place = j;
          early = omega arith;
          leaves = record {
            above = lo;
            below = hi;
            on = record {
              labelled = d.label v lo hi ∙ some-injective (g.label v) (get_or symbols j 0) (sym i.reads.label ∙ at);
              onward = rw to (f.has j (g.next v) (omega arith) (rw to at (edges.nodes.shaped.next_in v lo hi)) i.level);
            };
            way = w.has (j + 1) u (omega arith) i.step.source (subst (λ s. Passed g (Joins edges) (Holds old size) word q top s u) (sym (add-one j)) i.passed);
            before = i.step;
          };
        }

    pub all_ways : (a b c : List ℕ) (t r : Bool) (sources passed : List ℕ) → IsLine edges.cells.now size size q sources → IsLine ways size 11 0 passed
        → Steps a b size (One k) t → Steps b c size (λ u v. (v ≡ q) × (Member sources u × Member passed u)) r → Steps a c size (OnWay g (Joins edges) (Holds old size) word q top) (t || r)
    all_ways a b c t r sources passed ls lp h s =
        steps_then _ h s (λ u v o. inl (inside u v o))
        (λ u v p. inr (record { end = p.0; passed = w.only 0 u (omega arith) (lp.on u p.1.1); step = ls.on u p.1.0 }))
        (λ u v o. elim o [
          | inl i ↦ inl (outside u v i)
          | inr l ↦ inr (l.end, (ls.off u l.step, lp.off u (w.has 0 u (omega arith) l.step.source l.passed)))
        ])
