-- The levels of a word, line by line.
use Rattle.std.proofs.Common.{◌≡◌, ℕ, zero, suc, ◌+◌, ◌*◌, ◌<◌, ◌≤◌, List, [], ◌∷◌, length, get_or, take, sym, refl, ap, ◌∙◌, subst, inl, inr, ⊎_elim, add-one, arith}
use mathlib.Core.Option.{Option, some, some-injective}
use lib.ListN.{get_elem?}
use Rattle.std.proofs.lemmas.Nat.{mul-add-lt}
use Rattle.std.proofs.lemmas.List.{get_or_past}
use Rattle.std.proofs.lemmas.Bool.{cases_lt}
use Rattle.theory.specs.Graph.{Graph}
use Rattle.theory.specs.Levels.{Reads}
use Rattle.marking.specs.declared.edges.Edges.{Edges}
use Rattle.marking.specs.Relations.{On, Adds, IsLine}
use Rattle.marking.specs.Nodes.{Drawn, Joins, Leads, Level, none, again, Filled, Readers}

pub all_zero : (ws : List ℕ) → ((k : ℕ) → k < length ws → get_or ws k 0 ≡ 0) → (k : ℕ) → get_or ws k 0 ≡ 0
all_zero ws h k = ⊎_elim (h k) (get_or_past ws k 0) (cases_lt k (length ws))

-- the lines above k, up to top, are empty
abbrev pub Blank : ℕ → List ℕ → ℕ → ℕ → Type 0
Blank n levels k top = (j z : ℕ) → k < j → j ≤ top → On levels n 11 z j → ⊥

-- the symbol at a place of a word
pub symbol_at : (xs : List ℕ) (n j : ℕ) → j < n → j < length xs → get_elem? (take n xs) j ≡ some (get_or xs j 0)
symbol_at [] n j h k = absurd (omega arith)
symbol_at (x ∷ xs) zero j h k = absurd (omega arith)
symbol_at (x ∷ xs) (suc n) zero h k = refl
symbol_at (x ∷ xs) (suc n) (suc j) h k = symbol_at xs n j (omega arith) (omega arith)

module _ (g : Graph) (edges : Edges) (d : Drawn g edges.nodes) (word : List ℕ) (q : ℕ) where
  abbrev n : ℕ
  n = edges.nodes.size

  level_none : {z : ℕ} → Level g (Joins edges) word q 0 z → Joins edges z q
  level_none (none e) = e

  pub filled_none : (top : ℕ) (a b : List ℕ) → ((i : ℕ) → i < (top + 1) * n → get_or a i 0 ≡ 0) → Adds a b n 11 (λ u v. (v ≡ 0) × Joins edges u q) → q < n
      → Filled g (Joins edges) word q n b 0 × Blank n b 0 top
  filled_none top a b blank t hq =
      let off : (j z : ℕ) → j ≤ top → On a n 11 z j → ⊥ = λ j z le h. let k = h.on in let e = blank (j * n + z) (omega (arith, mul-add-lt j n z (top + 1) (omega arith) h.source)) in omega arith in (
        record {
          has = λ j z h hz l. let e : j ≡ 0 = omega arith in rw e (t.done z 0 hz (omega arith) (refl, level_none (subst (λ i. Level g (Joins edges) word q i z) e l)));
          only = λ j z h o. let e : j ≡ 0 = omega arith in
              elim (t.sound z j o) [
                | inl k ↦ absurd (off j z (omega arith) k)
                | inr r ↦ rw e (none r.1)
              ];
        },
        λ j z h le o. elim (t.sound z j o) [
          | inl k ↦ off j z le k
          | inr r ↦ (let k = r.0 in omega arith)
        ],
      )

  module _ (top : ℕ) (a b : List ℕ) (k label : ℕ) (f : Filled g (Joins edges) word q n a k) (blank : Blank n a k top) (below : k < top) (at : get_elem? word k ≡ some label)
      (t : Adds a b n 11 (λ u v. (v ≡ k + 1) × Leads edges label a k n u)) (small : k < 10) where
    -- what leads on from line k
    leads_from : {z : ℕ} → Level g (Joins edges) word q (suc k) z → Leads edges label a k n z
    leads_from (again z r e l) =
        let (lo, hi) = d.inner_from z r.inner in
        let same : g.label z ≡ label = some-injective (g.label z) label (sym r.label ∙ at) in
        let to = d.next z lo hi in
        record {
          node = z;
          above = lo;
          below = hi;
          on = record { labelled = d.label z lo hi ∙ same; onward = rw to (f.has k (g.next z) (omega arith) (rw to at (edges.nodes.shaped.next_in z lo hi)) l) };
          before = e;
        }

    level_by : {u : ℕ} → Leads edges label a k n u → Level g (Joins edges) word q (suc k) u
    level_by l =
        let hi = l.below in
        let r : Reads g word k l.node = record { inner = d.inner_of l.node l.above hi; label = at ∙ ap {B = Option ℕ} some (sym l.on.labelled ∙ d.label l.node l.above hi) } in
        again l.node r l.before (f.only k (g.next l.node) (omega arith) (rw (d.next l.node l.above hi) at l.on.onward))

    pub filled_more : Filled g (Joins edges) word q n b (k + 1) × Blank n b (k + 1) top
    filled_more = (
      record {
        has = λ j z h hz l. elim (cases_lt j (k + 1)) [
          | inl lt ↦ t.grows z j (f.has j z (omega arith) hz l)
          | inr ge ↦
              let e : j ≡ k + 1 = omega arith in
              let m : Level g (Joins edges) word q (suc k) z = subst (λ i. Level g (Joins edges) word q i z) (e ∙ add-one k) l in
              t.done z j hz (omega arith) (e, leads_from m)
        ];
        only = λ j z h o. elim (t.sound z j o) [
          | inl i ↦ elim (cases_lt j (k + 1)) [
            | inl lt ↦ f.only j z (omega arith) i
            | inr ge ↦ absurd (blank j z (omega arith) (omega arith) i)
          ]
          | inr r ↦ subst (λ i. Level g (Joins edges) word q i z) (sym (r.0 ∙ add-one k)) (level_by r.1)
        ];
      },
      λ j z h le o. elim (t.sound z j o) [
        | inl i ↦ blank j z (omega arith) le i
        | inr r ↦ (let i = r.0 in omega arith)
      ],
    )

-- The last line has the nodes from which the whole word can be read.
pub readers : (g : Graph) (E : ℕ → ℕ → Type 0) (word : List ℕ) (q n : ℕ) (levels set : List ℕ) (k : ℕ) → length word ≡ k
    → Filled g E word q n levels k → IsLine levels n 11 k set → Readers g E word q n set
readers g E word q n levels set k long f line = record {
  on = λ x m. subst (λ j. Level g E word q j x) (sym long) (f.only k x (omega arith) (line.on x m));
  off = λ x h v. line.off x (f.has k x (omega arith) h (subst (λ j. Level g E word q j x) long v));
}
