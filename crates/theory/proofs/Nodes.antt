-- The layout is lawful, so that the hypotheses of the theorems can be met.
use mathlib.Core.Path.{◌≡◌, refl, sym, ◌∙◌, ap, subst, subst⁻¹}
use mathlib.Core.Logic.{inl, inr}
use mathlib.Core.Option.{none-ne-some, some-injective}
use mathlib.Core.List.Memᴰ
use mathlib.Core.List.{List, [], ◌∷◌, ◌++◌, append_assoc, Memᴰ}
use Prim.Native.Nat.{ℕ, zero, suc, ◌+◌, ◌<◌}
use native.Mathlib.Nat.{add-zero, add-suc, suc-add, zero-add, le_of_suc-le-suc, not-suc-le-zero}
use lib.Dec.{T}
use lib.ListN.{length, get_or, length-append}
use Rattle.machine.specs.declared.row.Row.{Row}
use Rattle.machine.specs.Rows.{pushes}
use Rattle.machine.specs.Lists.{Lists}
use Rattle.theory.specs.Graph.{Graph, Trail, here, down, At, NoEdge, Lawful}
use Rattle.theory.specs.Layout.{Cell, plain, states, word_cells, row_cells, top, firsts, cells, cell_at, graph_of, Fits}

-- The list stands in the table from b on.
abbrev Sits : (ℕ → Cell) → ℕ → List Cell → Type 0
Sits at b [] = Unit {0}
Sits at b (c ∷ cs) = (at b ≡ c) × Sits at (suc b) cs

get_or-middle : (pre : List Cell) (c d : Cell) (cs : List Cell) → get_or (pre ++ (c ∷ cs)) (length pre) d ≡ c
get_or-middle [] c d cs = refl
get_or-middle (x ∷ pre) c d cs = get_or-middle pre c d cs

sits : (pre cs all : List Cell) (b : ℕ) → all ≡ pre ++ cs → b ≡ length pre → Sits (λ x. get_or all x (plain 0)) b cs
sits pre [] all b e f = tt
sits pre (c ∷ cs) all b e f = (
  ap (λ n. get_or all n (plain 0)) f ∙ ap (λ l. get_or l (length pre) (plain 0)) e ∙ get_or-middle pre c (plain 0) cs,
  sits (pre ++ (c ∷ [])) cs all (suc b) (e ∙ sym (append_assoc pre (c ∷ []) cs))
      (ap suc f ∙ sym (length-append pre (c ∷ []) ∙ add-suc (length pre) 0 ∙ ap suc (add-zero (length pre)))),
)

sits_left : (at : ℕ → Cell) (b : ℕ) (xs ys : List Cell) → Sits at b (xs ++ ys) → Sits at b xs
sits_left at b [] ys h = tt
sits_left at b (x ∷ xs) ys h = (h.0, sits_left at (suc b) xs ys h.1)

sits_right : (at : ℕ → Cell) (b : ℕ) (xs ys : List Cell) → Sits at b (xs ++ ys) → Sits at (b + length xs) ys
sits_right at b [] ys h = subst⁻¹ (λ n. Sits at n ys) (add-zero b) h
sits_right at b (x ∷ xs) ys h = subst⁻¹ (λ n. Sits at n ys) (add-suc b (length xs) ∙ sym (suc-add b (length xs))) (sits_right at (suc b) xs ys h.1)

pub length-states : (b k : ℕ) → length (states b k) ≡ k
length-states b zero = refl
length-states b (suc k) = ap suc (length-states (suc b) k)

pub length-word : (b p t : ℕ) (u w : List ℕ) → length (word_cells b p t u w) ≡ length w
length-word b p t u [] = refl
length-word b p t u (a ∷ bs) = ap suc (length-word (suc b) b t (u ++ (a ∷ [])) bs)

state_at : (at : ℕ → Cell) (b k : ℕ) → Sits at b (states b k) → (j : ℕ) → j < k → at (b + j) ≡ plain (b + j)
state_at at b zero h j lt = absurd (not-suc-le-zero lt)
state_at at b (suc k) h zero lt = subst⁻¹ (λ n. at n ≡ plain n) (add-zero b) h.0
state_at at b (suc k) h (suc j) lt =
    subst⁻¹ (λ n. at n ≡ plain n) (add-suc b j ∙ sym (suc-add b j)) (state_at at (suc b) k h.1 j (le_of_suc-le-suc lt))

outer : (b k : ℕ) (c : Cell) → Memᴰ c (states b k) → T c.inner → ⊥
outer b zero c h t = Memᴰ.not-nil h
outer b (suc k) c h t =
    elim (Memᴰ.cases_cons h) [ inl e ↦ subst (λ (u : Cell). T u.inner) e t | inr j ↦ outer (suc b) k c j t ]

module _ (at : ℕ → Cell) where
  abbrev Fine : Cell → Type 0
  Fine c = (c.st ≡ (at c.next).st) × (c.tail ≡ (at c.next).tail ++ (c.label ∷ []))

  word_fine : (b p t : ℕ) (u w : List ℕ) → Sits at b (word_cells b p t u w) → (at p).st ≡ t → (at p).tail ≡ u → (c : Cell) → Memᴰ c (word_cells b p t u w) → Fine c
  word_fine b p t u [] h e f c k = absurd (Memᴰ.not-nil k)
  word_fine b p t u (a ∷ bs) h e f c k =
      elim (Memᴰ.cases_cons k) [
        | inl i ↦ subst⁻¹ Fine i (sym e, ap (λ v. v ++ (a ∷ [])) (sym f))
        | inr j ↦ word_fine (suc b) b t (u ++ (a ∷ [])) bs h.1 (ap (λ (v : Cell). v.st) h.0) (ap (λ (v : Cell). v.tail) h.0) c j
      ]

  rows_fine : (b : ℕ) (rs : List Row) → Sits at b (row_cells b rs) → ((r : Row) → Memᴰ r rs → at r.to ≡ plain r.to) → (c : Cell) → Memᴰ c (row_cells b rs) → Fine c
  rows_fine b [] h p c k = absurd (Memᴰ.not-nil k)
  rows_fine b (r ∷ rs) h p c k =
      let ws : List Cell = word_cells b r.to r.to [] (pushes r) in
      let e = p r (Memᴰ.head refl) in
      let later = sits_right at b ws (row_cells (b + length (pushes r)) rs) h in
      elim (Memᴰ.append_cases ws k) [
        | inl j ↦ word_fine b r.to r.to [] (pushes r) (sits_left at b ws (row_cells (b + length (pushes r)) rs) h) (ap (λ (v : Cell). v.st) e) (ap (λ (v : Cell). v.tail) e) c j
        | inr j ↦ rows_fine (b + length (pushes r)) rs
            (subst (λ n. Sits at (b + n) (row_cells (b + length (pushes r)) rs)) (length-word b r.to r.to [] (pushes r)) later)
            (λ s i. p s (Memᴰ.tail i)) c j
      ]

get_or-member : (l : List Cell) (x : ℕ) → T (get_or l x (plain 0)).inner → Memᴰ (get_or l x (plain 0)) l
get_or-member [] x t = absurd t
get_or-member (c ∷ l) zero t = Memᴰ.head refl
get_or-member (c ∷ l) (suc x) t = Memᴰ.tail (get_or-member l x t)

module _ (g : Graph) (at : ℕ → Cell) (gi : (x : ℕ) → g.inner x ≡ (at x).inner) (gl : (x : ℕ) → g.label x ≡ (at x).label) (gn : (x : ℕ) → g.next x ≡ (at x).next) where
  word_walk : (b p t : ℕ) (u w : List ℕ) → Sits at b (word_cells b p t u w) → Trail g NoEdge (top b p w) w p
  word_walk b p t u [] h = here
  word_walk b p t u (a ∷ bs) h =
      let i : T (g.inner b) = subst⁻¹ T (gi b ∙ ap (λ (v : Cell). v.inner) h.0) tt in
      let e : a ≡ g.label b = sym (gl b ∙ ap (λ (v : Cell). v.label) h.0) in
      subst (λ y. Trail g NoEdge (top (suc b) b bs) (a ∷ bs) y) (gn b ∙ ap (λ (v : Cell). v.next) h.0)
      (down (word_walk (suc b) b t (u ++ (a ∷ [])) bs h.1) i (ap {B = List ℕ} (λ c. c ∷ bs) e))

  rows_walk : (b : ℕ) (rs : List Row) → Sits at b (row_cells b rs) → (i : ℕ) (r : Row) → At rs i r → Trail g NoEdge (firsts b rs i) (pushes r) r.to
  rows_walk b [] h i r e = absurd (none-ne-some r e)
  rows_walk b (s ∷ rs) h zero r e =
      let w = word_walk b s.to s.to [] (pushes s) (sits_left at b (word_cells b s.to s.to [] (pushes s)) (row_cells (b + length (pushes s)) rs) h) in
      subst (λ (v : Row). Trail g NoEdge (top b s.to (pushes s)) (pushes v) v.to) (some-injective s r e) w
  rows_walk b (s ∷ rs) h (suc i) r e =
      let later = sits_right at b (word_cells b s.to s.to [] (pushes s)) (row_cells (b + length (pushes s)) rs) h in
      rows_walk (b + length (pushes s)) rs
      (subst (λ n. Sits at (b + n) (row_cells (b + length (pushes s)) rs)) (length-word b s.to s.to [] (pushes s)) later) i r e

-- the cells below width are the states
pub state_cell : (width : ℕ) (rows : List Row) (q : ℕ) → q < width → cell_at width rows q ≡ plain q
state_cell width rows q h =
    let at : ℕ → Cell = cell_at width rows in
    let all : List Cell = cells width rows in
    let low : Sits at 0 (states 0 width) = sits_left at 0 (states 0 width) (row_cells width rows) (sits [] all all 0 refl refl) in
    subst (λ n. at n ≡ plain n) (zero-add q) (state_at at 0 width low q h)

pub lawful : (m : Lists) (width : ℕ) → Fits m width → Lawful m (graph_of width m.rows)
lawful m width fits =
    let at : ℕ → Cell = cell_at width m.rows in
    let all : List Cell = cells width m.rows in
    let high : Sits at width (row_cells width m.rows) = sits (states 0 width) (row_cells width m.rows) all width refl (sym (length-states 0 width)) in
    let state : (q : ℕ) → q < width → at q ≡ plain q = state_cell width m.rows in
    let fine : (x : ℕ) → T (at x).inner → Fine at (at x) =
    λ x t. elim (Memᴰ.append_cases (states 0 width) (get_or-member all x t)) [
      | inl k ↦ absurd (outer 0 width (at x) k t)
      | inr k ↦ rows_fine at width m.rows high (λ r j. state r.to (fits.to r j)) (at x) k
    ] in
    record {
      st = λ x. (at x).st;
      tail = λ x. (at x).tail;
      state_st = λ q h. ap (λ (c : Cell). c.st) (state q h);
      state_tail = λ q h. ap (λ (c : Cell). c.tail) (state q h);
      inner_st = λ x t. (fine x t).0;
      inner_tail = λ x t. (fine x t).1;
      walk = rows_walk (graph_of width m.rows) at (λ x. refl) (λ x. refl) (λ x. refl) width m.rows high;
      starts_fit = fits.starts;
      accepts_fit = fits.accepts;
      from_fit = fits.from;
      to_fit = fits.to;
    }
