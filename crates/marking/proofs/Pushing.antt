-- The nodes of the rows, one row after the other.
use Rattle.std.proofs.Common.{◌≡◌, ℕ, zero, suc, ◌+◌, ◌<◌, ◌≤◌, ◌⊎◌, List, [], ◌∷◌, ◌++◌, length, get_or, take, drop, set, sum_by, sym, refl, ap, ◌∙◌, subst, inl, inr, arith}
use Rattle.std.proofs.lemmas.List.{take_more, take-take, take-append-drop, get_or-set_same, get_or-set_other}
use Rattle.std.proofs.lemmas.List.Sums.{sum_by-cons}
use Rattle.std.proofs.lemmas.Bool.{cases_lt}
use Rattle.std.specs.List.{range_with_len}
use Rattle.machine.specs.declared.row.Row.{Row}
use Rattle.machine.specs.Rows.{zero_row, lawful_row, pushes}
use Rattle.machine.specs.Lists.{Lists, Few, Limits}
use Rattle.marking.specs.Marks.{row_at, pushed}
use Rattle.marking.proofs.Rounding.{all_at}
use Rattle.marking.proofs.Words.{both}
use Rattle.marking.proofs.Sizes.{pushed_small}
use Rattle.marking.specs.Drawing.{next_of, WordDrawn, DrewWord, base_of, DrewRows}

pushed-append : (rs ss : List Row) → pushed (rs ++ ss) ≡ pushed rs + pushed ss
pushed-append [] ss = omega arith
pushed-append (r ∷ rs) ss = let h = pushed-append rs ss in omega arith

pub pushed_take : (i : ℕ) (rs : List Row) → pushed (take i rs) ≤ pushed rs
pushed_take i rs =
    let e = ap pushed (take-append-drop i rs) in
    let p = pushed-append (take i rs) (drop i rs) in
    omega arith

-- one row more
pub pushed_more : (rs : List Row) (i : ℕ) → i < length rs → pushed (take (i + 1) rs) ≡ pushed (take i rs) + length (pushes (get_or rs i zero_row))
pushed_more rs i lt =
    let e = ap pushed (take_more rs i zero_row lt) in
    let p = pushed-append (take i rs) (get_or rs i zero_row ∷ []) in
    omega arith

-- the lengths that the rows tell, place by place
by_place : (f : ℕ → ℕ) (a : ℕ) (rs : List Row) → ((k : ℕ) → k < length rs → f (a + k) ≡ length (pushes (get_or rs k zero_row))) → sum_by f (range_with_len a (length rs)) ≡ pushed rs
by_place f a [] h = refl
by_place f a (r ∷ rs) h =
    let first = h 0 (omega arith) in
    let e : a + 0 ≡ a = omega arith in
    let rest = by_place f (a + 1) rs (λ k lt. let e : a + 1 + k ≡ a + suc k = omega arith in ap f e ∙ h (suc k) (omega arith)) in
    omega (arith, sum_by-cons f a (range_with_len (a + 1) (length rs)), ap f e, first, rest)

-- so a machine's symbols are counted, and they are few
pub pushed_counted : (m : Lists) → Few m → Limits m → (sum_by (λ i. (row_at m i).pushed.len) (range_with_len 0 (length m.rows)) ≡ pushed m.rows) × (pushed m.rows ≤ 10240)
pushed_counted m f l = (
  by_place _ 0 m.rows (λ k lt.
      let e : 0 + k ≡ k = omega arith in
      let w = (both (row_at m k) (all_at lawful_row m.rows zero_row k l.rows lt)).1 in
      ap (λ i. (row_at m i).pushed.len) e ∙ sym w.long),
  omega (arith, pushed_small m.rows l.rows, f.rows),
)

pub next_small : (base prev c b : ℕ) → prev < b → base + c ≤ b → next_of base prev c < b
next_small base prev zero b h k = h
next_small base prev (suc c) b h k = omega arith

-- the word that the row at a place pushes
pub pushed_here : (m : Lists) → Limits m → (r : Row) (i : ℕ) → r ≡ row_at m i → i < length m.rows → (r.pushed.len ≤ 10) × (r.pushed.len ≡ length (pushes r)) × (r.pushed.len ≡ length (pushes (row_at m i)))
pushed_here m l r i e lt =
    let w = (both r (ap lawful_row e ∙ all_at lawful_row m.rows zero_row i l.rows lt)).1 in
    (w.few, sym w.long, sym w.long ∙ ap (λ (q : Row). length (pushes q)) e)

-- the word of a row, under the row's own names
pub as_row : (r q : Row) → r ≡ q → (base prev count last : ℕ) (labels nexts labels' nexts' : List ℕ) → prev ≡ r.to → count ≡ length (pushes r)
    → DrewWord (pushes r) base prev labels nexts labels' nexts' count last → DrewWord (pushes q) base q.to labels nexts labels' nexts' (length (pushes q)) last
as_row r q e base prev count last labels nexts labels' nexts' p n w =
    subst (λ z. DrewWord (pushes z) base z.to labels nexts labels' nexts' (length (pushes z)) last) e
    (subst (λ k. DrewWord (pushes r) base r.to labels nexts labels' nexts' k last) n
    (subst (λ k. DrewWord (pushes r) base k labels nexts labels' nexts' count last) p w))

module _ (m : Lists) (low : ℕ) where
  -- the next row's nodes lie behind this one's
  pub base_more : (i : ℕ) → i < length m.rows → base_of m low (i + 1) ≡ base_of m low i + length (pushes (row_at m i))
  base_more i lt = omega (arith, pushed_more m.rows i lt)

  pub base_in : (i : ℕ) → base_of m low i ≤ low + pushed m.rows
  base_in i = omega (arith, pushed_take i m.rows)

  pub reach_in : (i : ℕ) → i < length m.rows → base_of m low i + length (pushes (row_at m i)) ≤ low + pushed m.rows
  reach_in i lt = omega (arith, base_more i lt, base_in (i + 1))

  pub base_up : (j i : ℕ) → j ≤ i → base_of m low j ≤ base_of m low i
  base_up j i le =
      let e = ap pushed (take-take j i m.rows le) in
      let t = pushed_take j (take i m.rows) in
      omega arith

  module _ (labels nexts firsts labels' nexts' : List ℕ) (i base last : ℕ) (d : DrewRows m low labels nexts firsts i base) (lt : i < length m.rows)
      (w : DrewWord (pushes (row_at m i)) base (row_at m i).to labels nexts labels' nexts' (length (pushes (row_at m i))) last) where
    here : WordDrawn (pushes (row_at m i)) (base_of m low i) (row_at m i).to labels' nexts' (length (pushes (row_at m i)))
    here = subst (λ b. WordDrawn (pushes (row_at m i)) b (row_at m i).to labels' nexts' (length (pushes (row_at m i)))) d.reached w.drawn

    -- what was drawn for a row before lies below
    before : (j : ℕ) → j < i → WordDrawn (pushes (row_at m j)) (base_of m low j) (row_at m j).to labels' nexts' (length (pushes (row_at m j)))
    before j jt =
        let o = d.words j jt in
        let up = base_up (j + 1) i (omega arith) in
        let e = base_more j (omega arith) in
        record {
          label = λ k kt. w.labels_below (base_of m low j + k) (omega (arith, d.reached)) ∙ o.label k kt;
          next = λ k kt. w.nexts_below (base_of m low j + k) (omega (arith, d.reached)) ∙ o.next k kt;
        }

    words : (j : ℕ) → (j < i) ⊎ (i ≤ j) → j < i + 1 → WordDrawn (pushes (row_at m j)) (base_of m low j) (row_at m j).to labels' nexts' (length (pushes (row_at m j)))
    words j (inl h) jt = before j h
    words j (inr h) jt =
        let e : i ≡ j = omega arith in
        subst (λ k. WordDrawn (pushes (row_at m k)) (base_of m low k) (row_at m k).to labels' nexts' (length (pushes (row_at m k)))) e here

    firsts_more : (v : ℕ) → i < length firsts → v ≡ last → (j : ℕ) → (j < i) ⊎ (i ≤ j) → j < i + 1
        → get_or (set firsts i v) j 0 ≡ next_of (base_of m low j) (row_at m j).to (length (pushes (row_at m j)))
    firsts_more v room e j (inl h) jt =
        let ne : (j ≡ i → ⊥) = λ q. omega arith in
        rw get_or-set_other (d.first j h)
    firsts_more v room e j (inr h) jt =
        let q : i ≡ j = omega arith in
        subst (λ k. get_or (set firsts i v) k 0 ≡ next_of (base_of m low k) (row_at m k).to (length (pushes (row_at m k)))) q
        (get_or-set_same firsts i v 0 room ∙ e ∙ w.final ∙ ap (λ b. next_of b (row_at m i).to (length (pushes (row_at m i)))) d.reached)

    pub drew_row : (v above : ℕ) → i < length firsts → v ≡ last → above ≡ base + length (pushes (row_at m i)) → DrewRows m low labels' nexts' (set firsts i v) (i + 1) above
    drew_row v above room e a =
        record {
          words = λ j jt. words j (cases_lt j i) jt;
          first = λ j jt. firsts_more v room e j (cases_lt j i) jt;
          reached = omega (arith, a, d.reached, base_more i lt);
        }
