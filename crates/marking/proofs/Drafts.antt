-- What was written down row by row is the graph of the machine.
use Rattle.std.proofs.Common.{◌≡◌, ℕ, zero, suc, ◌+◌, ◌-◌, ◌<◌, ◌≤◌, T, List, [], ◌∷◌, ◌++◌, length, get_or, take, sym, refl, ap, ◌∙◌, subst, inl, inr, arith}
use Rattle.std.proofs.lemmas.List.{length-append, take_all, get_or_append_left, get_or-append_right, get_or_past}
use Rattle.std.proofs.lemmas.Bool.{cases_lt}
use Rattle.machine.specs.declared.row.Row.{Row}
use Rattle.machine.specs.Rows.{zero_row, pushes}
use Rattle.machine.specs.Lists.{Lists}
use Rattle.theory.specs.Layout.{Cell, plain, states, word_cells, row_cells, top, firsts, cells, cell_at, graph_of, Fits}
use Rattle.theory.proofs.Nodes.{length-states, length-word, state_cell, lawful}
use Rattle.marking.specs.declared.nodes.Nodes.{Nodes}
use Rattle.marking.specs.Marks.{pushed}
use Rattle.marking.specs.Rounds.{Draws}
use Rattle.marking.specs.Drawing.{next_of, WordDrawn, DrewRows}

-- the nodes of a word above its first node
next_shift : (base prev j : ℕ) → next_of (suc base) base j ≡ next_of base prev (suc j)
next_shift base prev zero = omega arith
next_shift base prev (suc j) = omega arith

top_next : (base prev : ℕ) (ws : List ℕ) → top base prev ws ≡ next_of base prev (length ws)
top_next base prev [] = refl
top_next base prev (a ∷ bs) = top_next (suc base) base bs ∙ next_shift base prev (length bs)

-- What lies at a place is an inner node with this label and next node.
pub record Is (c : Cell) (label next : ℕ) : Type 0 where
  pub inner : T c.inner
  pub label_is : label ≡ c.label
  pub next_is : next ≡ c.next

pub word_cell : (base prev to : ℕ) (taken ws : List ℕ) (k : ℕ) → k < length ws → Is (get_or (word_cells base prev to taken ws) k (plain 0)) (get_or ws k 0) (next_of base prev k)
word_cell base prev to taken [] k lt = absurd (omega arith)
word_cell base prev to taken (a ∷ bs) zero lt = record { inner = tt; label_is = refl; next_is = refl }
word_cell base prev to taken (a ∷ bs) (suc k) lt =
    let i = word_cell (suc base) base to (taken ++ (a ∷ [])) bs k (omega arith) in
    record { inner = i.inner; label_is = i.label_is; next_is = sym (next_shift base prev k) ∙ i.next_is }

length-rows : (base : ℕ) (rs : List Row) → length (row_cells base rs) ≡ pushed rs
length-rows base [] = refl
length-rows base (r ∷ rs) =
    length-append (word_cells base r.to r.to [] (pushes r)) (row_cells (base + length (pushes r)) rs)
    ∙ (let a = length-word base r.to r.to [] (pushes r) in let b = length-rows (base + length (pushes r)) rs in omega arith)

module _ (labels nexts : List ℕ) where
  abbrev AtRow : List Row → ℕ → ℕ → Type 0
  AtRow rs base i = WordDrawn (pushes (get_or rs i zero_row)) (base + pushed (take i rs)) (get_or rs i zero_row).to labels nexts (length (pushes (get_or rs i zero_row)))

  abbrev Cells : List Row → ℕ → ℕ → Type 0
  Cells rs base y = Is (get_or (row_cells base rs) y (plain 0)) (get_or labels (base + y) 0) (get_or nexts (base + y) 0)

  module _ (r : Row) (rs : List Row) (base : ℕ) (h : (i : ℕ) → i < length (r ∷ rs) → AtRow (r ∷ rs) base i) where
    abbrev ws : List Cell
    ws = word_cells base r.to r.to [] (pushes r)

    abbrev more : ℕ
    more = base + length (pushes r)

    later : (i : ℕ) → i < length rs → AtRow rs more i
    later i it =
        let e : base + (length (pushes r) + pushed (take i rs)) ≡ base + length (pushes r) + pushed (take i rs) = omega arith in
        subst (λ b. WordDrawn (pushes (get_or rs i zero_row)) b (get_or rs i zero_row).to labels nexts (length (pushes (get_or rs i zero_row)))) e (h (suc i) (omega arith))

    in_row : (y : ℕ) → y < length (pushes r) → Cells (r ∷ rs) base y
    in_row y k =
        let z : base + 0 ≡ base = omega arith in
        let d : WordDrawn (pushes r) base r.to labels nexts (length (pushes r)) =
        subst (λ b. WordDrawn (pushes r) b r.to labels nexts (length (pushes r))) z (h 0 (omega arith)) in
        let l = length-word base r.to r.to [] (pushes r) in
        let c = word_cell base r.to r.to [] (pushes r) y k in
        let f : get_or (ws ++ row_cells more rs) y (plain 0) ≡ get_or ws y (plain 0) = get_or_append_left ws (row_cells more rs) (plain 0) y (omega arith) in
        subst (λ v. Is v (get_or labels (base + y) 0) (get_or nexts (base + y) 0)) (sym f)
        (record { inner = c.inner; label_is = d.label y k ∙ c.label_is; next_is = d.next y k ∙ c.next_is })

    past_row : (y : ℕ) → length (pushes r) ≤ y → Cells rs more (y - length (pushes r)) → Cells (r ∷ rs) base y
    past_row y k i =
        let l = length-word base r.to r.to [] (pushes r) in
        let f : get_or (ws ++ row_cells more rs) y (plain 0) ≡ get_or (row_cells more rs) (y - length (pushes r)) (plain 0) =
        get_or-append_right ws (row_cells more rs) (length (pushes r)) y (plain 0) l k in
        let z : more + (y - length (pushes r)) ≡ base + y = omega arith in
        subst (λ v. Is v (get_or labels (base + y) 0) (get_or nexts (base + y) 0)) (sym f)
        (subst (λ n. Is (get_or (row_cells more rs) (y - length (pushes r)) (plain 0)) (get_or labels n 0) (get_or nexts n 0)) z i)

  rows_cell : (rs : List Row) (base : ℕ) → ((i : ℕ) → i < length rs → AtRow rs base i) → (y : ℕ) → y < pushed rs → Cells rs base y
  rows_cell [] base h y lt = absurd (omega arith)
  rows_cell (r ∷ rs) base h y lt =
      elim (cases_lt y (length (pushes r))) [
        | inl k ↦ in_row r rs base h y k
        | inr k ↦ past_row r rs base h y k (rows_cell rs (base + length (pushes r)) (later r rs base h) (y - length (pushes r)) (omega arith))
      ]

rows_first : (rs : List Row) (base i : ℕ) → i < length rs → firsts base rs i ≡ next_of (base + pushed (take i rs)) (get_or rs i zero_row).to (length (pushes (get_or rs i zero_row)))
rows_first [] base i lt = absurd (omega arith)
rows_first (r ∷ rs) base zero lt =
    let z : base ≡ base + 0 = omega arith in
    top_next base r.to (pushes r) ∙ ap (λ b. next_of b r.to (length (pushes r))) z
rows_first (r ∷ rs) base (suc i) lt =
    let z : base + length (pushes r) + pushed (take i rs) ≡ base + (length (pushes r) + pushed (take i rs)) = omega arith in
    rows_first rs (base + length (pushes r)) i (omega arith)
    ∙ ap (λ b. next_of b (get_or rs i zero_row).to (length (pushes (get_or rs i zero_row)))) z

-- the inner nodes lie behind the states
pub cell_past : (m : Lists) (low x : ℕ) → low ≤ x → cell_at low m.rows x ≡ get_or (row_cells low m.rows) (x - low) (plain 0)
cell_past m low x le = get_or-append_right (states 0 low) (row_cells low m.rows) low x (plain 0) (length-states 0 low) le

module _ (m : Lists) (low n : ℕ) (labels nexts firsts' : List ℕ) (d : DrewRows m low labels nexts firsts' (length m.rows) n) where
  -- the nodes are the states and the symbols pushed
  pub size : n ≡ low + pushed m.rows
  size = let e = ap pushed (take_all (length m.rows) m.rows (omega arith)) in omega (arith, d.reached)

  pub inner_cell : (x : ℕ) → low ≤ x → x < n → Is (cell_at low m.rows x) (get_or labels x 0) (get_or nexts x 0)
  inner_cell x le lt =
      let f = cell_past m low x le in
      let z : low + (x - low) ≡ x = omega arith in
      let c = rows_cell labels nexts m.rows low d.words (x - low) (omega (arith, size)) in
      subst (λ v. Is v (get_or labels x 0) (get_or nexts x 0)) (sym f)
      (subst (λ k. Is (get_or (row_cells low m.rows) (x - low) (plain 0)) (get_or labels k 0) (get_or nexts k 0)) z c)

  outside : (x : ℕ) → n ≤ x → T (cell_at low m.rows x).inner → ⊥
  outside x le t =
      let a = length-append (states 0 low) (row_cells low m.rows) in
      let b = length-states 0 low in
      let c = length-rows low m.rows in
      let e = get_or_past (cells low m.rows) x (plain 0) (omega (arith, size)) in
      subst (λ (v : Cell). T v.inner) e t

  inside : (x : ℕ) → T (cell_at low m.rows x).inner → (low ≤ x) × (x < n)
  inside x t =
      let l : low ≤ x = elim (cases_lt x low) [ inl h ↦ absurd (subst (λ (v : Cell). T v.inner) (state_cell low m.rows x h) t) | inr h ↦ h ] in
      let u : x < n = elim (cases_lt x n) [ inl h ↦ h | inr h ↦ absurd (outside x h t) ] in
      (l, u)

pub draws : (m : Lists) (nodes : Nodes) (firsts' : List ℕ) → DrewRows m nodes.low nodes.labels.now nodes.nexts.now firsts' (length m.rows) nodes.size → Fits m nodes.low → Draws m nodes firsts' (graph_of nodes.low m.rows)
draws m nodes firsts' d fits =
    let at = inner_cell m nodes.low nodes.size nodes.labels.now nodes.nexts.now firsts' d in
    record {
      drawn = record {
        inner_from = inside m nodes.low nodes.size nodes.labels.now nodes.nexts.now firsts' d;
        inner_of = λ x le lt. (at x le lt).inner;
        label = λ x le lt. (at x le lt).label_is;
        next = λ x le lt. (at x le lt).next_is;
      };
      lawful = lawful m nodes.low fits;
      first = λ i lt. d.first i lt ∙ sym (rows_first m.rows nodes.low i lt);
    }
