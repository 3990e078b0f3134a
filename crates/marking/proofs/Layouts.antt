-- The nodes that were drawn for a machine lie within the words.
use Rattle.std.proofs.Common.{◌≡◌, ℕ, ◌+◌, ◌-◌, ◌<◌, ◌≤◌, List, [], ◌∷◌, ◌++◌, length, get_or, sym, refl, ap, ◌∙◌, subst, inl, inr, arith}
use mathlib.Core.List.{Memᴰ}
use Rattle.std.proofs.lemmas.List.{get_or_append_left, get_or-append_right}
use Rattle.std.proofs.lemmas.Bool.{cases_lt}
use Rattle.machine.specs.declared.row.Row.{Row}
use Rattle.machine.specs.Rows.{pushes}
use Rattle.machine.specs.Lists.{Lists, width_of}
use Rattle.theory.specs.Layout.{Cell, plain, word_cells, row_cells, Fits}
use Rattle.theory.proofs.Nodes.{length-word}
use Rattle.theory.proofs.Useful.{member}
use Rattle.marking.specs.Marks.{row_at, pushed}
use Rattle.marking.specs.Drawing.{next_of, DrewRows, base_of}
use Rattle.marking.specs.Shapes.{Shaped, Fit}
use Rattle.marking.proofs.Drafts.{word_cell, cell_past, inner_cell, size}
use Rattle.marking.proofs.Pushing.{next_small, reach_in}
use Rattle.marking.proofs.Reaching.{mem_at}
use Rattle.marking.proofs.Rounding.{row_stands}
use Rattle.marking.proofs.Sizes.{fits}

-- the next node of each inner node
rows_next : (rs : List Row) (base : ℕ) → ((r : Row) → Memᴰ r rs → r.to < base) → (y : ℕ) → y < pushed rs → (get_or (row_cells base rs) y (plain 0)).next < base + pushed rs
rows_next [] base h y lt = absurd (omega arith)
rows_next (r ∷ rs) base h y lt =
    let ws : List Cell = word_cells base r.to r.to [] (pushes r) in
    let more : ℕ = base + length (pushes r) in
    let l = length-word base r.to r.to [] (pushes r) in
    let t = h r (Memᴰ.head refl) in
    elim (cases_lt y (length (pushes r))) [
      | inl k ↦
          let f : get_or (ws ++ row_cells more rs) y (plain 0) ≡ get_or ws y (plain 0) = get_or_append_left ws (row_cells more rs) (plain 0) y (omega arith) in
          let c = word_cell base r.to r.to [] (pushes r) y k in
          let s = next_small base r.to y (base + pushed (r ∷ rs)) (omega arith) (omega arith) in
          let e : (get_or (ws ++ row_cells more rs) y (plain 0)).next ≡ next_of base r.to y = ap (λ (x : Cell). x.next) f ∙ sym c.next_is in
          omega (arith, e, s)
      | inr k ↦
          let f : get_or (ws ++ row_cells more rs) y (plain 0) ≡ get_or (row_cells more rs) (y - length (pushes r)) (plain 0) =
          get_or-append_right ws (row_cells more rs) (length (pushes r)) y (plain 0) l k in
          let s = rows_next rs more (λ q m. let u = h q (Memᴰ.tail m) in omega arith) (y - length (pushes r)) (omega arith) in
          let e = ap (λ (x : Cell). x.next) f in
          omega (arith, e, s)
    ]

-- All rows of the machine were drawn, behind its states, and these are n nodes.
pub record Laid (m : Lists) (low n : ℕ) (labels nexts firsts : List ℕ) : Type 0 where
  pub fits : Fits m low
  pub rows : DrewRows m low labels nexts firsts (length m.rows) n
  pub size : n ≡ width_of m + pushed m.rows

pub laid : (m : Lists) (low n : ℕ) (labels nexts firsts : List ℕ) → low ≡ width_of m → DrewRows m low labels nexts firsts (length m.rows) n → Laid m low n labels nexts firsts
laid m low n labels nexts firsts w d =
    let s = size m low n labels nexts firsts d in
    record { fits = subst (λ k. Fits m k) (sym w) (fits m); rows = d; size = omega arith }

module _ (m : Lists) (low n : ℕ) (labels nexts firsts : List ℕ) (l : Laid m low n labels nexts firsts) where
  abbrev d : DrewRows m low labels nexts firsts (length m.rows) n
  d = l.rows

  pub shaped : length labels ≡ n → length nexts ≡ n → Shaped n low labels nexts
  shaped ll ln =
      let s = size m low n labels nexts firsts d in
      record {
        labels_long = ll;
        nexts_long = ln;
        low_in = omega arith;
        next_in = λ x lo hi.
            let c = inner_cell m low n labels nexts firsts d x lo hi in
            let k = rows_next m.rows low l.fits.to (x - low) (omega arith) in
            let f = cell_past m low x lo in
            let e = c.next_is ∙ ap (λ (x : Cell). x.next) f in
            omega (arith, e, k);
      }

  pub fit : length m.rows ≤ length firsts → Fit m n firsts
  fit long =
      let s = size m low n labels nexts firsts d in
      record {
        long = long;
        from = λ i lt. let k = l.fits.from (row_at m i) (member m.rows i (row_at m i) (row_stands m.rows i lt)) in omega arith;
        first = λ i lt.
            let k = l.fits.to (row_at m i) (member m.rows i (row_at m i) (row_stands m.rows i lt)) in
            let t = next_small (base_of m low i) (row_at m i).to (length (pushes (row_at m i))) n (omega arith) (omega (arith, reach_in m low i lt)) in
            omega (arith, d.first i lt, t);
        starts = λ i lt. omega (arith, l.fits.starts (get_or m.starts i 0) (mem_at m.starts i lt));
        accepts = λ i lt. omega (arith, l.fits.accepts (get_or m.accepts i 0) (mem_at m.accepts i lt));
      }
