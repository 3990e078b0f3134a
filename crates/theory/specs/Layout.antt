-- A graph of a machine: the states first, then a node for each symbol that a row pushes.
use Rattle.std.specs.Prelude.{Bool, true, false, ℕ, zero, suc, ◌+◌, ◌<◌, length, get_or}
use mathlib.Core.List.{List, [], ◌∷◌, ◌++◌, Memᴰ}
use Rattle.machine.specs.declared.row.Row.{Row}
use Rattle.machine.specs.Rows.{pushes}
use Rattle.machine.specs.Lists.{Lists}
use Rattle.theory.specs.Graph.{Graph}

pub record Cell : Type 0 where
  pub inner : Bool
  pub label : ℕ
  pub next : ℕ
  pub st : ℕ
  pub tail : List ℕ

abbrev pub plain : ℕ → Cell
plain q = record { inner = false; label = 0; next = 0; st = q; tail = [] }

-- k states from b on
abbrev pub states : ℕ → ℕ → List Cell
states b zero = []
states b (suc k) = plain b ∷ states (suc b) k

-- the nodes from base on of what is left of a pushed word, above the node prev, which has the part taken
abbrev pub word_cells : ℕ → ℕ → ℕ → List ℕ → List ℕ → List Cell
word_cells base prev to taken [] = []
word_cells base prev to taken (a ∷ bs) =
    record { inner = true; label = a; next = prev; st = to; tail = taken ++ (a ∷ []) } ∷ word_cells (suc base) base to (taken ++ (a ∷ [])) bs

abbrev pub row_cells : ℕ → List Row → List Cell
row_cells base [] = []
row_cells base (r ∷ rs) = word_cells base r.to r.to [] (pushes r) ++ row_cells (base + length (pushes r)) rs

abbrev pub top : ℕ → ℕ → List ℕ → ℕ
top base prev [] = prev
top base prev (a ∷ bs) = top (suc base) base bs

abbrev pub firsts : ℕ → List Row → ℕ → ℕ
firsts base [] i = 0
firsts base (r ∷ rs) zero = top base r.to (pushes r)
firsts base (r ∷ rs) (suc i) = firsts (base + length (pushes r)) rs i

abbrev pub cells : ℕ → List Row → List Cell
cells width rows = states 0 width ++ row_cells width rows

abbrev pub cell_at : ℕ → List Row → ℕ → Cell
cell_at width rows x = get_or (cells width rows) x (plain 0)

abbrev pub graph_of : ℕ → List Row → Graph
graph_of width rows =
    record {
      width = width;
      inner = λ x. (cell_at width rows x).inner;
      label = λ x. (cell_at width rows x).label;
      next = λ x. (cell_at width rows x).next;
      first = firsts width rows;
    }

-- Each state of the machine is below width.
pub record Fits (m : Lists) (width : ℕ) : Type 0 where
  pub starts : (s : ℕ) → Memᴰ s m.starts → s < width
  pub accepts : (f : ℕ) → Memᴰ f m.accepts → f < width
  pub from : (r : Row) → Memᴰ r m.rows → r.from < width
  pub to : (r : Row) → Memᴰ r m.rows → r.to < width
