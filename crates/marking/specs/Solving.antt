-- What the relations and sets of a machine's graph decide, once they are complete.
use Rattle.std.specs.Prelude.{◌≡◌, ℕ, ◌<◌, ◌⊎◌, ◌↔◌, List, length, slice_index}
use mathlib.Core.List.{Memᴰ}
use Rattle.machine.specs.Rows.{pops}
use Rattle.machine.specs.Lists.{Lists}
use Rattle.machine.specs.Runs.{Reachable, UsefulRow, UsefulStart, UsefulAccept}
use Rattle.theory.specs.Graph.{Graph}
use Rattle.marking.specs.declared.edges.Edges.{Edges}
use Rattle.marking.specs.Relations.{Member, Holds}
use Rattle.marking.specs.Nodes.{Level}
use Rattle.marking.specs.Marks.{row_at}

-- A node from which the word can be read down to q, by a good edge to the node first.
abbrev pub Leads : Graph → (n : ℕ) (cells good word : List ℕ) → ℕ → ℕ → Type 0
Leads g n cells good word q first = (x : ℕ) × Level g (Holds cells n) word q (length word) x × Holds good n x first

-- A node ahead of the starts from which the word can be read down to q.
abbrev pub Applies : Graph → (n : ℕ) (cells ahead word : List ℕ) → ℕ → Type 0
Applies g n cells ahead word q = (x : ℕ) × Level g (Holds cells n) word q (length word) x × Member ahead x

pub record Solved (m : Lists) (g : Graph) (n : ℕ) (firsts cells good ahead behind : List ℕ) : Type 0 where
  pub useful : (i : ℕ) → i < length m.rows → UsefulRow m (row_at m i) ↔ Leads g n cells good (pops (row_at m i)) (row_at m i).from (slice_index firsts i)
  pub reachable : (i : ℕ) → i < length m.rows → Reachable m (row_at m i) ↔ Applies g n cells ahead (pops (row_at m i)) (row_at m i).from
  pub start : (s : ℕ) → UsefulStart m s ↔ (Memᴰ s m.starts × Member behind s)
  pub accept : (f : ℕ) → UsefulAccept m f ↔ (Memᴰ f m.accepts × Member ahead f)

-- The mark k of a row that pops the word, by what was solved.
abbrev pub Found : Graph → (n : ℕ) (cells good ahead word : List ℕ) → ℕ → ℕ → ℕ → Type 0
Found g n cells good ahead word q first k =
    ((k ≡ 2) × Leads g n cells good word q first)
    ⊎ (((k ≡ 1) × (Leads g n cells good word q first → ⊥) × Applies g n cells ahead word q)
    ⊎ ((k ≡ 0) × (Leads g n cells good word q first → ⊥) × (Applies g n cells ahead word q → ⊥)))

-- The first k marks are those of the first k rows.
abbrev pub FoundAll : (m : Lists) (g : Graph) (edges : Edges) (firsts good ahead marks : List ℕ) (k : ℕ) → Type 0
FoundAll m g edges firsts good ahead marks k =
    (i : ℕ) → i < k → Found g edges.nodes.size edges.cells.now good ahead (pops (row_at m i)) (row_at m i).from (slice_index firsts i) (slice_index marks i)
