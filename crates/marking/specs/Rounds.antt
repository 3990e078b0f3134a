-- What rounds over the rows make of the edges.
use Rattle.std.specs.Prelude.{◌≡◌, ℕ, ◌<◌, ◌≤◌, Bool, true, false, ◌⊎◌, List, length, slice_index}
use Rattle.machine.specs.Rows.{pops}
use Rattle.machine.specs.Lists.{Lists}
use Rattle.machine.specs.Runs.{Reach}
use Rattle.theory.specs.Graph.{Graph, Lawful, Good}
use Rattle.marking.specs.Relations.{Member, Holds, Preorder, zeros}
use Rattle.marking.specs.declared.nodes.Nodes.{Nodes}
use Rattle.marking.specs.declared.edges.Edges.{Edges}
use Rattle.marking.specs.Nodes.{Drawn, Level, Joins}
use Rattle.marking.specs.Ways.{OnWay}
use Rattle.marking.specs.Marks.{row_at}

-- The machine itself leads from what x stands for to what y stands for.
abbrev pub Own : (m : Lists) (g : Graph) → Lawful m g → ℕ → ℕ → Type 0
Own m g l x y = Reach m (l.st x) (l.tail x) (l.st y) (l.tail y)

-- The words draw a lawful graph of the machine, and firsts has the first node of each row.
pub record Draws (m : Lists) (nodes : Nodes) (firsts : List ℕ) (g : Graph) : Type 0 where
  pub drawn : Drawn g nodes
  pub lawful : Lawful m g
  pub first : (i : ℕ) → i < length m.rows → slice_index firsts i ≡ g.first i

-- Each row before k that can be applied has been.
abbrev pub Obeyed : (m : Lists) (n : ℕ) (firsts : List ℕ) → Graph → List ℕ → ℕ → Type 0
Obeyed m n firsts g cells k =
    (i z : ℕ) → i < k → Level g (Holds cells n) (pops (row_at m i)) (row_at m i).from (length (pops (row_at m i))) z → Holds cells n z (slice_index firsts i)

-- b is made from a by the rows before k.
pub record Round (m : Lists) (nodes : Nodes) (firsts : List ℕ) (a b : List ℕ) (changed : Bool) (k : ℕ) : Type 0 where
  pub order : Preorder b nodes.size
  pub grows : (u v : ℕ) → Holds a nodes.size u v → Holds b nodes.size u v
  pub same : changed ≡ false → b ≡ a
  pub fewer : changed ≡ true → zeros b < zeros a
  pub sound : (g : Graph) (d : Draws m nodes firsts g) → ((u v : ℕ) → Holds a nodes.size u v → Own m g d.lawful u v) → (u v : ℕ) → Holds b nodes.size u v → Own m g d.lawful u v
  pub obeyed : changed ≡ false → (g : Graph) → Drawn g nodes → Obeyed m nodes.size firsts g b k

-- b is made from a by rounds until nothing changes.
pub record Saturated (m : Lists) (nodes : Nodes) (firsts : List ℕ) (a b : List ℕ) : Type 0 where
  pub order : Preorder b nodes.size
  pub grows : (u v : ℕ) → Holds a nodes.size u v → Holds b nodes.size u v
  pub sound : (g : Graph) (d : Draws m nodes firsts g) → ((u v : ℕ) → Holds a nodes.size u v → Own m g d.lawful u v) → (u v : ℕ) → Holds b nodes.size u v → Own m g d.lawful u v
  pub obeyed : (g : Graph) → Drawn g nodes → Obeyed m nodes.size firsts g b (length m.rows)

-- The edges of ways by the row at a place are good already.
abbrev pub RowWalked : (m : Lists) (edges : Edges) (firsts : List ℕ) → Graph → List ℕ → ℕ → Type 0
RowWalked m edges firsts g good i =
    (u v : ℕ) → OnWay g (Joins edges) (Holds good edges.nodes.size) (pops (row_at m i)) (row_at m i).from (slice_index firsts i) u v → Holds good edges.nodes.size u v

-- So they are of each row whose first node is not in the set.
abbrev pub Pending : (m : Lists) (edges : Edges) (firsts : List ℕ) → Graph → List ℕ → List ℕ → Type 0
Pending m edges firsts g good set = (i : ℕ) → i < length m.rows → Member set (slice_index firsts i) ⊎ RowWalked m edges firsts g good i

-- Over sound edges, each pair of a is a good edge; then each of b is.
abbrev pub KeepsGood : (m : Lists) (edges : Edges) (firsts a b : List ℕ) → Type 0
KeepsGood m edges firsts a b =
    (g : Graph) (d : Draws m edges.nodes firsts g) → ((u v : ℕ) → Joins edges u v → Own m g d.lawful u v)
    → ((u v : ℕ) → Holds a edges.nodes.size u v → Good m g d.lawful (Joins edges) u v) → (u v : ℕ) → Holds b edges.nodes.size u v → Good m g d.lawful (Joins edges) u v

-- The good edges b are made from a by the rows before k. Of these, and of the rows from k on that are not pending, each is walked unless its first node is touched.
pub record BackRound (m : Lists) (edges : Edges) (firsts pending a b old touched : List ℕ) (changed : Bool) (k : ℕ) : Type 0 where
  pub grows : (u v : ℕ) → Holds a edges.nodes.size u v → Holds b edges.nodes.size u v
  pub same : changed ≡ false → b ≡ a
  pub fewer : changed ≡ true → zeros b < zeros a
  pub quiet : changed ≡ false → touched ≡ old
  pub sound : KeepsGood m edges firsts a b
  pub done : (g : Graph) → Drawn g edges.nodes → (i : ℕ) → i < k → Member touched (slice_index firsts i) ⊎ RowWalked m edges firsts g b i
  pub left : (g : Graph) → Drawn g edges.nodes → (i : ℕ) → k ≤ i → i < length m.rows → Member pending (slice_index firsts i) ⊎ (Member touched (slice_index firsts i) ⊎ RowWalked m edges firsts g b i)

-- The good edges b are made from a by rounds until nothing changes.
pub record BackSaturated (m : Lists) (edges : Edges) (firsts a b : List ℕ) : Type 0 where
  pub grows : (u v : ℕ) → Holds a edges.nodes.size u v → Holds b edges.nodes.size u v
  pub sound : KeepsGood m edges firsts a b
  pub walked : (g : Graph) → Drawn g edges.nodes → (i : ℕ) → i < length m.rows → RowWalked m edges firsts g b i

-- The edges from a node of one set to a node of another.
pub record Between (cells : List ℕ) (n : ℕ) (ahead behind : List ℕ) (u v : ℕ) : Type 0 where
  pub edge : Holds cells n u v
  pub source : Member ahead u
  pub target : Member behind v

pub record Based (cells good : List ℕ) (n : ℕ) (ahead behind : List ℕ) : Type 0 where
  pub only : (u v : ℕ) → Holds good n u v → Between cells n ahead behind u v
  pub each : (u v : ℕ) → Between cells n ahead behind u v → Holds good n u v
