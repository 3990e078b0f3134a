-- A row as a step over the edges: the levels and the ways of the word that it pops, and its mark.
use Rattle.std.specs.Prelude.{ℕ, List}
use Rattle.machine.specs.Rows.{symbols_of}
use Rattle.theory.specs.Graph.{Graph}
use Rattle.marking.specs.declared.step.Step.{Step}
use Rattle.marking.specs.Relations.{Holds}
use Rattle.marking.specs.Nodes.{Joins, Filled, Readers}
use Rattle.marking.specs.Ways.{OnWay, Walked}
use Rattle.marking.specs.Solving.{Found}

-- The lines have the levels of the word.
abbrev pub HasLevels : Graph → Step → List ℕ → Type 0
HasLevels g step levels = Filled g (Joins step.edges) (symbols_of step.popped) step.from step.edges.nodes.size levels step.popped.len

-- The set has the nodes from which the whole word can be read.
abbrev pub HasReaders : Graph → Step → List ℕ → Type 0
HasReaders g step set = Readers g (Joins step.edges) (symbols_of step.popped) step.from step.edges.nodes.size set

-- The lines have its ways, from the nodes that stand before the first one of what the row pushes in `good`.
abbrev pub HasWays : Graph → Step → List ℕ → List ℕ → Type 0
HasWays g step good ways = Walked g (Joins step.edges) (Holds good step.edges.nodes.size) (symbols_of step.popped) step.from step.first step.edges.nodes.size ways 0

-- The edge from u to v lies on one of these ways.
abbrev pub OnStep : Graph → Step → List ℕ → ℕ → ℕ → Type 0
OnStep g step good u v = OnWay g (Joins step.edges) (Holds good step.edges.nodes.size) (symbols_of step.popped) step.from step.first u v

-- The mark k of the row, by the good edges and the nodes ahead of the starts.
abbrev pub HasMark : Graph → Step → (good ahead : List ℕ) → ℕ → Type 0
HasMark g step good ahead k = Found g step.edges.nodes.size step.edges.cells.now good ahead (symbols_of step.popped) step.from step.first k
