use Rattle.machine.specs.Rows.{symbols_of}
use Rattle.theory.specs.Graph.{Graph}
use Rattle.marking.specs.Relations.{Holds}
use Rattle.marking.specs.Nodes.{Drawn, Joins, Filled}
use Rattle.marking.specs.Ways.{Walked}
use Rattle.marking.proofs.step.Step.fill_ways.Given as goal

abbrev pub invariant-loop-j : goal.invariant-loop-j
invariant-loop-j l =
    (g : Graph) → Drawn g l.self.edges.nodes
    → Filled g (Joins l.self.edges) (symbols_of l.self.popped) l.self.from l.self.edges.nodes.size l.levels l.self.popped.len
    → Walked g (Joins l.self.edges) (Holds l.good.cells.now l.self.edges.nodes.size) (symbols_of l.self.popped) l.self.from l.self.first l.self.edges.nodes.size l.ways l.j
