use Rattle.machine.specs.Rows.{symbols_of}
use Rattle.theory.specs.Graph.{Graph}
use Rattle.marking.specs.Nodes.{Drawn, Joins, Filled}
use Rattle.marking.proofs.Filling.{Blank}
use Rattle.marking.proofs.step.Step.fill_levels.Given as goal

abbrev pub invariant-loop-j : goal.invariant-loop-j
invariant-loop-j l =
    (g : Graph) → Drawn g l.fn.self.edges.nodes
    → Filled g (Joins l.fn.self.edges) (symbols_of l.fn.self.popped) l.fn.self.from l.fn.self.edges.nodes.size l.levels l.j × Blank l.fn.self.edges.nodes.size l.levels l.j l.len
