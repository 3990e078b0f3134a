use Rattle.theory.specs.Graph.{Graph}
use Rattle.marking.specs.Nodes.{Drawn}
use Rattle.marking.specs.Solving.{FoundAll}
use Rattle.marking.proofs.graph.Joined.judge_rows.Given as goal

abbrev pub invariant-loop-i : goal.invariant-loop-i
invariant-loop-i g l =
    (w : Graph) → Drawn w l.self.edges.nodes
    → FoundAll (g.M.Machine.lists l.self.machine.now) w l.self.edges l.self.firsts.now l.good.cells.now l.ahead l.mark-items l.i
