use Rattle.marking.specs.Relations.{Gains}
use Rattle.marking.specs.Reach.{BeforeOne}
use Rattle.marking.proofs.graph.Joined.add_accepts.Given as goal

abbrev pub invariant-loop-i : goal.invariant-loop-i
invariant-loop-i g l = Gains l.initial.set l.set (BeforeOne l.self.edges.cells.now l.self.edges.nodes.size (g.M.Machine.lists l.self.machine.now).accepts l.i)
