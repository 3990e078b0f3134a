use Rattle.std.proofs.Common.{arith}
use Rattle.machine.specs.Rows.{symbols_of}
use Rattle.marking.specs.Nodes.{Joins}
use Rattle.marking.proofs.Filling.{readers}
use Rattle.marking.proofs.step.Step.readers.Goals as goal

pub returns-clause-reads : goal.returns-clause-reads
returns-clause-reads c = λ g d.
    let s = c.args.self in
    let few = s.few in
    readers g (Joins s.edges) (symbols_of s.popped) s.from s.edges.nodes.size c.fill_levels.new.levels c.line.result.now s.popped.len s.long (c.fill_levels.ensures g d)
    (rw c.from.ensures at (c.line.ensures.1 11 (omega (arith, c.from.ensures)) (omega arith)))
