use Rattle.std.proofs.Common.{arith}
use Rattle.machine.specs.Rows.{symbols_of}
use Rattle.marking.proofs.Judged.{found}
use Rattle.marking.proofs.step.Step.judge.Goals as goal

pub returns : goal.returns
returns c = λ g d.
    let s = c.args.self in
    let sources = rw c.requires.found.0 at c.sources.ensures in
    found g s.edges.nodes.size s.edges.cells.now (symbols_of s.popped) s.from c.readers-readers.result.now (c.readers-readers.ensures.reads g d)
    c.args.good.now.cells.now c.sources.result.now s.first sources c.args.ahead.now (omega arith) c.share-useful.result c.share.result c.mark.result c.share-useful.ensures c.share.ensures c.mark.ensures
