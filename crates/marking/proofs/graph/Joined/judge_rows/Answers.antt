use Rattle.std.proofs.Common.{arith}
use Rattle.machine.specs.Rows.{symbols_of}
use Rattle.marking.specs.Nodes.{Drawn}
use Rattle.marking.specs.Solving.{Found}
use Rattle.marking.proofs.Judged.{found_more}
use Rattle.marking.proofs.Stepping.{as_row}
use Rattle.marking.proofs.graph.Joined.judge_rows.Goals as goal

pub loop-i-preserved : goal.loop-i-preserved
loop-i-preserved g c = λ w d.
    let m = g.M.Machine.lists c.args.self.now.machine.now in
    let s = c.step.ensures in
    found_more m w c.args.self.now.edges c.args.self.now.firsts.now c.args.good.now.cells.now c.args.ahead.now c.loop-i.mark-items c.loop-i.i c.judge.result (omega arith) (c.loop-i.invariant w d)
    (as_row m _ _ c.loop-i.i c.step.result s.edges s.popped s.from s.first (λ e p q f. Drawn w e.nodes → Found w e.nodes.size e.cells.now c.args.good.now.cells.now c.args.ahead.now (symbols_of p) q f c.judge.result) (c.judge.ensures w) d)
