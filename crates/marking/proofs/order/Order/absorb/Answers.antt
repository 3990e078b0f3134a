use Rattle.std.proofs.Common.{arith}
use Rattle.marking.proofs.Lines.{fewer_onto}
use Rattle.marking.proofs.order.Order.absorb.Goals as goal

pub returns-clause-fewer : goal.returns-clause-fewer
returns-clause-fewer c = λ _.
    let square = c.args.self.now.square in
    fewer_onto _ _ _ _ _ c.args.self.now.order c.spread.ensures (omega arith) (omega arith) (omega arith) (omega arith) c.if-has_all.ensures
