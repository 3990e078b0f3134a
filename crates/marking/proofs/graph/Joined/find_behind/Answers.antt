use Rattle.marking.proofs.Reaching.{accepts_down, risen_none, risen_more, is_behind}
use Rattle.marking.proofs.graph.Joined.find_behind.Goals as goal

pub loop-init : goal.loop-init
loop-init g c = risen_none _ _ (accepts_down _ _ _ _ _ _ c.args.self.now.edges.order c.clear.ensures c.add_accepts.ensures)

pub loop-preserved : goal.loop-preserved
loop-preserved g c = risen_more _ _ _ _ _ _ c.loop.invariant c.rise.ensures

pub returns : goal.returns
returns g c =
    let d = c.rise.ensures in
    let e = c.loop-test.false in
    is_behind _ _ c.clear.new.words c.add_accepts.new.set c.rise.new.set c.args.self.now.fit.accepts c.clear.ensures c.add_accepts.ensures (risen_more _ _ _ _ _ _ c.loop.invariant d) (d.closed e)
