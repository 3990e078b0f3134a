use Rattle.marking.proofs.Sinking.{starts_up, sunk_none, sunk_more, is_ahead}
use Rattle.marking.proofs.graph.Joined.find_ahead.Goals as goal

pub loop-init : goal.loop-init
loop-init g c = sunk_none _ _ (starts_up _ _ _ _ _ _ c.args.self.now.edges.order c.clear.ensures c.add_starts.ensures)

pub loop-preserved : goal.loop-preserved
loop-preserved g c = sunk_more _ _ _ _ _ _ c.loop.invariant c.sink.ensures

pub returns : goal.returns
returns g c =
    let d = c.sink.ensures in
    let e = c.loop-test.false in
    is_ahead _ _ c.clear.new.words c.add_starts.new.set c.sink.new.set c.args.self.now.fit.starts c.clear.ensures c.add_starts.ensures (sunk_more _ _ _ _ _ _ c.loop.invariant d) (d.closed e)
