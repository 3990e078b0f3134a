use Rattle.std.proofs.Common.{◌∙◌}
use Rattle.marking.proofs.Rounding.{reached_more, saturated}
use Rattle.marking.proofs.graph.Drawing.saturate.Goals as goal

pub loop-preserved : goal.loop-preserved
loop-preserved g c =
    let i = c.loop.invariant in
    let d = c.round.ensures in
    record { size = d.size ∙ i.size; reached = reached_more _ _ _ _ _ _ _ _ i.reached d.round }

pub returns : goal.returns
returns g c =
    let i = c.loop.invariant in
    let d = c.round.ensures in
    record { size = d.size ∙ i.size; saturated = saturated _ _ _ _ _ (reached_more _ _ _ _ _ _ _ _ i.reached d.round) (d.round.obeyed c.loop-test.false) }
