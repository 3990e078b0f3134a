use Rattle.std.proofs.Common.{sym}
use Rattle.texts.proofs.Leaves.{after_spaced}
use Rattle.texts.proofs.Somes.{begun_more, begun_stop}
use Rattle.texts.proofs.states.some_states.Goals as goal

pub loop-state-smaller : goal.loop-state-smaller
loop-state-smaller c = after_spaced _ _ (sym (rw (← c.state.view_is) at c.in-Some.ensures))

pub loop-state-preserved : goal.loop-state-preserved
loop-state-preserved c = begun_more c.loop-state.invariant (sym (rw (← c.state.view_is) at c.in-Some.ensures)) c.in_ok-push.ensures.items

pub returns : goal.returns
returns c = begun_stop c.loop-state.invariant (sym c.in_default.ensures)
