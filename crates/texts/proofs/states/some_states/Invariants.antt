-- The states so far, with those that are left, are all.
use Rattle.std.proofs.Common.{length, vec_items}
use Rattle.texts.proofs.Somes.{Begun}
use Rattle.texts.proofs.states.some_states.Given as goal

abbrev pub invariant-loop-state : goal.invariant-loop-state
invariant-loop-state l = Begun l.text (vec_items l.states) l.rest

abbrev pub decreases-loop-state : goal.decreases-loop-state
decreases-loop-state l = length l.rest
