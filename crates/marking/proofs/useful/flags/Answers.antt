use Rattle.std.proofs.Common.{refl, ◌∙◌, arith}
use Rattle.marking.proofs.Flagging.{flags_none, flags_more, flags_skip, flags_all}
use Rattle.marking.proofs.useful.flags.Goals as goal
use Rattle.marking.proofs.useful.flags.Goals.{then-set-state-ne0, else-set-state-ne0}

pub loop-i-init : goal.loop-i-init
loop-i-init g c = λ states at. flags_none _ _ _ refl refl

pub loop-i-preserved : goal.loop-i-preserved
loop-i-preserved g c = λ states at.
    let f = c.loop-i.invariant states at in
    let e = c.from-state.ensures ∙ at _ _ (omega arith) c.state.ensures in
    elim c.if-set-state-ne0.branch [
      | then-set-state-ne0 w ↦ simp w.flags-is (flags_more _ _ _ _ f c.from-state.result e (omega (arith, c.from-state.ensures, c.state.type_inv)) (omega arith))
      | else-set-state-ne0 w ↦ simp w.flags-is (flags_skip _ _ _ _ f c.from-state.result e (λ m. omega arith))
    ]

pub returns : goal.returns
returns g c = λ states long at. flags_all _ _ _ c.loop-i.i (omega arith) (c.loop-i.invariant states at)
