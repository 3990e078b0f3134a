use Rattle.std.proofs.Common.{refl, arith}
use Rattle.std.proofs.lemmas.Bool.{false≢true}
use Rattle.marking.proofs.Leading.{leads_more, leads_skip}
use Rattle.marking.proofs.edges.Edges.next_level.Goals as goal
use Rattle.marking.proofs.edges.Edges.next_level.Goals.{then-goes_on, else-goes_on}

pub loop-x-preserved : goal.loop-x-preserved
loop-x-preserved c =
    elim c.if-goes_on.branch [
      | then-goes_on w ↦ simp w.levels-is (leads_more _ _ _ _ _ _ c.loop-x.invariant w.add_line.new.levels w.add_line.ensures (omega arith) (w.if-goes_on.ensures.0 refl))
      | else-goes_on w ↦ simp w.levels-is (leads_skip _ _ _ _ _ _ c.loop-x.invariant (λ o. false≢true (w.if-goes_on.ensures.1 o)))
    ]
