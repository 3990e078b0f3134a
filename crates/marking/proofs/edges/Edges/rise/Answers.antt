use Rattle.std.proofs.Common.{get_or, ap, arith}
use Rattle.marking.proofs.Reaching.{rises_none, rises_more, rises_skip}
use Rattle.marking.proofs.edges.Edges.rise.Goals as goal
use Rattle.marking.proofs.edges.Edges.rise.Goals.{then-set-next-ne0+then-set-x-eq0, else-set-next-ne0, else-set-next-ne0-via-then-set-next-ne0+else-set-x-eq0, else-set-next-ne0-via-else-set-next-ne0}

pub loop-x-init : goal.loop-x-init
loop-x-init c = rises_none _ _ _ (omega arith) c.requires.down

pub loop-x-preserved : goal.loop-x-preserved
loop-x-preserved c =
    let e = ap (λ k. get_or c.loop-x.set k 0) c.next-next.ensures.next in
    elim c.if-set-next-ne0.branch [
      | then-set-next-ne0+then-set-x-eq0 w ↦ simp (w.set-is, w.changed-is) (rises_more _ _ _ _ _ c.loop-x.invariant w.add_sources.new.set w.add_sources.ensures (omega arith) (omega arith) (omega arith) (omega arith) (omega (arith, e)) (omega arith))
      | else-set-next-ne0 w ↦ simp (w.set-is, w.changed-is) (rises_skip _ _ _ _ _ c.loop-x.invariant (λ m. elim w.else-set-next-ne0.branch [
        | else-set-next-ne0-via-then-set-next-ne0+else-set-x-eq0 v ↦ omega (arith, e)
        | else-set-next-ne0-via-else-set-next-ne0 v ↦ omega (arith, e)
      ]))
    ]
