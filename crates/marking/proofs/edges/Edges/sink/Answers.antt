use Rattle.std.proofs.Common.{get_or, ap, subst, arith}
use Rattle.marking.specs.Relations.{Gains, Holds}
use Rattle.marking.proofs.Sinking.{sinks_none, sinks_more, sinks_skip}
use Rattle.marking.proofs.edges.Edges.sink.Goals as goal
use Rattle.marking.proofs.edges.Edges.sink.Goals.{then-set-x-ne0+then-set-next-eq0, else-set-x-ne0, else-set-x-ne0-via-then-set-x-ne0+else-set-next-eq0, else-set-x-ne0-via-else-set-x-ne0}

pub loop-x-init : goal.loop-x-init
loop-x-init c = sinks_none _ _ _ (omega arith) c.requires.up

pub loop-x-preserved : goal.loop-x-preserved
loop-x-preserved c =
    let f = c.next-next.ensures.next in
    let e = ap (λ k. get_or c.loop-x.set k 0) f in
    elim c.if-set-x-ne0.branch [
      | then-set-x-ne0+then-set-next-eq0 w ↦
          let s = subst (λ y. Gains c.loop-x.set w.add_targets.new.set (λ z. Holds c.args.self.cells.now c.args.self.nodes.size y z)) f w.add_targets.ensures in
          simp (w.set-is, w.changed-is) (sinks_more _ _ _ _ _ c.loop-x.invariant w.add_targets.new.set s (omega arith) (omega arith) (omega arith) (omega (arith, c.next-next.ensures.within, f)) (omega arith) (omega (arith, e)))
      | else-set-x-ne0 w ↦ simp (w.set-is, w.changed-is) (sinks_skip _ _ _ _ _ c.loop-x.invariant (λ m. elim w.else-set-x-ne0.branch [
        | else-set-x-ne0-via-then-set-x-ne0+else-set-next-eq0 v ↦ omega (arith, e)
        | else-set-x-ne0-via-else-set-x-ne0 v ↦ omega (arith, e)
      ]))
    ]
