use Rattle.std.proofs.Common.{refl, arith}
use Rattle.std.proofs.lemmas.Bool.{false≢true}
use Rattle.marking.proofs.Walking.{comes_more, comes_skip}
use Rattle.marking.proofs.edges.Edges.next_ways.Goals as goal
use Rattle.marking.proofs.edges.Edges.next_ways.Goals.{then-goes_on+then-share, else-goes_on, else-goes_on-via-then-goes_on+else-share, else-goes_on-via-else-goes_on}

pub loop-x-preserved : goal.loop-x-preserved
loop-x-preserved c =
    elim c.if-goes_on.branch [
      | then-goes_on+then-share w ↦
          let (z, a, b) = w.if-share.ensures.0 refl in
          let l = w.sources.ensures in
          let m = w.line.ensures.1 11 (omega arith) (omega arith) in
          simp w.ways-is (comes_more _ _ _ _ _ _ _ c.loop-x.invariant w.add.new.words w.next.result w.next.ensures.next (w.add.ensures 11 (omega arith) (omega arith)) (omega arith) (w.if-goes_on.ensures.0 refl) z (l.on z a) (m.on z b))
      | else-goes_on w ↦ simp w.ways-is (comes_skip _ _ _ _ _ _ _ c.loop-x.invariant (λ o s h k. elim w.else-goes_on.branch [
        | else-goes_on-via-then-goes_on+else-share v ↦
            let l = v.sources.ensures in
            let m = v.line.ensures.1 11 (omega arith) (omega arith) in
            false≢true (v.if-share.ensures.1 (s, l.off s h, m.off s k))
        | else-goes_on-via-else-goes_on v ↦ false≢true (v.if-goes_on.ensures.1 o)
      ]))
    ]
