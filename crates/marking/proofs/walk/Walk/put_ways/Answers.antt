use Rattle.std.proofs.Common.{◌≡◌, refl, sym, ◌∙◌, subst, arith, length-take}
use Rattle.marking.specs.Relations.{Steps}
use Rattle.marking.proofs.Lines.{touches_then}
use Rattle.marking.proofs.Leaving.{LeavesOne, one_more, all_ways}
use Rattle.marking.proofs.walk.Walk.put_ways.Goals as goal

pub loop-j-preserved : goal.loop-j-preserved
loop-j-preserved c =
    let i = c.loop-j.invariant in
    let d = c.put_edges-changed.ensures in
    record {
      size = d.size ∙ i.size;
      steps = one_more _ _ _ _ _ _ _ _ _ _ _ refl i.steps d.steps;
      touches = touches_then i.touches d.touches;
    }

pub returns : goal.returns
returns c =
    let i = c.loop-j.invariant in
    let d = c.absorb_both-changed.ensures in
    record {
      size = d.size ∙ (i.size ∙ sym c.requires);
      steps = λ g p f w.
          let s = c.args.self.step in
          let e : c.loop-j.j ≡ s.popped.len = omega (arith, c.from-j-end.ensures) in
          let full = s.long in
          let h = subst (λ k. Steps c.args.good.now.cells.now c.loop-j.good.cells.now s.edges.nodes.size (LeavesOne s.edges s.popped.symbols c.args.self.levels.now c.args.self.ways.now k) c.loop-j.changed) e i.steps in
          all_ways s.edges _ _ _ g p c.args.good.now.cells.now s.from s.first s.popped.len s.long (omega (arith, length-take s.popped.len s.popped.symbols)) f w _ _ _ _ _ _ _
          c.sources.ensures c.passed.ensures h (rw i.size at d.steps);
      touches = touches_then i.touches (rw i.size at d.touches);
    }
