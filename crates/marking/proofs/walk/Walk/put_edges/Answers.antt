use Rattle.std.proofs.Common.{◌≡◌, refl, sym, ◌∙◌, subst, arith}
use Rattle.std.proofs.lemmas.Bool.{false≢true}
use Rattle.marking.specs.Relations.{Steps}
use Rattle.marking.specs.Ways.{Leaves}
use Rattle.marking.proofs.Lines.{touches_then}
use Rattle.marking.proofs.Leaving.{leaves_more, leaves_skip}
use Rattle.marking.proofs.walk.Walk.put_edges.Goals as goal
use Rattle.marking.proofs.walk.Walk.put_edges.Goals.{then-goes_on, else-goes_on}

pub loop-x-preserved : goal.loop-x-preserved
loop-x-preserved c =
    let few = c.args.self.step.few in
    let l = c.loop-x.invariant in
    elim c.if-goes_on.branch [
      | then-goes_on w ↦
          let d = w.absorb_both-changed.ensures in
          simp (w.good-is, w.changed-is) (record {
            size = d.size ∙ l.size;
            steps = leaves_more _ _ _ _ _ _ _ _ _ l.steps _ _ _ _ w.sources.ensures w.passed.ensures (rw l.size at d.steps) (omega arith) (w.if-goes_on.ensures.0 refl);
            touches = touches_then l.touches (rw l.size at d.touches);
          })
      | else-goes_on w ↦
          simp (w.good-is, w.changed-is) (record {
            size = l.size;
            steps = leaves_skip _ _ _ _ _ _ _ _ _ l.steps (λ o. false≢true (w.if-goes_on.ensures.1 o));
            touches = l.touches;
          })
    ]

pub returns : goal.returns
returns c =
    let l = c.args.self.step.edges.nodes.shaped.low_in in
    let s = c.args.self.step in
    let i = c.loop-x.invariant in
    let e : c.loop-x.x ≡ s.edges.nodes.size = omega arith in
    record {
      size = i.size ∙ sym c.requires.size;
      steps =
          subst (λ a. Steps c.args.good.now.cells.now c.loop-x.good.cells.now s.edges.nodes.size (Leaves s.edges a c.args.self.levels.now c.args.self.ways.now c.args.j s.edges.nodes.size) c.loop-x.changed) c.from-label.ensures
          (subst (λ h. Steps c.args.good.now.cells.now c.loop-x.good.cells.now s.edges.nodes.size (Leaves s.edges c.from-label.result c.args.self.levels.now c.args.self.ways.now c.args.j h) c.loop-x.changed) e i.steps);
      touches = i.touches;
    }
