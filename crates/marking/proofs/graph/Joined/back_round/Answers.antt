use Rattle.std.proofs.Common.{◌≡◌, ℕ, ◌<◌, length, get_or, ap, ◌∙◌, arith}
use Rattle.machine.specs.Rows.{symbols_of}
use Rattle.theory.specs.Graph.{Graph}
use Rattle.marking.specs.Relations.{Holds, Steps, Touches}
use Rattle.marking.specs.Nodes.{Drawn, Joins}
use Rattle.marking.specs.Ways.{OnWay}
use Rattle.marking.proofs.Goodness.{back_skip, back_more}
use Rattle.marking.proofs.Stepping.{as_row}
use Rattle.marking.proofs.graph.Joined.back_round.Goals as goal
use Rattle.marking.proofs.graph.Joined.back_round.Goals.{then-max-ne0, else-max-ne0}

pub loop-i-preserved : goal.loop-i-preserved
loop-i-preserved g c =
    let m = g.M.Machine.lists c.args.self.now.machine.now in
    let h : c.loop-i.i < length m.rows = omega (arith, c.row_count-i-end.ensures) in
    let l = c.loop-i.invariant in
    elim c.if-max-ne0.branch [
      | then-max-ne0 w ↦
          let s = w.step.ensures in
          let row = as_row m _ _ c.loop-i.i w.step.result s.edges s.popped s.from s.first in
          let b = c.loop-i.good.cells.now in
          let d = w.go_back-changed.new.good.cells.now in
          let r = w.go_back-changed.result in
          simp (w.good-is, w.work-is, w.changed-is) (record {
            size = w.go_back-changed.ensures.size ∙ l.size;
            pending = l.pending;
            round = back_more m _ _ _ _ _ _ _ _ c.loop-i.i h l.round d w.go_back-changed.new.good.touched.now r
                (row (λ e p q f. (x : Graph) → Drawn x e.nodes → Steps b d e.nodes.size (OnWay x (Joins e) (Holds b e.nodes.size) (symbols_of p) q f) r) w.go_back-changed.ensures.steps)
                (row (λ e _ _ _. Touches b d e.nodes.size c.loop-i.good.touched.now w.go_back-changed.new.good.touched.now r) w.go_back-changed.ensures.touches);
          })
      | else-max-ne0 w ↦
          let s = c.first-first.ensures.first in
          let f : ℕ = get_or c.args.self.now.firsts.now c.loop-i.i 0 in
          let p = ap (λ k. get_or c.loop-i.work.pending.now k 0) s in
          let q = ap (λ k. get_or k f 0) l.pending in
          let t = ap (λ k. get_or c.loop-i.good.touched.now k 0) s in
          simp (w.good-is, w.work-is, w.changed-is) (record {
            size = l.size;
            pending = l.pending;
            round = back_skip m _ _ _ _ _ _ _ _ c.loop-i.i h l.round (λ z. omega (arith, c.max.ensures, p, q)) (λ z. omega (arith, c.max.ensures, t));
          })
    ]

pub returns : goal.returns
returns g c =
    let m = g.M.Machine.lists c.args.self.now.machine.now in
    let e : c.loop-i.i ≡ length m.rows = omega (arith, c.row_count-i-end.ensures) in
    let round = c.loop-i.invariant.round in
    record { size = c.loop-i.invariant.size; pending = c.loop-i.invariant.pending; round = rw e at round }
