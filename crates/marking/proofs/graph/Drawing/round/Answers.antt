use Rattle.std.proofs.Common.{◌≡◌, ◌<◌, length, sym, ◌∙◌, subst, arith}
use Rattle.marking.specs.Rounds.{Round}
use Rattle.marking.proofs.Rounding.{round_more}
use Rattle.marking.proofs.graph.Drawing.round.Goals as goal

pub loop-i-preserved : goal.loop-i-preserved
loop-i-preserved g c =
    let m = g.M.Machine.lists c.args.self.now.machine.now in
    let h : c.loop-i.i < length m.rows = omega (arith, c.row_count-i-end.ensures) in
    let i = c.loop-i.invariant in
    let d = c.apply_row-changed.ensures in
    let new = c.apply_row-changed.new.order in
    let size : new.size ≡ c.args.self.now.nodes.size = d.size ∙ i.size in
    record {
      size = size;
      round = round_more m _ _ _ _ _ _ _ c.loop-i.i h (c.args.self.now.fit.first c.loop-i.i h) i.round d.adds (rw size at new.order) d.same d.fewer;
    }

pub returns : goal.returns
returns g c =
    let m = g.M.Machine.lists c.args.self.now.machine.now in
    let e : c.loop-i.i ≡ length m.rows = omega (arith, c.row_count-i-end.ensures) in
    let i = c.loop-i.invariant in
    record {
      size = i.size ∙ sym c.requires.0;
      round = subst (λ k. Round m c.args.self.now.nodes c.args.self.now.firsts.now c.args.order.now.cells.now c.loop-i.order.cells.now c.loop-i.changed k) e i.round;
    }
