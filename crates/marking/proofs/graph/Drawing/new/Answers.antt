use Rattle.std.proofs.Common.{arith}
use Rattle.marking.proofs.Drafts.{draws}
use Rattle.marking.proofs.Layouts.{laid, shaped, fit}
use Rattle.marking.proofs.Sizes.{width_small, pushed_small}
use Rattle.marking.proofs.graph.Drawing.new.Goals as goal

pub draw_rows-size-requires : goal.draw_rows-size-requires
draw_rows-size-requires g c =
    let m = g.M.Machine.lists c.args.machine.now in
    let limits = g.met.M.Machine.limits c.args.machine.now in
    let few = g.met.M.Machine.few c.args.machine.now in
    let w = width_small m limits in
    let p = pushed_small m.rows limits.rows in
    record {
      labels_room = omega (arith, c.width-low.ensures);
      nexts_room = omega (arith, c.width-low.ensures);
      firsts_room = omega arith;
      few = omega (arith, c.width-low.ensures, few.rows);
    }

pub invariant_of-nodes : goal.invariant_of-nodes
invariant_of-nodes g c =
    let l = laid (g.M.Machine.lists c.args.machine.now) _ _ _ _ _ c.width-low.ensures c.draw_rows-size.ensures in
    record { shaped = shaped _ _ _ _ _ _ l (omega (arith, l.size)) (omega (arith, l.size)) }

pub invariant_of-result : goal.invariant_of-result
invariant_of-result g c =
    let l = laid (g.M.Machine.lists c.args.machine.now) _ _ _ _ _ c.width-low.ensures c.draw_rows-size.ensures in
    record { fit = fit _ _ _ _ _ _ l (omega arith) }

pub returns-clause-drawn : goal.returns-clause-drawn
returns-clause-drawn g c =
    let l = laid (g.M.Machine.lists c.args.machine.now) _ _ _ _ _ c.width-low.ensures c.draw_rows-size.ensures in
    draws (g.M.Machine.lists c.args.machine.now) _ _ l.rows l.fits
