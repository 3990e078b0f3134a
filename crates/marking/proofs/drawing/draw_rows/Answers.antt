use Rattle.std.proofs.Common.{◌<◌, length, length-take, refl, arith}
use Rattle.marking.proofs.Pushing.{drew_row, base_in, reach_in, pushed_here, as_row, next_small}
use Rattle.marking.proofs.drawing.draw_rows.Goals as goal

pub draw_word-requires : goal.draw_word-requires
draw_word-requires g c =
    let m = g.M.Machine.lists c.args.m.now in
    let lt : c.loop-i.i < length m.rows = omega (arith, c.row_count-count.ensures, length-take c.row_count-count.result c.args.firsts.now) in
    let w = pushed_here m (g.met.M.Machine.limits c.args.m.now) c.row-row.result c.loop-i.i c.row-row.ensures lt in
    let t = reach_in m c.args.low c.loop-i.i lt in
    let d = c.loop-i.invariant.reached in
    let room = c.requires in
    (w.0, (omega (arith, room.labels_room), (omega (arith, room.nexts_room), (omega (arith, room.few), omega (arith, c.from.ensures)))))

pub loop-i-preserved : goal.loop-i-preserved
loop-i-preserved g c =
    let m = g.M.Machine.lists c.args.m.now in
    let lt : c.loop-i.i < length m.rows = omega (arith, c.row_count-count.ensures, length-take c.row_count-count.result c.args.firsts.now) in
    let w = pushed_here m (g.met.M.Machine.limits c.args.m.now) c.row-row.result c.loop-i.i c.row-row.ensures lt in
    drew_row m c.args.low c.loop-i.labels c.loop-i.nexts c.loop-i.first-items c.draw_word.new.labels c.draw_word.new.nexts c.loop-i.i c.loop-i.base c.draw_word.result c.loop-i.invariant lt
    (as_row c.row-row.result _ c.row-row.ensures _ _ _ _ _ _ _ _ c.from.ensures w.1 c.draw_word.ensures)
    _ _ (omega (arith, c.requires.firsts_room)) refl (omega (arith, w.2, c.from-base.ensures))

pub overflow_cast-first : goal.overflow_cast-first
overflow_cast-first g c =
    let m = g.M.Machine.lists c.args.m.now in
    let lt : c.loop-i.i < length m.rows = omega (arith, c.row_count-count.ensures, length-take c.row_count-count.result c.args.firsts.now) in
    let w = pushed_here m (g.met.M.Machine.limits c.args.m.now) c.row-row.result c.loop-i.i c.row-row.ensures lt in
    let t = reach_in m c.args.low c.loop-i.i lt in
    let f = next_small c.loop-i.base c.from.result c.row-row.result.pushed.len 65536 (omega (arith, c.from.ensures)) (omega (arith, t, w.2, c.loop-i.invariant.reached, c.requires.few)) in
    record { fits = omega (arith, f, c.draw_word.ensures.final) }

pub overflow_add-base : goal.overflow_add-base
overflow_add-base g c =
    let t = base_in (g.M.Machine.lists c.args.m.now) c.args.low c.loop-i.i in
    record { fits = omega (arith, t, c.loop-i.invariant.reached, c.requires.few, c.from-base.ensures) }
