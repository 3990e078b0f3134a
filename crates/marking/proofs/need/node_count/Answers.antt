use Rattle.std.proofs.Common.{arith}
use Rattle.marking.proofs.Sizes.{width_small}
use Rattle.marking.proofs.need.node_count.Goals as goal

pub overflow_add-result : goal.overflow_add-result
overflow_add-result g c = record { fits = omega (arith, width_small (g.M.Machine.lists c.args.m.now) (g.met.M.Machine.limits c.args.m.now), c.width.ensures, c.pushed_count.ensures.1) }

pub returns : goal.returns
returns g c =
    let w = width_small (g.M.Machine.lists c.args.m.now) (g.met.M.Machine.limits c.args.m.now) in
    let a = c.width.ensures in
    let b = c.pushed_count.ensures in
    (omega arith, omega arith)
