use Rattle.std.proofs.Common.{◌≡◌, arith}
use Rattle.marking.proofs.Splitting.{parts_in}
use Rattle.marking.proofs.marks.mark_in.Goals as goal

pub split_at_mut-good-requires : goal.split_at_mut-good-requires
split_at_mut-good-requires g c =
    let p = parts_in (g.M.Machine.lists c.args.m.now) c.node_count-size.result c.node_count-size.ensures.0 in
    omega (arith, c.split_at_mut-cells.ensures.back_len)

pub split_at_mut-labels-requires : goal.split_at_mut-labels-requires
split_at_mut-labels-requires g c =
    let p = parts_in (g.M.Machine.lists c.args.m.now) c.node_count-size.result c.node_count-size.ensures.0 in
    omega (arith, c.split_at_mut-cells.ensures.back_len, c.split_at_mut-good.ensures.back_len)

pub split_at_mut-nexts-requires : goal.split_at_mut-nexts-requires
split_at_mut-nexts-requires g c =
    let p = parts_in (g.M.Machine.lists c.args.m.now) c.node_count-size.result c.node_count-size.ensures.0 in
    omega (arith, c.split_at_mut-cells.ensures.back_len, c.split_at_mut-good.ensures.back_len, c.split_at_mut-labels.ensures.back_len)

pub split_at_mut-firsts-requires : goal.split_at_mut-firsts-requires
split_at_mut-firsts-requires g c =
    let p = parts_in (g.M.Machine.lists c.args.m.now) c.node_count-size.result c.node_count-size.ensures.0 in
    omega (arith, c.row_count.ensures, c.split_at_mut-cells.ensures.back_len, c.split_at_mut-good.ensures.back_len, c.split_at_mut-labels.ensures.back_len, c.split_at_mut-nexts.ensures.back_len)

pub mark_graph-requires-clause-shape : goal.mark_graph-requires-clause-shape
mark_graph-requires-clause-shape g c =
    let p = parts_in (g.M.Machine.lists c.args.m.now) c.node_count-size.result c.node_count-size.ensures.0 in
    let size : c.new-drawing.result.nodes.size ≡ c.node_count-size.result = omega (arith, c.new-drawing.ensures.size, c.node_count-size.ensures.0) in
    rw size (
      omega (arith, c.split_at_mut-cells.ensures.front_len),
      (
        omega (arith, c.split_at_mut-good.ensures.front_len),
        (
          omega (arith, c.row_count.ensures, c.split_at_mut-cells.ensures.back_len, c.split_at_mut-good.ensures.back_len, c.split_at_mut-labels.ensures.back_len, c.split_at_mut-nexts.ensures.back_len, c.split_at_mut-firsts.ensures.back_len),
          c.node_count-size.ensures.1,
        ),
      ),
    )

pub returns : goal.returns
returns g c = rw c.new-drawing.ensures.same at c.mark_graph.ensures
