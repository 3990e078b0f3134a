use Rattle.std.proofs.Common.{◌≡◌, ◌-◌, ◌≤◌, length, take, ap, ◌∙◌, arith}
use Rattle.theory.specs.Layout.{graph_of}
use Rattle.marking.specs.Nodes.{Drawn}
use Rattle.marking.specs.Solving.{Solved}
use Rattle.marking.specs.Marks.{counts_of, Sets}
use Rattle.marking.proofs.Judged.{marked}
use Rattle.marking.proofs.Flagging.{flags_as}
use Rattle.marking.proofs.Stepping.{as_drawn}
use Rattle.marking.proofs.graph.Drawing.mark_graph.Goals as goal

pub returns : goal.returns
returns g c =
    let m = g.M.Machine.lists c.args.self.now.machine.now in
    let w = graph_of c.args.self.now.nodes.low m.rows in
    let s = c.solve.ensures.solved w c.requires.drawn in
    let old = c.args.marks.now in
    let new = c.judge_rows.new.marks in
    let j = c.joined-joined.ensures in
    let e : c.row_count.result - 0 ≡ length m.rows = omega (arith, c.row_count.ensures) in
    record {
      sets =
          as_drawn (ap g.M.Machine.lists j.machine) j.firsts j.nodes j.cells
          (λ n firsts nodes cells. Solved n w nodes.size firsts cells c.solve.new.good.cells.now c.solve.new.ahead c.solve.new.behind → Drawn w nodes → length n.rows ≤ length old → Sets n old new)
          (λ t d room. marked _ w _ _ _ _ c.solve.new.ahead c.solve.new.behind t old new room (omega arith) c.judge_rows.ensures.rest (c.judge_rows.ensures.found w d))
          s c.requires.drawn.drawn c.requires.marks;
      counts = c.count_marks.ensures ∙ ap (λ k. counts_of (take k new)) e;
      starts = flags_as _ c.flag_starts.ensures s.start;
      accepts = flags_as _ c.flag_accepts.ensures s.accept;
    }
