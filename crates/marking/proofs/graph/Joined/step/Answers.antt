use Rattle.std.proofs.Common.{◌≡◌, true, ap, ◌∙◌, arith}
use Rattle.machine.specs.declared.row.Row.{Row}
use Rattle.machine.specs.Rows.{zero_row, lawful_row}
use Rattle.marking.proofs.Rounding.{all_at}
use Rattle.marking.proofs.Words.{both}
use Rattle.marking.proofs.graph.Joined.step.Goals as goal

pub invariant_of-result : goal.invariant_of-result
invariant_of-result g c =
    let m = g.M.Machine.lists c.args.self.now.machine.now in
    let l : lawful_row c.row-row.result ≡ true = ap lawful_row c.row-row.ensures ∙ all_at lawful_row m.rows zero_row c.args.i (g.met.M.Machine.limits c.args.self.now.machine.now).rows c.requires in
    let w = (both c.row-row.result l).0 in
    let same = ap (λ (r : Row). r.from) c.row-row.ensures in
    let from = c.args.self.now.fit.from c.args.i c.requires in
    record { few = w.few; long = w.long; from_in = omega (arith, c.from.ensures); first_in = c.first.ensures.within }
