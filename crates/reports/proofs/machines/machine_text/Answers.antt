-- The parts, one after the other, are the whole.
use Rattle.std.proofs.Common.{get_or, length, rules, arith, ◌∙◌}
use Rattle.std.proofs.lemmas.Iterator.{YieldsList-from_map, YieldsList-from_range}
use Rattle.reports.proofs.Collected.{collected}
use Rattle.reports.proofs.Joins.{machine_joined}
use Rattle.reports.proofs.machines.machine_text.Goals as goal

pub returns : goal.returns
returns g c =
    let m = g.M.Machine.lists c.args.m.now in
    let starts =
    collected m.starts c.in_ok-starts.starts c.in_ok-starts.ensures.ran
    (YieldsList-from_map _ (λ i. get_or m.starts i 0) (YieldsList-from_range 0 (length m.starts) (length m.starts) (search rules) (omega arith))
    c.map.ensures.closure (λ x r q k. search rules)) in
    let accepts =
    collected m.accepts c.in_ok-accepts.accepts c.in_ok-accepts.ensures.ran
    (YieldsList-from_map _ (λ i. get_or m.accepts i 0) (YieldsList-from_range 0 (length m.accepts) (length m.accepts) (search rules) (omega arith))
    c.map-2.ensures.closure (λ x r q k. search rules)) in
    machine_joined m c.start_count-starting.ensures c.accept_count-accepting.ensures c.row_count-rows.ensures c.width-width.ensures
    (c.deref.ensures.value ∙ starts) (c.deref-2.ensures.value ∙ accepts) c.new-text.ensures.bytes
    c.in_ok-writeln.ensures.bytes c.in_ok-writeln-2.ensures.bytes c.in_ok-writeln-3.ensures.bytes c.in_ok-put_rows.ensures
