use Rattle.std.proofs.Common.{◌≡◌, ◌-◌, None, Ok, Err, sym, ap, ◌∙◌, arith}
use Rattle.std.proofs.lemmas.Result.{err_from_is_err_and}
use Rattle.entries.specs.Sections.{read_entries}
use Rattle.entries.proofs.Sections.{stops, breaks, next, taken}
use Rattle.entries.proofs.section.check_entries.Goals as goal

pub returns-in_err-entry : goal.returns-in_err-entry
returns-in_err-entry g c =
    let e = g.T.Entry.sort in
    let p = err_from_is_err_and c.from_residual.result c.from_residual.ensures.1 in
    rw (p.1, p.2) (record {
      outcome = sym c.loop-place.invariant ∙ stops e c.args.section c.loop-place.place c.loop-place.last (c.args.count - c.loop-place.place) c.loop-place.rest.now (omega arith) c.in_err-entry.field-0.0 (sym c.in_err-entry.ensures);
      ascends = tt;
    })

pub returns-then-not-follows : goal.returns-then-not-follows
returns-then-not-follows g c =
    let e = g.T.Entry.sort in
    record {
      outcome = sym c.loop-place.invariant ∙ breaks e c.args.section c.loop-place.place c.loop-place.last (c.args.count - c.loop-place.place) c.loop-place.rest.now (omega arith) c.in_ok-entry.entry (sym c.in_ok-entry.ensures) (sym c.if-not-follows.ensures) ∙ ap Err (sym c.at.ensures);
      ascends = tt;
    }

pub loop-place-preserved : goal.loop-place-preserved
loop-place-preserved g c =
    let e = g.T.Entry.sort in
    next e c.args.section c.loop-place.place c.args.count c.width-width.result c.loop-place.last c.loop-place.rest.now c.in_ok-entry.entry _ c.width-width.ensures c.loop-place-test.true (sym c.in_ok-entry.ensures) (sym c.if-not-follows.ensures) c.loop-place.invariant

pub returns : goal.returns
returns g c =
    let e = g.T.Entry.sort in
    let n : c.args.count - c.loop-place.place ≡ 0 = omega arith in
    let o : read_entries e c.args.section 0 None c.args.count c.args.bytes.now ≡ Ok c.loop-place.rest.now = sym (rw n at c.loop-place.invariant) in
    record {
      outcome = o;
      ascends = (taken e g.met.T.Entry.laws c.args.section c.args.count 0 None c.args.bytes.now _ o).ascending;
    }
