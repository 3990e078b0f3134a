use Rattle.std.proofs.Common.{◌≡◌, ◌<◌, length, get_or, drop, None, Ok, Err, ap, arith, length-append}
use Rattle.std.proofs.lemmas.Result.{err_from_is_err_and}
use Rattle.entries.specs.Sections.{read_entries, entries, joined}
use Rattle.entries.proofs.Sections.{section_by, section_taken, taken, front}
use Rattle.entries.proofs.section.read_section.Goals as goal

pub slice_bounds-entries-count : goal.slice_bounds-entries-count
slice_bounds-entries-count g c =
    let e = g.T.Entry.sort in
    let bs = c.in_ok-count.body.now in
    let t = (taken e g.met.T.Entry.laws c.args.section c.in_ok-count.count 0 None bs _ c.in_ok-rest.ensures.outcome).bytes in
    omega (arith, ap length t, length-append (joined e.encode (entries e c.in_ok-count.count bs)) c.in_ok-rest.rest.now)

pub returns-in_err-rest : goal.returns-in_err-rest
returns-in_err-rest g c =
    let e = g.T.Entry.sort in
    let bs = c.args.bytes.now in
    let p = err_from_is_err_and c.from_residual-in_err-rest.result c.from_residual-in_err-rest.ensures.1 in
    let r : read_entries e c.args.section 0 None c.in_ok-count.count (drop 2 bs) ≡ Err c.in_err-rest.field-0.0 = rw c.in_ok-count.ensures.body at c.in_err-rest.ensures.outcome in
    rw (p.1, p.2) (record {
      outcome = section_by e c.args.section c.args.most c.in_ok-count.count bs c.in_ok-count.ensures.outcome _ r;
      entries = tt;
      lawful = tt;
    })

pub returns : goal.returns
returns g c =
    let e = g.T.Entry.sort in
    let bs = c.args.bytes.now in
    let n = c.in_ok-count.count in
    let r : read_entries e c.args.section 0 None n (drop 2 bs) ≡ Ok c.in_ok-rest.rest.now = rw c.in_ok-count.ensures.body at c.in_ok-rest.ensures.outcome in
    let low : get_or bs 1 0 < 256 = omega (arith, (c.type_inv.bytes 1).fits) in
    record {
      outcome = section_by e c.args.section c.args.most n bs c.in_ok-count.ensures.outcome _ r;
      entries = rw c.in_ok-count.ensures.body (front (drop 2 bs) _ _ (taken e g.met.T.Entry.laws c.args.section n 0 None (drop 2 bs) _ r).bytes);
      lawful = section_taken e g.met.T.Entry.laws c.args.section c.args.most bs _ n low c.in_ok-count.ensures.outcome r;
    }
