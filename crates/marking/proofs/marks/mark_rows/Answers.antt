use Rattle.std.proofs.lemmas.Result.{err_from_is_err_and}
use Rattle.marking.proofs.Judged.{one_marking}
use Rattle.marking.proofs.marks.mark_rows.Goals as goal

pub returns-in_err-useful : goal.returns-in_err-useful
returns-in_err-useful g c =
    let p = err_from_is_err_and c.from_residual.result c.from_residual.ensures.1 in
    record { outcome = rw (p.1, p.2) c.in_err-useful.ensures; fixed = one_marking }

pub returns : goal.returns
returns g c =
    let u = c.in_ok-useful.ensures in
    record { outcome = (u.0, u.1.sets, u.1.counts); fixed = one_marking }
