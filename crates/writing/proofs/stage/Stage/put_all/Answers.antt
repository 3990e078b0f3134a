use Rattle.std.proofs.lemmas.Result.{err_from_is_err_and}
use Rattle.writing.proofs.Batches.{one_more, stopped, lawful_so_far, fits_so_far}
use Rattle.writing.proofs.stage.Stage.put_all.Goals as goal

pub loop-entry-preserved : goal.loop-entry-preserved
loop-entry-preserved g c =
    λ old m w none.
    let more = one_more _ _ _ g.met.S.Section.laws old m _ _ _ c.entry-item.is c.loop-entry-test.true in
    rw (← more) (c.in_ok-put.ensures.history old _ (c.loop-entry.invariant old m w none))

pub returns-in_err-put-clause-outcome : goal.returns-in_err-put-clause-outcome
returns-in_err-put-clause-outcome g c =
    let p = err_from_is_err_and c.from_residual.result c.from_residual.ensures.1 in
    rw (p.1, p.2) (λ old m w none.
    stopped _ _ _ g.met.S.Section.laws old m _ _ _ c.entry-item.is c.loop-entry-test.true _ _ _ _ _ (c.loop-entry.invariant old m w none) c.in_err-put.ensures.outcome)

pub returns-in_err-put-clause-welcome : goal.returns-in_err-put-clause-welcome
returns-in_err-put-clause-welcome g c =
    let p = err_from_is_err_and c.from_residual.result c.from_residual.ensures.1 in
    let a = g.met.S.Section.laws in
    rw p.1 (λ old m w none l fits.
    c.in_err-put.ensures.welcome old _ (c.loop-entry.invariant old m w none)
    (lawful_so_far _ _ _ a old m _ _ _ c.entry-item.is c.loop-entry-test.true l)
    (fits_so_far _ _ _ a old m _ _ _ c.entry-item.is c.loop-entry-test.true fits))
