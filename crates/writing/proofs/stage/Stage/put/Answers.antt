use Rattle.std.proofs.Common.{refl, ap, Ok, Err}
use Rattle.std.proofs.lemmas.Result.{err_from_is_err_and}
use Rattle.writing.specs.Stages.{with_entry}
use Rattle.writing.proofs.Histories.{accepted}
use Rattle.writing.proofs.Calls.{after, taken}
use Rattle.writing.proofs.stage.Stage.put.Goals as goal

pub returns-in_err-check-clause-welcome : goal.returns-in_err-check-clause-welcome
returns-in_err-check-clause-welcome g c =
    let p = err_from_is_err_and c.from_residual.result c.from_residual.ensures.1 in
    rw p.1 (λ old m w. taken _ g.met.S.Item.Entry.laws _ _ g.met.S.Section.laws old m _ _ w c.args.entry c.args.self.now c.args.out.now (Err c.in_err-check.field-0.0) (record { why = c.in_err-check.ensures; stage = refl; bytes = refl }))

pub returns-clause-history : goal.returns-clause-history
returns-clause-history g c =
    let a = accepted _ g.met.S.Item.Entry.laws _ _ _ c.args.entry _ _ _ _ c.in_ok-check.ensures c.end.ensures.end c.write.ensures (ap (λ z. with_entry z c.args.entry) c.self.view_is) in
    λ old m w. after _ g.met.S.Item.Entry.laws _ _ g.met.S.Section.laws old m _ _ w c.args.entry _ _ (Ok tt) a
