use Rattle.std.proofs.Common.{refl}
use Rattle.std.proofs.lemmas.Result.{err_from_is_err_and}
use Rattle.writing.specs.Wholes.Unwritten.{in_starts, in_accepts, in_rows}
use Rattle.writing.proofs.Wholes.{starts_fit, accepts_fit, ended, ended_well}
use Rattle.writing.proofs.table.write_table.Goals as goal

pub returns-in_err-put_all : goal.returns-in_err-put_all
returns-in_err-put_all c =
    let w = c.begin-stage.ensures.history c.args.out.now in
    let b = c.in_err-put_all.ensures in
    let p = err_from_is_err_and c.from_residual.result c.from_residual.ensures.1 in
    rw (p.1, p.2) (record {
      outcome = in_starts (b.outcome _ _ w refl);
      welcome = λ l n. b.welcome _ _ w refl l.starts (starts_fit _ _ _ _ n);
    })

pub returns-in_err-put_all-2 : goal.returns-in_err-put_all-2
returns-in_err-put_all-2 c =
    let w = c.begin-stage.ensures.history c.args.out.now in
    let v = c.next-stage.ensures.history _ _ (c.in_ok-put_all.ensures.outcome _ _ w refl) in
    let b = c.in_err-put_all-2.ensures in
    let p = err_from_is_err_and c.from_residual-in_err-put_all-2.result c.from_residual-in_err-put_all-2.ensures.1 in
    rw (p.1, p.2) (record {
      outcome = in_accepts v.lawful.starts (b.outcome _ _ v refl);
      welcome = λ l n. b.welcome _ _ v refl l.accepts (accepts_fit _ _ _ _ n);
    })

pub returns-in_err-put_all-3 : goal.returns-in_err-put_all-3
returns-in_err-put_all-3 c =
    let w = c.begin-stage.ensures.history c.args.out.now in
    let v = c.next-stage.ensures.history _ _ (c.in_ok-put_all.ensures.outcome _ _ w refl) in
    let u = c.next-stage-2.ensures.history _ _ (c.in_ok-put_all-2.ensures.outcome _ _ v refl) in
    let b = c.in_err-put_all-3.ensures in
    let p = err_from_is_err_and c.from_residual-in_err-put_all-3.result c.from_residual-in_err-put_all-3.ensures.1 in
    rw (p.1, p.2) (record {
      outcome = in_rows u.lawful.starts u.lawful.accepts (b.outcome _ _ u refl);
      welcome = λ l n. b.welcome _ _ u refl l.rows n;
    })

pub returns : goal.returns
returns c =
    let w = c.begin-stage.ensures.history c.args.out.now in
    let v = c.next-stage.ensures.history _ _ (c.in_ok-put_all.ensures.outcome _ _ w refl) in
    let u = c.next-stage-2.ensures.history _ _ (c.in_ok-put_all-2.ensures.outcome _ _ v refl) in
    let t = c.size_written.ensures.outcome _ _ (c.in_ok-put_all-3.ensures.outcome _ _ u refl) in
    record {
      outcome = ended _ _ _ c.size_written.result _ _ t c.at.ensures c.ok_or.ensures.value;
      welcome = λ l n. ended_well _ _ _ c.size_written.result _ _ t n c.ok_or.ensures.value;
    }
