-- The marks that were set are listed, with their counts.
use Rattle.std.proofs.Common.{◌∙◌, arith}
use Rattle.std.proofs.lemmas.List.{with_items_is}
use Rattle.std.proofs.lemmas.Result.{IfOk-weaker}
use Rattle.listing.proofs.Listed.{set_text}
use Rattle.listing.proofs.texts.marks_text.Goals as goal

pub returns-in-Ok : goal.returns-in-Ok
returns-in-Ok g c =
    let outcome = c.in-Ok.ensures.outcome in
    let words = c.in_ok-scratch.ensures.len in
    let rows = c.in_ok-marks.ensures.len in
    let same = c.as_slice-marks.ensures.value ∙ with_items_is c.in_ok-marks.marks c.mark_rows.new.marks (omega arith) in
    IfOk-weaker c.listed.result _ _
    (λ v e. set_text (g.M.Machine.lists c.args.m.now) c.as_mut_slice.result.now outcome.0.0 (omega arith) (omega arith) outcome.1 outcome.2 same e)
    c.listed.ensures
