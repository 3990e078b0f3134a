use Rattle.std.proofs.Common.{sym, arith}
use Rattle.texts.proofs.Lines.{listed_more, listed_end, listed_bad}
use Rattle.texts.proofs.Leaves.{after_row}
use Rattle.texts.proofs.rows.rows.Goals as goal

pub returns-in_err-found : goal.returns-in_err-found
returns-in_err-found c =
    let bad = listed_bad c.loop-rest.invariant (sym c.loop-rest-test.ensures) in
    grind arith

pub loop-rest-smaller : goal.loop-rest-smaller
loop-rest-smaller c = after_row _ _ (sym (rw (c.in_ok-found.ensures.ok_part, ← c.found.view_is) at c.row.ensures))

pub loop-rest-preserved : goal.loop-rest-preserved
loop-rest-preserved c =
    listed_more c.loop-rest.invariant (sym c.loop-rest-test.ensures)
    (sym (rw (c.in_ok-found.ensures.ok_part, ← c.found.view_is) at c.row.ensures))
    (omega (arith, c.in_ok-push.ensures.len)) c.in_ok-push.ensures.items

pub returns : goal.returns
returns c = listed_end c.loop-rest.invariant (sym c.loop-rest-test.ensures)
