-- One line more at each turn, and none left at the end.
use Rattle.listing.proofs.Placing.{adds_then}
use Rattle.listing.proofs.Adding.{line_more, line_all}
use Rattle.listing.proofs.draft.Draft.put_listing.Goals as goal

pub loop-place-preserved : goal.loop-place-preserved
loop-place-preserved c =
    line_more c.loop-place.invariant c.loop-place-test.true c.put_line.ensures.text c.put_line.ensures.short

pub returns : goal.returns
returns c = adds_then (line_all c.loop-place.invariant c.loop-place-test.false) c.put_summary.ensures
