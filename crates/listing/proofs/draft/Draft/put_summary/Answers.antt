-- The parts, one after the other, are the line.
use Rattle.listing.proofs.Placing.{adds_then}
use Rattle.listing.proofs.draft.Draft.put_summary.Goals as goal

pub returns : goal.returns
returns c =
    let useful = adds_then c.put.ensures c.put_number.ensures.text in
    let reachable = adds_then (adds_then useful c.put-2.ensures) c.put_number-2.ensures.text in
    let rows = adds_then (adds_then reachable c.put-3.ensures) c.put_number-3.ensures.text in
    adds_then rows c.put-4.ensures
