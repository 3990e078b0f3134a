-- The parts, one after the other, are the line.
use Rattle.listing.proofs.Placing.{adds_then}
use Rattle.listing.proofs.draft.Draft.put_line.Goals as goal

pub returns-clause-text : goal.returns-clause-text
returns-clause-text c =
    adds_then (adds_then (adds_then c.put_number.ensures.text c.put.ensures) (rw c.from.ensures at c.put_number-2.ensures.text))
    c.put-2.ensures
