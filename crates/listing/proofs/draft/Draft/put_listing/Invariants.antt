-- Before each turn the lines from `place` on are left.
use Rattle.listing.proofs.Adding.{Lined}
use Rattle.listing.proofs.draft.Draft.put_listing.Given as goal

abbrev pub invariant-loop-place : goal.invariant-loop-place
invariant-loop-place l = Lined l.marked.marks.now l.place l.initial.self l.self
