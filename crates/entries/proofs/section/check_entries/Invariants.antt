use Rattle.std.proofs.Common.{◌≡◌, ◌-◌, None}
use Rattle.entries.specs.Sections.{read_entries}
use Rattle.entries.proofs.section.check_entries.Given as goal

-- What is left to read decides as the whole does.
abbrev pub invariant-loop-place : goal.invariant-loop-place
invariant-loop-place g l =
    let e = g.T.Entry.sort in
    read_entries e l.section l.place l.last (l.count - l.place) l.rest
    ≡ read_entries e l.section 0 None l.count l.bytes
