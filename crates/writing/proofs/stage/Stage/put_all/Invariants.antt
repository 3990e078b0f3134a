use Rattle.std.proofs.Common.{◌≡◌, ℕ, List, [], take}
use Rattle.machine.specs.Lists.{Lists}
use Rattle.writing.specs.Histories.{WritingTable}
use Rattle.writing.proofs.stage.Stage.put_all.Given as goal

-- The first of the entries were accepted.
abbrev pub invariant-loop-entry : goal.invariant-loop-entry
invariant-loop-entry g l =
    let Table : List ℕ → Lists → _ → List ℕ → Type 0 = WritingTable g.S.Item.Entry.sort g.S.Section.KIND g.S.Section.part in
    (old : List ℕ) (m : Lists) → Table old m l.initial.self l.initial.out → g.S.Section.part.entries m ≡ []
    → Table old (g.S.Section.part.with_entries m (take l.entry-index l.entries)) l.self l.out
