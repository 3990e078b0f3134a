-- Before each turn the rows from `place` on are left.
use Rattle.std.proofs.Common.{◌≡◌, ◌++◌, drop, string_bytes}
use Rattle.reports.specs.Texts.{rows_text}
use Rattle.reports.proofs.machines.put_rows.Given as goal

abbrev pub invariant-loop-place : goal.invariant-loop-place
invariant-loop-place g l =
    let rows = (g.M.Machine.lists l.m).rows in
    string_bytes l.text ++ rows_text l.place (drop l.place rows) ≡ string_bytes l.initial.text ++ rows_text 0 rows
