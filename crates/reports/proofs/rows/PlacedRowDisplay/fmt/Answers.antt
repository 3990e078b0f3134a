-- The parts of the line, one after the other, are the line.
use Rattle.std.proofs.Output.{has_written_of_eq}
use Rattle.reports.proofs.Joins.{row_joined}
use Rattle.reports.proofs.rows.PlacedRowDisplay.fmt.Goals as goal

pub returns-clause-writes : goal.returns-clause-writes
returns-clause-writes g c = λ p k.
    has_written_of_eq _ _ _ _ _ (row_joined c.args.self.now.place c.args.self.now.row c.symbols.ensures c.symbols-2.ensures)
    (c.writeln.ensures.writes p k)
