use Rattle.std.proofs.Common.{◌*◌, drop, unwrap_or, ap, ◌∙◌}
use Rattle.machine.specs.Rows.{zero_row}
use Rattle.entries.specs.Sorts.{entry_at}
use Rattle.entries.specs.Rows.{rows}
use Rattle.entries.specs.RowBytes.{rows_laws}
use Rattle.entries.proofs.Sections.{stands}
use Rattle.tables.specs.Tables.{lists_of}
use Rattle.tables.specs.Facts.{limits_of}
use Rattle.tables.proofs.Places.{places}
use Rattle.tables.proofs.questions.TableMachine.row.Goals as goal

pub returns : goal.returns
returns c =
    let t = c.args.self.now in
    let l = limits_of t.bytes.now t.starts.now t.accepts.now t.rows.now t.lawful in
    c.unwrap_or.ensures
    ∙ ap (λ o. unwrap_or o zero_row) c.entry_in.ensures
    ∙ ap (λ bs. unwrap_or (entry_at rows (drop (25 * c.args.place) bs)) zero_row) (places t).rows
    ∙ stands rows rows_laws (lists_of t.bytes.now).rows c.args.place zero_row l.rows
