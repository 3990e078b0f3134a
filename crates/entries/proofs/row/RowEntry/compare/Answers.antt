use Rattle.std.proofs.Common.{◌≡◌, ◌∙◌, ap₂}
use Rattle.std.specs.declared.cmp.Ordering.{Ordering}
use Rattle.std.specs.Ordering.{ordering_then}
use Rattle.entries.specs.Rows.{heads, row_rank}
use Rattle.entries.specs.Orders.{lexical_from_cmp}
use Rattle.entries.specs.RowBytes.{bytewise}
use Rattle.entries.proofs.row.RowEntry.compare.Goals as goal

pub returns : goal.returns
returns c =
    let a = c.args.self.now in
    let b = c.args.other.now in
    let r : c.cmp.result ≡ row_rank a b =
    rw (c.key.ensures, c.key-2.ensures) at c.cmp.ensures
    ∙ ap₂ {C = Ordering} ordering_then (ap₂ {C = Ordering} ordering_then (lexical_from_cmp (heads a) (heads b)) (lexical_from_cmp a.popped.symbols b.popped.symbols)) (lexical_from_cmp a.pushed.symbols b.pushed.symbols) in
    record { ranked = r; bytewise = λ h k. r ∙ bytewise a b h k }
