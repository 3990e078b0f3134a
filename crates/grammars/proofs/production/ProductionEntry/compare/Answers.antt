use Rattle.std.proofs.Common.{[], ◌∷◌, ◌∙◌, ap₂}
use Rattle.std.specs.declared.cmp.Ordering.{Ordering}
use Rattle.std.specs.Ordering.{ordering_then}
use Rattle.entries.specs.Orders.{lexical_from_cmp}
use Rattle.grammars.proofs.ProductionBytes.{bytewise}
use Rattle.grammars.proofs.production.ProductionEntry.compare.Goals as goal

pub returns : goal.returns
returns c =
    let a = c.args.self.now in
    let b = c.args.other.now in
    rw (c.key.ensures, c.key-2.ensures) at c.cmp.ensures
    ∙ ap₂ {C = Ordering} ordering_then (lexical_from_cmp (a.left ∷ a.right.len ∷ []) (b.left ∷ b.right.len ∷ [])) (lexical_from_cmp a.right.symbols b.right.symbols)
    ∙ bytewise a b
