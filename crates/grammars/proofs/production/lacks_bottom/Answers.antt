use Rattle.grammars.proofs.ProductionBytes.{lacks}
use Rattle.grammars.proofs.production.lacks_bottom.Goals as goal

pub returns : goal.returns
returns c = lacks c.args.bytes.now (λ i. (c.type_inv.bytes i).fits) c.contains.result c.contains.ensures.cases
