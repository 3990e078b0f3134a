use Rattle.std.proofs.Common.{◌∙◌, rules, tests}
use Rattle.std.proofs.lemmas.Iterator.{YieldsList-from_slice}
use Rattle.std.proofs.lemmas.Iterator.Search.{position_from_yields_List}
use Rattle.grammars.specs.Grammars.{is_among}
use Rattle.grammars.proofs.Lookups.{first_place}
use Rattle.grammars.proofs.terminals.first_terminal.Goals as goal

pub returns : goal.returns
returns c =
    position_from_yields_List (λ s. is_among s c.args.terminals.now) _ _ c.position.result c.position.ensures.ran (YieldsList-from_slice c.args.symbols.now cc) (λ x b q k. search (rules, tests))
    ∙ first_place c.args.terminals.now c.args.symbols.now
