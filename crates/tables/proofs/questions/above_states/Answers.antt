use Rattle.std.proofs.Common.{rules, sym, ◌∙◌}
use Rattle.std.proofs.lemmas.Iterator.{YieldsList-from_slice}
use Rattle.std.proofs.lemmas.Iterator.Adapters.{option_map_id}
use Rattle.std.proofs.lemmas.Iterator.Consumers.{YieldsList-from_copied, max_from_yields_List}
use Rattle.tables.proofs.Widths.{above_reduce}
use Rattle.tables.proofs.questions.above_states.Goals as goal

pub returns : goal.returns
returns c =
    above_reduce c.args.states.now c.max.result c.map_or.result
    (sym (option_map_id _) ∙ max_from_yields_List _ _ c.max.ensures.ran (YieldsList-from_copied (YieldsList-from_slice c.args.states.now cc)))
    c.map_or.ensures (λ x h. search rules)
