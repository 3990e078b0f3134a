use Rattle.std.proofs.Common.{◌*◌, drop, unwrap_or, ap, ◌∙◌}
use Rattle.entries.specs.Sorts.{entry_at}
use Rattle.entries.proofs.Sections.{stands}
use Rattle.grammars.specs.Productions.{productions, zero_production}
use Rattle.grammars.specs.Grammars.{read_lists}
use Rattle.grammars.specs.ProductionLaws.{productions_laws}
use Rattle.grammars.proofs.Places.{places}
use Rattle.grammars.proofs.sections.Sections.production.Goals as goal

pub returns : goal.returns
returns c =
    let t = c.args.self.now in
    c.unwrap_or.ensures
    ∙ ap (λ o. unwrap_or o zero_production) c.entry_in.ensures
    ∙ ap (λ bs. unwrap_or (entry_at productions (drop (12 * c.args.place) bs)) zero_production) (places t).productions
    ∙ stands productions productions_laws (read_lists t.bytes.now).productions c.args.place zero_production (places t).limits
