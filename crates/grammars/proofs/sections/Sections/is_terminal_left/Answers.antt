use Rattle.std.proofs.Common.{◌∙◌, ap, ap₂}
use mathlib.Core.Bool.{Bool}
use Rattle.grammars.specs.declared.production.Production.{Production}
use Rattle.grammars.specs.Grammars.{is_among}
use Rattle.grammars.proofs.Places.{places}
use Rattle.grammars.proofs.sections.Sections.is_terminal_left.Goals as goal

pub returns : goal.returns
returns c = c.is_terminal.ensures ∙ ap₂ {C = Bool} is_among (ap (λ (p : Production). p.left) c.production.ensures) (places c.args.self.now).terminals
