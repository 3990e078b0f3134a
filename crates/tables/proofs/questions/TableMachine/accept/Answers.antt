use Rattle.std.proofs.Common.{get_or, ap, ◌∙◌}
use Rattle.tables.proofs.Places.{places}
use Rattle.tables.proofs.questions.TableMachine.accept.Goals as goal

pub returns : goal.returns
returns c = c.state_at.ensures ∙ ap (λ xs. get_or xs c.args.place 0) (places c.args.self.now).accepts
