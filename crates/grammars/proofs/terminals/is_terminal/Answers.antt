use Rattle.grammars.proofs.Lookups.{among}
use Rattle.grammars.proofs.terminals.is_terminal.Goals as goal

pub returns : goal.returns
returns c = among c.args.terminals.now c.args.symbol c.contains.result c.contains.ensures.cases
