use Rattle.std.proofs.Common.{sym}
use Rattle.grammars.specs.Grammars.{grammar_of}
use Rattle.grammars.proofs.MachineRows.{width}
use Rattle.grammars.proofs.questions.GrammarMachine.width.Goals as goal

pub returns : goal.returns
returns c = sym (width (grammar_of c.args.self.now.sections.bytes.now))
