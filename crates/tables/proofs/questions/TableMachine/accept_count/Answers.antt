use Rattle.std.proofs.Common.{length, ap}
use Rattle.tables.proofs.Places.{places}
use Rattle.tables.proofs.questions.TableMachine.accept_count.Goals as goal

pub returns : goal.returns
returns c = ap length (places c.args.self.now).accepts
