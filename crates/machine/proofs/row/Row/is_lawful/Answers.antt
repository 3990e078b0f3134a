use Rattle.std.proofs.Common.{◌<◌, arith}
use Rattle.std.proofs.lemmas.Bool.Decides.{nat_tests}
use Rattle.machine.proofs.row.Row.is_lawful.Goals as goal

-- The states and the letter are bytes by their types.
pub returns-then-is_lawful : goal.returns-then-is_lawful
returns-then-is_lawful c =
    let f : c.args.self.now.from < 256 = omega arith in
    let l : c.args.self.now.letter < 256 = omega arith in
    let t : c.args.self.now.to < 256 = omega arith in
    grind (arith, nat_tests)
