use Rattle.std.proofs.Common.{◌≡◌, ℕ, ◌*◌, ◌/◌, length, arith, ◌∙◌, ap₂}
use Rattle.tables.proofs.Places.{places}
use Rattle.tables.specs.Tables.{lists_of}
use Rattle.tables.proofs.questions.TableMachine.row_count.Goals as goal

pub returns : goal.returns
returns c =
    let n = length (lists_of c.args.self.now.bytes.now).rows in
    let e : 25 * n / 25 ≡ n = omega arith in
    ap₂ {C = ℕ} (λ x y. x / y) (places c.args.self.now).row_count c.width.ensures ∙ e
