use Rattle.std.proofs.Common.{arith}
use Rattle.std.proofs.lemmas.Bool.Decides.{nat_tests}
use Rattle.machine.proofs.Padding.{step_zero, step_more, at_end}
use Rattle.machine.proofs.row.is_padded.Goals as goal
use Rattle.machine.proofs.row.is_padded.Goals.{then-left-eq0+else-b-ne0, else-left-eq0+else-b-eq0}

pub returns-then-b-ne0 : goal.returns-then-b-ne0
returns-then-b-ne0 c =
    let s = step_zero c.args.bytes.now c.loop-b.b-index c.loop-b-test.true in
    grind (arith, nat_tests)

pub returns-then-b-eq0 : goal.returns-then-b-eq0
returns-then-b-eq0 c =
    let s = step_more c.args.bytes.now c.loop-b.b-index c.loop-b-test.true c.loop-b.left (omega arith) in
    grind (arith, nat_tests)

pub loop-b-preserved : goal.loop-b-preserved
loop-b-preserved c =
    elim c.if-left-eq0.branch [
      | then-left-eq0+else-b-ne0 w ↦
          let s = step_zero c.args.bytes.now c.loop-b.b-index c.loop-b-test.true in grind (arith, nat_tests)
      | else-left-eq0+else-b-eq0 w ↦
          let s = step_more c.args.bytes.now c.loop-b.b-index c.loop-b-test.true c.loop-b.left (omega arith) in grind (arith, nat_tests)
    ]

pub returns : goal.returns
returns c =
    let s = at_end c.args.bytes.now c.loop-b.b-index c.loop-b.left c.loop-b-test.false in
    grind (arith, nat_tests)
