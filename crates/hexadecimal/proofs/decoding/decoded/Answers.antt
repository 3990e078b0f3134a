-- One byte more at each turn, and none left at the end.
use Rattle.std.proofs.Common.{◌/◌, length, sym, ap, ◌∙◌, arith}
use Rattle.std.proofs.lemmas.Bool.Decides.{nat_tests}
use Rattle.hexadecimal.proofs.Pairs.{bytes_of_pairs, odd_none, pairs_whole, byte_more, byte_bad, byte_all}
use Rattle.hexadecimal.proofs.decoding.decoded.Goals as goal

pub returns-then-not-is_empty : goal.returns-then-not-is_empty
returns-then-not-is_empty c = sym (odd_none c.args.digits.now (λ e. grind (arith, nat_tests)))

pub returns-in_default : goal.returns-in_default
returns-in_default c =
    byte_bad c.loop-high.invariant c.loop-high-test.true c.in_default.ensures
    ∙ ap bytes_of_pairs c.as_chunks.ensures.front ∙ pairs_whole (length c.args.digits.now / 2) c.args.digits.now (grind (arith, nat_tests))

pub loop-high-preserved : goal.loop-high-preserved
loop-high-preserved c =
    byte_more c.loop-high.invariant c.in-Some.next c.in_ok-push.ensures.items c.loop-high-test.true c.in-Some.ensures

pub returns : goal.returns
returns c =
    byte_all c.loop-high.invariant c.loop-high-test.false
    ∙ ap bytes_of_pairs c.as_chunks.ensures.front ∙ pairs_whole (length c.args.digits.now / 2) c.args.digits.now (grind (arith, nat_tests))
