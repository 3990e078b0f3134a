use Rattle.std.proofs.Common.{sym, arith}
use Rattle.std.proofs.lemmas.List.{set-get_or}
use Rattle.texts.proofs.Somes.{filled_more, filled_word, seen_stop, seen_all}
use Rattle.texts.proofs.words.symbols.Goals as goal
use Rattle.texts.proofs.words.symbols.Goals.{else-loop-place-test, then-loop-place-test+in_default}

pub loop-place-preserved : goal.loop-place-preserved
loop-place-preserved c = record {
  count = omega arith;
  filled = filled_more c.loop-place.invariant.filled (sym (rw (← c.symbol.view_is) at c.in-Some.ensures)) c.loop-place-test.true;
}

pub returns : goal.returns
returns c = elim c.loop-place-test.branch [
  | else-loop-place-test w ↦
      rw w.word-is (filled_word c.loop-place.invariant.filled c.loop-place.invariant.count (omega arith)
      (seen_all c.loop-place.invariant.filled.seen (omega arith)))
  | then-loop-place-test+in_default w ↦
      rw (w.word-is, set-get_or) (filled_word c.loop-place.invariant.filled c.loop-place.invariant.count (omega arith)
      (seen_stop c.loop-place.invariant.filled.seen (sym w.in_default.ensures)))
]
