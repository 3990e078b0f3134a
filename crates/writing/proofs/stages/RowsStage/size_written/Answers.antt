use Rattle.std.proofs.Common.{rules, refl, arith}
use Rattle.entries.proofs.Files.{typed}
use Rattle.writing.proofs.Finishing.{finished, opens}
use Rattle.writing.proofs.Wholes.{long_enough, too_short, within}
use Rattle.writing.proofs.stages.RowsStage.size_written.Goals as goal

pub returns-then-close-clause-outcome : goal.returns-then-close-clause-outcome
returns-then-close-clause-outcome c = λ old m w.
    let t = finished old m _ _ c.close.new.out c.end.result w (search rules) (search rules) in
    let g = long_enough _ _ _ _ t (omega (arith, c.end.ensures.end)) in
    record {
      long = g;
      fits = within _ _ _ _ t _ _ w g;
      finished = t;
      opens = opens old m _ _ _ _ w (search rules) (search rules) (typed c.close.new.out (λ i. (c.type_inv.out i).fits)) g;
    }

pub returns-else-close-clause-outcome : goal.returns-else-close-clause-outcome
returns-else-close-clause-outcome c = λ old m w.
    let t = finished old m _ _ c.close.new.out 0 w (search rules) (search rules) in
    let l = too_short _ _ _ _ t refl in
    let s = t.short l in
    (l, s.2, s.1)
