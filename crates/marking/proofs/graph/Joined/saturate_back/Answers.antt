use Rattle.std.proofs.Common.{ℕ, List, length, ap, ◌∙◌, arith}
use Rattle.marking.proofs.Goodness.{backed_more, back_saturated}
use Rattle.marking.proofs.graph.Joined.saturate_back.Goals as goal

pub loop-work-preserved : goal.loop-work-preserved
loop-work-preserved g c =
    let i = c.loop-work.invariant in
    record {
      sizes = (c.back_round.ensures.size ∙ i.sizes.0, omega (arith, i.sizes.1, ap (λ (l : List ℕ). length l) c.back_round.ensures.pending));
      backed = backed_more _ _ _ _ _ _ _ _ _ _ _ _ i.backed c.back_round.ensures.round c.copy_from_slice.ensures.after c.clear-in-loop-work.ensures;
    }

pub returns : goal.returns
returns g c =
    let i = c.loop-work.invariant in
    record { sizes = (c.back_round.ensures.size ∙ i.sizes.0, omega (arith, i.sizes.1, ap (λ (l : List ℕ). length l) c.back_round.ensures.pending)); saturated = back_saturated _ _ _ _ _ _ _ _ _ i.backed c.loop-work-test.ensures.round }
