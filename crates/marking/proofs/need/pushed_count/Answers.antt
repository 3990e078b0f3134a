use Rattle.std.proofs.Common.{ℕ, length, refl, rules, arith}
use Rattle.std.specs.List.{range_with_len}
use Rattle.std.proofs.lemmas.Iterator.{YieldsList-from_range, YieldsList-from_map}
use Rattle.std.proofs.lemmas.Iterator.Consumers.{YieldsList-at, sum_by_from_yields_List, fits_by_from_yields_list}
use Rattle.marking.specs.Marks.{row_at}
use Rattle.marking.proofs.Pushing.{pushed_counted}
use Rattle.marking.proofs.need.pushed_count.Goals as goal

pub sum-requires-clause-fits : goal.sum-requires-clause-fits
sum-requires-clause-fits g c =
    let m = g.M.Machine.lists c.args.m.now in
    let h : ℕ → ℕ = λ i. (row_at m i).pushed.len in
    let all = pushed_counted m (g.met.M.Machine.few c.args.m.now) (g.met.M.Machine.limits c.args.m.now) in
    fits_by_from_yields_list h (range_with_len 0 (length m.rows)) c.map.result _
    (YieldsList-from_map _ h (YieldsList-at c.map.ensures.source (YieldsList-from_range 0 c.row_count.result (length m.rows) refl (omega (arith, c.row_count.ensures)))) c.map.ensures.closure (λ x r q k. search rules))
    (omega (arith, all.0, all.1))

pub returns : goal.returns
returns g c =
    let m = g.M.Machine.lists c.args.m.now in
    let h : ℕ → ℕ = λ i. (row_at m i).pushed.len in
    let all = pushed_counted m (g.met.M.Machine.few c.args.m.now) (g.met.M.Machine.limits c.args.m.now) in
    let s = sum_by_from_yields_List h (range_with_len 0 (length m.rows)) _ _ c.sum.ensures.ran
    (YieldsList-from_map _ h (YieldsList-at c.map.ensures.source (YieldsList-from_range 0 c.row_count.result (length m.rows) refl (omega (arith, c.row_count.ensures)))) c.map.ensures.closure (λ x r q k. search rules)) in
    (omega (arith, s, all.0), omega (arith, s, all.0, all.1))
