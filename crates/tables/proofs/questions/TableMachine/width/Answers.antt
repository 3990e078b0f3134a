use Rattle.std.proofs.Common.{◌≡◌, ℕ, ◌++◌, rules, length, get_or, unwrap_or, max, map, sym, ap, ◌∙◌, arith}
use Rattle.std.specs.List.{reduce, range_with_len}
use Rattle.std.proofs.lemmas.Iterator.{YieldsList-from_range, YieldsList-from_map}
use Rattle.std.proofs.lemmas.Iterator.Adapters.{option_map_id}
use Rattle.std.proofs.lemmas.Iterator.Consumers.{max_from_yields_List}
use Rattle.machine.specs.Rows.{zero_row}
use Rattle.machine.specs.Lists.{above, ends}
use Rattle.tables.specs.Tables.{lists_of}
use Rattle.tables.proofs.Places.{places}
use Rattle.machine.proofs.Largest.{above-append}
use Rattle.tables.proofs.Widths.{top, tops, placed}
use Rattle.tables.proofs.questions.TableMachine.width.Goals as goal

pub returns : goal.returns
returns c =
    let t = c.args.self.now in
    let m = lists_of t.bytes.now in
    let f : ℕ → ℕ = λ i. top (get_or m.rows i zero_row) in
    let largest : c.max.result ≡ reduce max (map f (range_with_len 0 (length m.rows))) =
    sym (option_map_id _)
    ∙ max_from_yields_List _ _ c.max.ensures.ran (YieldsList-from_map _ f (YieldsList-from_range 0 c.row_count.result (length m.rows) c.map.ensures.source (omega (arith, c.row_count.ensures))) c.map.ensures.closure (λ x r q k. search rules)) in
    let r : c.unwrap_or-rows.result ≡ above (ends m.rows) =
    c.unwrap_or-rows.ensures ∙ ap (λ o. unwrap_or o 0) (largest ∙ ap (reduce max) (placed f zero_row m.rows 0 (λ i. ap f (omega arith)))) ∙ tops m.rows in
    let a : c.above_states.result ≡ above m.starts = c.above_states.ensures ∙ ap above (places t).starts in
    let b : c.above_states-2.result ≡ above m.accepts = c.above_states-2.ensures ∙ ap above (places t).accepts in
    omega (arith, r, a, b, c.max-states.ensures, c.max-2.ensures, above-append m.starts (m.accepts ++ ends m.rows), above-append m.accepts (ends m.rows))
