use Rattle.std.proofs.Common.{◌≡◌, ℕ, ◌<◌, length, get_or, sym, ap, ◌∙◌, rules, tests, arith}
use Rattle.std.proofs.lemmas.Iterator.{YieldsList-from_range}
use Rattle.std.proofs.lemmas.Iterator.Search.{find_from_yields_List}
use Rattle.std.specs.List.{find, range_with_len}
use Rattle.std.proofs.lemmas.List.{length-map, get_or-map}
use Rattle.std.proofs.lemmas.Iterator.Adapters.{option_map_id}
use Rattle.grammars.specs.declared.production.Production.{Production}
use Rattle.grammars.specs.Productions.{zero_production}
use Rattle.grammars.specs.Grammars.{is_among, numbers_of, lefts_of, read_lists}
use Rattle.grammars.proofs.Lookups.{first_number}
use Rattle.grammars.proofs.sections.Sections.first_left.Goals as goal

pub returns : goal.returns
returns c =
    let t = c.args.self.now in
    let g = read_lists t.bytes.now in
    let ts = numbers_of g.terminals in
    let n = c.sizes.result.third in
    let f = find_from_yields_List (λ i. is_among (get_or g.productions i zero_production).left ts) _ _ c.find.result c.find.ensures.ran (YieldsList-from_range 0 n n (cc) (omega arith)) (λ x b q k. search (rules, tests)) in
    let m : n ≡ length (lefts_of g.productions) = c.sizes.ensures.third ∙ sym (length-map g.productions (λ (p : Production). p.left)) in
    let e : (i : ℕ) → i < length (lefts_of g.productions) → (get_or g.productions i zero_production).left ≡ get_or (lefts_of g.productions) i 0 =
    λ i l. sym (get_or-map (λ (p : Production). p.left) g.productions i zero_production 0 (omega (arith, length-map g.productions (λ (p : Production). p.left)))) in
    sym (option_map_id c.find.result) ∙ f ∙ ap (λ k. find (λ i. is_among (get_or g.productions i zero_production).left ts) (range_with_len 0 k)) m
    ∙ first_number ts (λ i. (get_or g.productions i zero_production).left) (lefts_of g.productions) e
