-- What a machine answers for each place, collected, is its list.
use Rattle.std.proofs.Common.{◌≡◌, ℕ, List, length, get_or, map, Ok, Option, vec_items, ◌∙◌, arith}
use Rattle.std.specs.declared.vec.Vec.{Vec}
use Rattle.std.specs.List.{range_with_len}
use Rattle.std.proofs.lemmas.Iterator.{YieldsList, IsCollectResult, items_from_collect}
use Rattle.std.proofs.lemmas.List.{same_lists, places}
use Rattle.std.proofs.lemmas.List.FromFn.{length-map-range_with_len, get_or-map-range_with_len}

each_place : (ns : List ℕ) → map (λ i. get_or ns i 0) (range_with_len 0 (length ns)) ≡ ns
each_place ns =
    let same = length-map-range_with_len (λ i. get_or ns i 0) 0 (length ns) in
    same_lists _ _ same
    (λ i d h. get_or-map-range_with_len (λ k. get_or ns k 0) 0 (length ns) i i d (omega arith) (omega arith) ∙ grind (arith, places))

pub collected : {S Z : Type 0} {steps : S → Option ℕ → S → Type 0} {s : S} (ns : List ℕ) (w : Vec ℕ Z)
    → IsCollectResult {E = Unit {0}} steps s (Ok w) → YieldsList steps (λ x. x) s (map (λ i. get_or ns i 0) (range_with_len 0 (length ns)))
    → vec_items w ≡ ns
collected ns w r y = items_from_collect {E = Unit {0}} (Ok w) r y ∙ each_place ns
