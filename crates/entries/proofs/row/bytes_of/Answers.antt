use Rattle.std.proofs.Common.{◌≡◌, ℕ, List, ◌∷◌, ◌++◌, length, replicate, sym, ap, ◌∙◌, ap₂, rules}
use Rattle.std.proofs.lemmas.List.{places}
use Rattle.entries.proofs.Outputs.{two_words}
use Rattle.entries.proofs.row.bytes_of.Goals as goal

pub slice_bounds-bytes-end-2 : goal.slice_bounds-bytes-end-2
slice_bounds-bytes-end-2 c = search (rules, places)

pub returns : goal.returns
returns c =
    let r = c.args.row.now in
    let n : length c.copy_from_slice.new.self ≡ 10 = search rules in
    let b = ap (λ bs. r.from ∷ r.letter ∷ r.to ∷ r.popped.len ∷ r.pushed.len ∷ bs)
    (two_words c.copy_from_slice.new.self c.copy_from_slice-2.new.self (replicate 10 0) n (search rules)
    ∙ ap₂ {C = List ℕ} (λ x y. x ++ y) c.copy_from_slice.ensures.after c.copy_from_slice-2.ensures.after) in
    record { bytes = b; ten = sym (ap length c.copy_from_slice.ensures.after) ∙ n }
