-- Numbers written one after the other.
use Rattle.std.proofs.Common.{◌≡◌, ℕ, ◌+◌, ◌<◌, List, [], ◌∷◌, ◌++◌, length, get_or, take, codes, decimal, sym, ap, ◌∙◌, append_assoc, append-nil}
use Rattle.std.proofs.lemmas.List.{take_more}
use Rattle.reports.specs.Texts.{spaced}

spaced-push : (ns : List ℕ) (n : ℕ) → spaced (ns ++ n ∷ []) ≡ spaced ns ++ (codes " " ++ decimal n)
spaced-push [] n = append-nil (codes " " ++ decimal n)
spaced-push (k ∷ ns) n =
    ap (λ t. (codes " " ++ decimal k) ++ t) (spaced-push ns n)
    ∙ sym (append_assoc (codes " " ++ decimal k) (spaced ns) (codes " " ++ decimal n))

-- One number more is written.
pub spaced_more : (ns : List ℕ) (i : ℕ) → i < length ns
    → spaced (take i ns) ++ (codes " " ++ decimal (get_or ns i 0)) ≡ spaced (take (i + 1) ns)
spaced_more ns i h = sym (spaced-push (take i ns) (get_or ns i 0)) ∙ ap spaced (sym (take_more ns i 0 h))
