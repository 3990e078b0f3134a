-- Marks that are counted.
use Rattle.std.proofs.Common.{◌≡◌, ℕ, ◌+◌, Bool, true, false, cond, List, count_by, refl, ap, ◌∙◌, arith}
use Rattle.std.proofs.lemmas.List.Recursion.{is_count_by}
use Rattle.marking.specs.declared.counts.Counts.{Counts}
use Rattle.marking.specs.Marks.{count_if}

pub count_if_is : (ok : ℕ → Bool) (ks : List ℕ) → count_if ok ks ≡ count_by ok ks
count_if_is ok = is_count_by (count_if ok) ok refl (λ k ks. one (ok k) (count_if ok ks))
  where
    one : (b : Bool) (n : ℕ) → cond b 1 0 + n ≡ cond b (1 + n) n
    one true n = refl
    one false n = omega arith

abbrev pack : ℕ → ℕ → Counts
pack r u = record { reachable = r; useful = u }

pub counts_same : (c d : Counts) → c.reachable ≡ d.reachable → c.useful ≡ d.useful → c ≡ d
counts_same c d e f = ap (λ r. pack r c.useful) e ∙ ap (pack d.reachable) f
