-- The parts of the scratch, one after the other.
use Rattle.std.proofs.Common.{◌≡◌, ℕ, ◌+◌, ◌*◌, ◌≤◌, length, ap, arith}
use Rattle.machine.specs.Lists.{Lists, width_of}
use Rattle.marking.specs.Marks.{pushed, node_count, words_for, scratch_need}
use Rattle.marking.proofs.Sizes.{parts_fit}

-- what the parts take of the scratch that a machine needs
pub parts_in : (m : Lists) (n : ℕ) → n ≡ width_of m + pushed m.rows → n * n + (n * n + (n + (n + (length m.rows + 26 * n)))) ≤ scratch_need m
parts_in m n e =
    let k : n + 4 ≡ node_count m = omega arith in
    let s = ap (λ x. words_for x (length m.rows)) k in
    let p = parts_fit n (length m.rows) in
    omega (arith, s, p)
