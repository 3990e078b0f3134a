-- The largest of some numbers.
use Rattle.std.proofs.Common.{◌≡◌, ℕ, max, List, [], ◌∷◌, ◌++◌, arith}
use Rattle.machine.specs.Lists.{above}

pub above-append : (xs ys : List ℕ) → above (xs ++ ys) ≡ max (above xs) (above ys)
above-append [] ys = omega arith
above-append (x ∷ xs) ys = let e = above-append xs ys in omega arith
