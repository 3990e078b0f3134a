-- The laws of states as entries. No definition to believe, only proofs.
use Rattle.std.specs.Prelude.{◌≡◌, ℕ, ◌≤◌, List, [], ◌∷◌, length, take, slice_index, refl}
use Rattle.std.proofs.Common.{arith}
use Rattle.entries.specs.Sorts.{Laws}
use Rattle.entries.specs.States.{states}
use Rattle.entries.specs.Orders.{numbers_order}

first : (bs : List ℕ) → 1 ≤ length bs → slice_index bs 0 ∷ [] ≡ take 1 bs
first [] h = absurd (omega arith)
first (b ∷ bs) h = refl

alone : (bs : List ℕ) → 1 ≤ length bs → slice_index (take 1 bs) 0 ≡ slice_index bs 0
alone [] h = absurd (omega arith)
alone (b ∷ bs) h = refl

pub states_laws : Laws states
states_laws =
    record {
      nonempty = omega arith;
      size = λ x h. refl;
      decodes = λ x rest h. refl;
      encodes = first;
      local = alone;
      same = numbers_order.same;
      itself = numbers_order.itself;
      flips = numbers_order.flips;
      through = numbers_order.through;
    }
