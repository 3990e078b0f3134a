-- The part of a grammar's rows in which a place falls.
use Rattle.std.specs.Prelude.{◌≡◌, ℕ, ◌+◌, ◌<◌}
use Rattle.entries.specs.declared.sizes.Sizes.{Sizes}
use Rattle.grammars.specs.declared.parts.Part.{Part}
use Rattle.grammars.specs.declared.parts.Part.TheVariants.{Start, Rule, Terminal, Last}

-- First a row for each start symbol, then one for each rule, then one for each terminal, then the last row.
abbrev pub FallsIn : Sizes → ℕ → Part → Type 0
FallsIn z p (Start i) = (i < z.first) × (p ≡ i)
FallsIn z p (Rule i) = (i < z.third) × (p ≡ z.first + i)
FallsIn z p (Terminal i) = (i < z.second) × (p ≡ z.first + z.third + i)
FallsIn z p Last = p ≡ z.first + z.third + z.second
