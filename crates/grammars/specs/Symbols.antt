-- Grammar symbols as entries: one byte.
use Rattle.std.specs.Prelude.{ℕ, Bool, ◌&&◌, [], ◌∷◌, nat_lt, slice_index}
use Rattle.entries.specs.Sorts.{Sort, numbers}
use Rattle.grammars.specs.declared.symbol.Symbol.{Symbol}

-- A grammar symbol is 1 to 254.
abbrev pub is_grammar_symbol : ℕ → Bool
is_grammar_symbol b = nat_lt 0 b && nat_lt b 255

abbrev pub symbol : ℕ → Symbol
symbol b = record { 0 = b }

abbrev pub symbols : Sort Symbol
symbols =
    record {
      wide = 1;
      lawful = λ s. is_grammar_symbol s.0;
      encode = λ s. s.0 ∷ [];
      decode = λ bs. symbol (slice_index bs 0);
      rank = λ a b. numbers a.0 b.0;
    }
