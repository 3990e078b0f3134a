-- Rules as entries: the left symbol, the length of the right side, then ten bytes of right side.
use Rattle.std.specs.Prelude.{ℕ, Bool, ◌&&◌, List, ◌∷◌, take, drop, nat_lt, slice_index}
use Rattle.std.specs.declared.cmp.Ordering.{Ordering}
use Rattle.machine.specs.Rows.{lawful_word, empty_word}
use Rattle.machine.specs.Lists.{all}
use Rattle.entries.specs.Sorts.{Sort, lexical}
use Rattle.entries.specs.Rows.{word_of}
use Rattle.grammars.specs.declared.production.Production.{Production}
use Rattle.grammars.specs.Symbols.{is_grammar_symbol}

-- The byte is below 255, the mark of the bottom.
abbrev pub not_bottom : ℕ → Bool
not_bottom b = nat_lt b 255

-- The left side is a grammar symbol, and so is each symbol of the right side.
abbrev pub lawful_production : Production → Bool
lawful_production p = is_grammar_symbol p.left && (lawful_word p.right && all not_bottom p.right.symbols)

abbrev pub production_bytes : Production → List ℕ
production_bytes p = p.left ∷ p.right.len ∷ p.right.symbols

abbrev pub production_of : List ℕ → Production
production_of bs = record { left = slice_index bs 0; right = word_of (slice_index bs 1) (take 10 (drop 2 bs)) }

-- The order of rules is that of their bytes.
abbrev pub production_rank : Production → Production → Ordering
production_rank a b = lexical (production_bytes a) (production_bytes b)

abbrev pub productions : Sort Production
productions =
    record {
      wide = 12;
      lawful = lawful_production;
      encode = production_bytes;
      decode = production_of;
      rank = production_rank;
    }

-- The answer for a place where no rule stands.
abbrev pub zero_production : Production
zero_production = record { left = 0; right = empty_word }
