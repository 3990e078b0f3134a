-- Rows as entries: the from state, the letter, the to state, the popped length, the pushed length,
-- then ten bytes of popped word and ten of pushed word.
use Rattle.std.specs.Prelude.{ℕ, List, [], ◌∷◌, ◌++◌, take, drop, slice_index}
use Rattle.std.specs.declared.cmp.Ordering.{Ordering}
use Rattle.std.specs.Ordering.{ordering_then}
use Rattle.machine.specs.declared.row.Word.{Word}
use Rattle.machine.specs.declared.row.Row.{Row}
use Rattle.machine.specs.Rows.{lawful_row}
use Rattle.entries.specs.Sorts.{Sort, lexical}

abbrev pub heads : Row → List ℕ
heads r = r.from ∷ r.letter ∷ r.to ∷ r.popped.len ∷ r.pushed.len ∷ []

abbrev pub row_bytes : Row → List ℕ
row_bytes r = heads r ++ (r.popped.symbols ++ r.pushed.symbols)

abbrev pub word_of : ℕ → List ℕ → Word
word_of n bs = record { len = n; symbols = bs }

abbrev pub row_of : List ℕ → Row
row_of bs =
    record {
      from = slice_index bs 0;
      letter = slice_index bs 1;
      to = slice_index bs 2;
      popped = word_of (slice_index bs 3) (take 10 (drop 5 bs));
      pushed = word_of (slice_index bs 4) (take 10 (drop 15 bs));
    }

-- By the first five bytes, then the popped word, then the pushed word.
abbrev pub row_rank : Row → Row → Ordering
row_rank a b =
    ordering_then (ordering_then (lexical (heads a) (heads b)) (lexical a.popped.symbols b.popped.symbols)) (lexical a.pushed.symbols b.pushed.symbols)

abbrev pub rows : Sort Row
rows = record { wide = 25; lawful = lawful_row; encode = row_bytes; decode = row_of; rank = row_rank }
