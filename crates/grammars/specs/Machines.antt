-- The machine of a grammar. It starts in 0 with an empty stack, rewrites the top of the stack by rules in 1,
-- takes the terminals that it reads off the stack, and accepts in 2 once only the mark of the bottom, 255, is left.
use Rattle.std.specs.Prelude.{ℕ, List, [], ◌∷◌, ◌++◌, map, replicate}
use Rattle.machine.specs.declared.row.Word.{Word}
use Rattle.machine.specs.declared.row.Row.{Row}
use Rattle.machine.specs.Rows.{empty_word}
use Rattle.machine.specs.Lists.{Lists}
use Rattle.grammars.specs.declared.symbol.Symbol.{Symbol}
use Rattle.grammars.specs.declared.production.Production.{Production}
use Rattle.grammars.specs.Grammars.{GrammarLists}

abbrev pub one_symbol : ℕ → Word
one_symbol s = record { len = 1; symbols = s ∷ replicate 9 0 }

-- The start symbol, with the mark of the bottom below it.
abbrev pub on_bottom : Symbol → Word
on_bottom s = record { len = 2; symbols = s.0 ∷ 255 ∷ replicate 8 0 }

-- A start symbol is pushed.
abbrev pub start_row : Symbol → Row
start_row s = record { from = 0; letter = 0; to = 1; popped = empty_word; pushed = on_bottom s }

-- The right side is put in place of the left symbol.
abbrev pub production_row : Production → Row
production_row p = record { from = 1; letter = 0; to = 1; popped = one_symbol p.left; pushed = p.right }

-- A terminal is read, and popped.
abbrev pub terminal_row : Symbol → Row
terminal_row a = record { from = 1; letter = a.0; to = 1; popped = one_symbol a.0; pushed = empty_word }

-- The mark of the bottom is popped.
abbrev pub last_row : Row
last_row = record { from = 1; letter = 0; to = 2; popped = one_symbol 255; pushed = empty_word }

abbrev pub rows_of : GrammarLists → List Row
rows_of g = map start_row g.starts ++ (map production_row g.productions ++ (map terminal_row g.terminals ++ last_row ∷ []))

abbrev pub machine_of : GrammarLists → Lists
machine_of g = record { starts = 0 ∷ []; accepts = 2 ∷ []; rows = rows_of g }
