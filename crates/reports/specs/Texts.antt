-- The readable text of a machine and of a fault, byte for byte.
use Rattle.std.specs.Prelude.{ℕ, ◌+◌, List, [], ◌∷◌, ◌++◌, length, Ok, Err, codes, decimal, Result}
use Rattle.machine.specs.declared.row.Row.{Row}
use Rattle.machine.specs.declared.fault.Fault.{Fault}
use Rattle.machine.specs.Rows.{pops, pushes}
use Rattle.machine.specs.Faults.{number}
use Rattle.machine.specs.Lists.{Lists, width_of}
use Rattle.grammars.specs.Grammars.{GrammarLists}
use Rattle.grammars.specs.Machines.{machine_of}

-- Each number after a space.
abbrev pub spaced : List ℕ → List ℕ
spaced [] = []
spaced (n ∷ ns) = codes " " ++ decimal n ++ spaced ns

-- The same, or a dash where there is none.
abbrev pub numbers_text : List ℕ → List ℕ
numbers_text [] = codes " -"
numbers_text (n ∷ ns) = spaced (n ∷ ns)

abbrev pub row_text : ℕ → Row → List ℕ
row_text place r =
    codes "row " ++ decimal place
    ++ codes " from " ++ decimal r.from
    ++ codes " letter " ++ decimal r.letter
    ++ codes " to " ++ decimal r.to
    ++ codes " pop" ++ numbers_text (pops r)
    ++ codes " push" ++ numbers_text (pushes r)
    ++ codes "\n"

-- The lines of rows that stand from a place on.
abbrev pub rows_text : ℕ → List Row → List ℕ
rows_text place [] = []
rows_text place (r ∷ rs) = row_text place r ++ rows_text (place + 1) rs

-- How many starts, accepting states and rows there are, and the width.
abbrev pub counts_text : Lists → List ℕ
counts_text m =
    codes "starts " ++ decimal (length m.starts)
    ++ codes " accepting " ++ decimal (length m.accepts)
    ++ codes " rows " ++ decimal (length m.rows)
    ++ codes " width " ++ decimal (width_of m)
    ++ codes "\n"

abbrev pub machine_text : Lists → List ℕ
machine_text m =
    counts_text m
    ++ codes "start" ++ numbers_text m.starts ++ codes "\n"
    ++ codes "accept" ++ numbers_text m.accepts ++ codes "\n"
    ++ rows_text 0 m.rows

abbrev pub fault_text : Fault → List ℕ
fault_text f =
    codes "refused " ++ decimal (number f.rule)
    ++ codes " " ++ decimal f.section
    ++ codes " " ++ decimal f.place
    ++ codes "\n"

-- What came of opening a table, and of opening a grammar.
abbrev pub opening_text : Result Lists Fault → List ℕ
opening_text (Ok m) = machine_text m
opening_text (Err f) = fault_text f

abbrev pub grammar_opening_text : Result GrammarLists Fault → List ℕ
grammar_opening_text (Ok g) = machine_text (machine_of g)
grammar_opening_text (Err f) = fault_text f
