-- The number of each rule that can be broken, and what a fault tells.
use Rattle.std.specs.Prelude.{ℕ}
use Rattle.machine.specs.declared.fault.Rule.{Rule}
use Rattle.machine.specs.declared.fault.Rule.TheVariants.{Short, Order, Limits, Rest, Count, Terminal, Scratch, Marks, Slots, Output, Standing, Full, Absent}
use Rattle.machine.specs.declared.fault.Fault.{Fault}

abbrev pub number : Rule → ℕ
number Short = 1
number Order = 2
number Limits = 3
number Rest = 4
number Count = 5
number Terminal = 6
number Scratch = 7
number Marks = 8
number Slots = 9
number Output = 10
number Standing = 11
number Full = 12
number Absent = 13

-- The rule broken in a section, at a place.
abbrev pub fault : Rule → ℕ → ℕ → Fault
fault r s p = record { rule = r; section = s; place = p }
