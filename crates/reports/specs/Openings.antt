-- The kinds of files, and what opening the bytes of one gives: the lists of its machine, or the first fault.
use Rattle.std.specs.Prelude.{◌≡◌, ℕ, List, Ok, Err, codes, Result, MatchResult}
use Rattle.machine.specs.declared.fault.Fault.{Fault}
use Rattle.machine.specs.Lists.{Lists}
use Rattle.grammars.specs.Grammars.{GrammarLists, open_grammar}
use Rattle.grammars.specs.Machines.{machine_of}
use Rattle.tables.specs.Tables.{open_table}
use Rattle.reports.specs.declared.kinds.Kind.{Kind}
use Rattle.reports.specs.declared.kinds.Kind.TheVariants.{Table, Grammar}
use Rattle.reports.specs.declared.kinds.UnknownKind.{UnknownKind}

abbrev pub name_of : Kind → List ℕ
name_of Table = codes "table"
name_of Grammar = codes "grammar"

-- The result is the kind of this name, or an error where no kind has it.
abbrev pub Names : List ℕ → Result Kind UnknownKind → Type 0
Names text r = MatchResult r (λ kind. name_of kind ≡ text) (λ _. (kind : Kind) → name_of kind ≡ text → ⊥)

-- The machine of a grammar that opens.
abbrev pub machine_or_fault : Result GrammarLists Fault → Result Lists Fault
machine_or_fault (Ok g) = Ok (machine_of g)
machine_or_fault (Err f) = Err f

abbrev pub open_grammar_machine : List ℕ → Result Lists Fault
open_grammar_machine bs = machine_or_fault (open_grammar bs)

abbrev pub open_file : Kind → List ℕ → Result Lists Fault
open_file Table bs = open_table bs
open_file Grammar bs = open_grammar_machine bs
