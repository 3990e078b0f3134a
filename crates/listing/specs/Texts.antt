-- The text of a machine's marks, and of the marks of a file's machine.
use Rattle.std.specs.Prelude.{◌≡◌, ℕ, List, length, Ok, Err, Result, MatchOption}
use Rattle.machine.specs.declared.fault.Fault.{Fault}
use Rattle.machine.specs.Lists.{Lists}
use Rattle.grammars.specs.Grammars.{GrammarLists}
use Rattle.grammars.specs.Machines.{machine_of}
use Rattle.marking.specs.Marks.{refusal, Marked}
use Rattle.reports.specs.Texts.{fault_text}
use Rattle.listing.specs.Listings.{listing_text}

-- The text lists the marks of the machine.
pub record IsListing (m : Lists) (text : List ℕ) : Type 0 where
  pub marks : List ℕ
  pub marked : Marked m marks
  pub whole : text ≡ listing_text marks

-- With so many words of scratch: the listing, or the fault where they are too few.
abbrev pub MarksText : Lists → ℕ → List ℕ → Type 0
MarksText m words text =
    MatchOption (refusal m words (length m.rows)) (IsListing m text) (λ f. text ≡ fault_text f)

-- What came of opening a table, with so many words of scratch.
abbrev pub RowmarksText : ℕ → Result Lists Fault → List ℕ → Type 0
RowmarksText words (Ok m) text = MarksText m words text
RowmarksText words (Err f) text = text ≡ fault_text f

-- The same with as much scratch as is needed, for a table and for a grammar.
abbrev pub TableMarksText : Result Lists Fault → List ℕ → Type 0
TableMarksText (Ok m) text = IsListing m text
TableMarksText (Err f) text = text ≡ fault_text f

abbrev pub GrammarMarksText : Result GrammarLists Fault → List ℕ → Type 0
GrammarMarksText (Ok g) text = IsListing (machine_of g) text
GrammarMarksText (Err f) text = text ≡ fault_text f
