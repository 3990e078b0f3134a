-- The listing of a machine's marks, byte for byte, and how it stands in an output.
use Rattle.std.specs.Prelude.{◌≡◌, ℕ, ◌+◌, List, [], ◌∷◌, ◌++◌, length, codes, decimal}
use Rattle.entries.specs.Outputs.{put_at}
use Rattle.marking.specs.declared.counts.Counts.{Counts}
use Rattle.marking.specs.Marks.{counts_of}

-- The line of a row: its place and its mark.
abbrev pub line_text : ℕ → ℕ → List ℕ
line_text place mark = decimal place ++ codes " " ++ decimal mark ++ codes "\n"

-- The lines of the marks that stand from a place on.
abbrev pub lines_text : ℕ → List ℕ → List ℕ
lines_text place [] = []
lines_text place (k ∷ ks) = line_text place k ++ lines_text (place + 1) ks

-- How many rows are useful, how many are reachable, and how many there are.
abbrev pub summary_text : Counts → ℕ → List ℕ
summary_text c rows =
    codes "useful " ++ decimal c.useful
    ++ codes " reachable " ++ decimal c.reachable
    ++ codes " of " ++ decimal rows
    ++ codes "\n"

-- The lines of all marks, and a summary with these counts.
abbrev pub summed_text : List ℕ → Counts → List ℕ
summed_text marks c = lines_text 0 marks ++ summary_text c (length marks)

abbrev pub listing_text : List ℕ → List ℕ
listing_text marks = summed_text marks (counts_of marks)

-- The bytes stand in the output from a place on, every other byte is the old one, and the answer is the place after them.
pub record Puts (bs : List ℕ) (at : ℕ) (old new : List ℕ) (end : ℕ) : Type 0 where
  pub after : new ≡ put_at old at bs
  pub next : end ≡ at + length bs
