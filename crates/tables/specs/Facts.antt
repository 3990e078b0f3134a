-- What holds of bytes that opened: the facts that a table owes as a machine. No definition to believe, only proofs.
use Rattle.std.specs.Prelude.{◌≡◌, ℕ, List, Ok, Result}
use Rattle.std.proofs.Common.{ap}
use Rattle.machine.specs.declared.fault.Fault.{Fault}
use Rattle.machine.specs.declared.row.Row.{Row}
use Rattle.machine.specs.Lists.{Lists, Few, Limits}
use Rattle.entries.specs.Sections.{and_then}
use Rattle.entries.specs.Files.{Content, read_file, LawfulFile, found, Holds}
use Rattle.entries.specs.StateBytes.{states_laws}
use Rattle.entries.specs.RowBytes.{rows_laws}
use Rattle.entries.proofs.Files.{reads, lawful}
use Rattle.tables.specs.Tables.{table_layout, lists_from, open_table, listed, lists_of}

-- The bytes bs were found lawful, with these bytes of starts, accepting states and rows.
module _ (bs ss fs rs : List ℕ) (h : Holds table_layout bs ss fs rs) where
  abbrev content : Content ℕ ℕ Row
  content = found (read_file table_layout bs)

  pub opens : open_table bs ≡ Ok (lists_from content)
  opens = ap {B = Result Lists Fault} (λ x. and_then x (λ y. Ok (lists_from y))) (reads table_layout bs ss fs rs h)

  pub lists : lists_of bs ≡ lists_from content
  lists = ap listed opens

  kept : LawfulFile table_layout content
  kept = lawful table_layout states_laws states_laws rows_laws bs content (reads table_layout bs ss fs rs h)

  pub few_of : Few (lists_of bs)
  few_of = rw lists (record { starts = kept.first.few; accepts = kept.second.few; rows = kept.third.few })

  pub limits_of : Limits (lists_of bs)
  limits_of = rw lists (record { starts = kept.first.limits; accepts = kept.second.limits; rows = kept.third.limits })
