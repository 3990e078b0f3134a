-- What a reader that takes memory may answer.
use Rattle.std.specs.Prelude.{ℕ, Ok, Err, vec_items, Result}
use Rattle.machine.specs.Lists.{Lists}
use Rattle.texts.specs.declared.lists.Entries.{Entries}
use Rattle.texts.specs.declared.unread.Unread.{Unread}
use Rattle.texts.specs.declared.unread.Unread.TheVariants.{Memory, Line}

-- What was read; or the line that was not; of want of memory nothing is said.
abbrev pub Told : {X : Type 0} → Result X Unread → (X → Type 0) → (ℕ → Type 0) → Type 0
Told (Ok x) P Q = P x
Told (Err (Line n)) P Q = Q n
Told (Err Memory) P Q = Unit {0}

-- The lists in the entries.
abbrev pub lists_of : Entries → Lists
lists_of e = record { starts = vec_items e.starts; accepts = vec_items e.accepts; rows = vec_items e.rows }
