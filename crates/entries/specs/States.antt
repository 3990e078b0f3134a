-- States as entries: one byte.
use Rattle.std.specs.Prelude.{ℕ, [], ◌∷◌, slice_index}
use Rattle.machine.specs.Rows.{is_byte}
use Rattle.entries.specs.Sorts.{Sort, numbers}

abbrev pub states : Sort ℕ
states = record { wide = 1; lawful = is_byte; encode = λ s. s ∷ []; decode = λ bs. slice_index bs 0; rank = numbers }
