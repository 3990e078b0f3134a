-- The three lists that are a machine's meaning, and the facts that every kind of machine owes about them.
use Rattle.std.specs.Prelude.{◌≡◌, ℕ, suc, ◌≤◌, max, Bool, true, ◌&&◌, List, [], ◌∷◌, ◌++◌, length}
use Rattle.machine.specs.declared.row.Row.{Row}
use Rattle.machine.specs.Rows.{is_byte, lawful_row}

pub record Lists : Type 0 where
  pub starts : List ℕ
  pub accepts : List ℕ
  pub rows : List Row

pub record Few (m : Lists) : Type 0 where
  pub starts : length m.starts ≤ 256
  pub accepts : length m.accepts ≤ 256
  pub rows : length m.rows ≤ 1024

-- Each element passes the test.
abbrev pub all : {X : Type 0} → (X → Bool) → List X → Bool
all ok [] = true
all ok (x ∷ xs) = ok x && all ok xs

pub record Limits (m : Lists) : Type 0 where
  pub starts : all is_byte m.starts ≡ true
  pub accepts : all is_byte m.accepts ≡ true
  pub rows : all lawful_row m.rows ≡ true

-- The states between which the rows lead.
abbrev pub ends : List Row → List ℕ
ends [] = []
ends (r ∷ rs) = r.from ∷ r.to ∷ ends rs

-- One more than the largest number, or 0 where there is none.
abbrev pub above : List ℕ → ℕ
above [] = 0
above (s ∷ ss) = max (suc s) (above ss)

abbrev pub width_of : Lists → ℕ
width_of m = above (m.starts ++ (m.accepts ++ ends m.rows))
