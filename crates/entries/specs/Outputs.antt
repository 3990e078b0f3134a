-- Bytes put into an output, from a place on.
use Rattle.std.specs.Prelude.{◌≡◌, ℕ, ◌+◌, Bool, cond, List, ◌++◌, length, take, drop, nat_le}

-- The output with the bytes in the place of those that stood there.
abbrev pub put_at : List ℕ → ℕ → List ℕ → List ℕ
put_at out at bs = take at out ++ (bs ++ drop (at + length bs) out)

-- The bytes were put there where they fit, else nothing was changed; the answer is whether they fit.
pub record Wrote (bs : List ℕ) (at : ℕ) (old new : List ℕ) (fit : Bool) : Type 0 where
  pub fits : fit ≡ nat_le (at + length bs) (length old)
  pub after : new ≡ cond fit (put_at old at bs) old
