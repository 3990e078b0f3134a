-- Reading the text of a machine. A reader takes bytes to what stands in front and the bytes past it, or to nothing.
use Rattle.std.specs.Prelude.{ℕ, zero, suc, ◌+◌, ◌-◌, ◌*◌, Bool, false, cond, List, [], ◌∷◌, ◌++◌, length, replicate, Some, None, Ok, Err, codes, Option, Result, ◌==◌, nat_lt}
use Rattle.std.specs.Char.{is_ascii_digit}
use Rattle.machine.specs.declared.row.Word.{Word}
use Rattle.machine.specs.declared.row.Row.{Row}
use Rattle.machine.specs.Lists.{Lists}

-- What was read, and the bytes past it.
pub record Read (X : Type 0) : Type 0 where
  pub value : X
  pub rest : List ℕ

abbrev pub read : {X : Type 0} → X → List ℕ → Read X
read x bs = record { value = x; rest = bs }

-- Go on with what came; or answer otherwise where nothing came.
abbrev pub either : {X Y : Type 0} → Option X → Y → (X → Y) → Y
either None y k = y
either (Some x) y k = k x

abbrev pub and_then : {X Y : Type 0} → Option X → (X → Option Y) → Option Y
and_then o k = either o None k

-- The bytes past a word that stands in front.
abbrev pub after : List ℕ → List ℕ → Option (List ℕ)
after [] bs = Some bs
after (c ∷ cs) [] = None
after (c ∷ cs) (b ∷ bs) = cond (b == c) (after cs bs) None

-- The digits in front, read on from a number; one with a tenth digit that counts is not read.
abbrev pub read_digits : ℕ → List ℕ → Option (Read ℕ)
read_digits n [] = Some (read n [])
read_digits n (b ∷ bs) =
    cond (is_ascii_digit b) (cond (nat_lt n 100000000) (read_digits (10 * n + (b - 48)) bs) None) (Some (read n (b ∷ bs)))

abbrev pub digit_first : List ℕ → Bool
digit_first [] = false
digit_first (b ∷ bs) = is_ascii_digit b

-- A number: one digit or more; zeros may stand in front.
abbrev pub read_number : List ℕ → Option (Read ℕ)
read_number bs = cond (digit_first bs) (read_digits 0 bs) None

-- A number of at most 255.
abbrev pub read_byte : List ℕ → Option (Read ℕ)
read_byte bs = and_then (read_number bs) (λ n. cond (nat_lt n.value 256) (Some n) None)

-- The same after a space.
abbrev pub read_spaced : List ℕ → Option (Read ℕ)
read_spaced bs = and_then (after (codes " ") bs) read_byte

abbrev pub put_front : {X : Type 0} → X → Read (List X) → Read (List X)
put_front x r = read (x ∷ r.value) r.rest

-- As many such numbers as stand there, but at most so many.
unfoldable pub read_some : ℕ → List ℕ → Read (List ℕ)
read_some zero bs = read [] bs
read_some (suc most) bs = either (read_spaced bs) (read [] bs) (λ b. put_front b.value (read_some most b.rest))

-- The same; or a dash, for none.
abbrev pub read_numbers : ℕ → List ℕ → Read (List ℕ)
read_numbers most bs = either (after (codes " -") bs) (read_some most bs) (λ rest. read [] rest)

-- The line ends here.
abbrev pub ended : {X : Type 0} → Read X → Option (Read X)
ended r = and_then (after (codes "\n") r.rest) (λ rest. Some (read r.value rest))

-- A line of states, after its name.
abbrev pub read_states : List ℕ → List ℕ → Option (Read (List ℕ))
read_states name bs = and_then (after name bs) (λ rest. ended (read_numbers (length rest) rest))

-- The symbols as a word: zeros follow them.
abbrev pub word_of : List ℕ → Word
word_of ss = record { len = length ss; symbols = ss ++ replicate (10 - length ss) 0 }

-- A word of at most ten symbols.
abbrev pub read_word : List ℕ → Option (Read Word)
read_word bs = let ss = read_numbers 10 bs in Some (read (word_of ss.value) ss.rest)

abbrev pub read_after : {X : Type 0} → List ℕ → (List ℕ → Option X) → List ℕ → Option X
read_after name reader bs = and_then (after name bs) reader

-- A line of a row. The place is a number, and may be any.
abbrev pub read_row : List ℕ → Option (Read Row)
read_row bs =
    and_then (read_after (codes "row ") read_number bs) (λ place.
    and_then (read_after (codes " from ") read_byte place.rest) (λ from.
    and_then (read_after (codes " letter ") read_byte from.rest) (λ letter.
    and_then (read_after (codes " to ") read_byte letter.rest) (λ to.
    and_then (read_after (codes " pop") read_word to.rest) (λ popped.
    and_then (read_after (codes " push") read_word popped.rest) (λ pushed.
    ended (read (record {
      from = from.value;
      letter = letter.value;
      to = to.value;
      popped = popped.value;
      pushed = pushed.value;
    }) pushed.rest)))))))

abbrev pub with_row : Row → Result (List Row) ℕ → Result (List Row) ℕ
with_row r (Ok rs) = Ok (r ∷ rs)
with_row r (Err line) = Err line

-- Rows up to the end, at most so many; or the number of the first line that is none.
unfoldable pub read_rows : ℕ → ℕ → List ℕ → Result (List Row) ℕ
read_rows most line [] = Ok []
read_rows zero line (b ∷ bs) = Err line
read_rows (suc most) line (b ∷ bs) =
    either (read_row (b ∷ bs)) (Err line) (λ r. with_row r.value (read_rows most (line + 1) r.rest))

abbrev pub with_rows : List ℕ → List ℕ → Result (List Row) ℕ → Result Lists ℕ
with_rows starts accepts (Ok rs) = Ok (record { starts = starts; accepts = accepts; rows = rs })
with_rows starts accepts (Err line) = Err line

-- The starts, the accepting states and the rows, from the line of that number on.
abbrev pub read_lists : ℕ → List ℕ → Result Lists ℕ
read_lists line bs =
    either (read_states (codes "start") bs) (Err line) (λ starts.
    either (read_states (codes "accept") starts.rest) (Err (line + 1)) (λ accepts.
    with_rows starts.value accepts.value (read_rows (length accepts.rest) (line + 2) accepts.rest)))

-- The bytes past the first line feed.
abbrev pub next_line : List ℕ → List ℕ
next_line [] = []
next_line (b ∷ bs) = cond (b == 10) bs (next_line bs)

-- The lists that a text tells, or the number, from 1, of the first line that cannot be read.
-- A first line of counts is passed over, whatever it says.
abbrev pub read_machine : List ℕ → Result Lists ℕ
read_machine bs = either (after (codes "starts ") bs) (read_lists 1 bs) (λ rest. read_lists 2 (next_line rest))
