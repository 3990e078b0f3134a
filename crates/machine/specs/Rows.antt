-- Words and rows, and the limits that they keep.
use Rattle.std.specs.Prelude.{ℕ, zero, suc, Bool, true, false, ◌&&◌, List, [], ◌∷◌, length, take, replicate, ◌==◌, nat_lt}
use Rattle.machine.specs.declared.row.Word.{Word}
use Rattle.machine.specs.declared.row.Row.{Row}

-- A state and a letter are 0 to 255.
abbrev pub is_byte : ℕ → Bool
is_byte b = nat_lt b 256

-- A stack symbol is 1 to 255.
abbrev pub is_symbol : ℕ → Bool
is_symbol b = nat_lt 0 b && is_byte b

-- The first n bytes are symbols, the others are 0, and there are at least n.
abbrev pub padded : ℕ → List ℕ → Bool
padded zero [] = true
padded (suc n) [] = false
padded zero (b ∷ bs) = b == 0 && padded zero bs
padded (suc n) (b ∷ bs) = is_symbol b && padded n bs

abbrev pub lawful_word : Word → Bool
lawful_word w = length w.symbols == 10 && padded w.len w.symbols

abbrev pub lawful_row : Row → Bool
lawful_row r =
    is_byte r.from && (is_byte r.letter && (is_byte r.to && (lawful_word r.popped && lawful_word r.pushed)))

-- The symbols of a word, the first nearest the top.
abbrev pub symbols_of : Word → List ℕ
symbols_of w = take w.len w.symbols

-- What a row takes from the top of the stack, and what it puts there.
abbrev pub pops : Row → List ℕ
pops r = symbols_of r.popped

abbrev pub pushes : Row → List ℕ
pushes r = symbols_of r.pushed

abbrev pub empty_word : Word
empty_word = record { len = 0; symbols = replicate 10 0 }

-- The answer for a place where no row stands.
abbrev pub zero_row : Row
zero_row = record { from = 0; letter = 0; to = 0; popped = empty_word; pushed = empty_word }
