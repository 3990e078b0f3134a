-- A section: a count of two bytes, high byte first, and then that many entries, strictly ascending.
use Rattle.std.specs.Prelude.{◌≡◌, ℕ, zero, suc, ◌+◌, ◌*◌, ◌/◌, ◌%◌, ◌≤◌, Bool, true, cond, List, [], ◌∷◌, ◌++◌, length, drop, Some, None, Ok, Err, Option, Result, nat_lt, slice_index}
use Rattle.std.specs.Ordering.{is_lt}
use Rattle.machine.specs.declared.fault.Fault.{Fault}
use Rattle.machine.specs.declared.fault.Rule.TheVariants.{Short, Order, Limits, Count}
use Rattle.machine.specs.Faults.{fault}
use Rattle.machine.specs.Lists.{all}
use Rattle.entries.specs.Sorts.{Sort}

-- Go on with what came, or keep the fault.
abbrev pub and_then : {A B : Type 0} → Result A Fault → (A → Result B Fault) → Result B Fault
and_then (Ok x) k = k x
and_then (Err f) k = Err f

-- The entry at a place: whole, then within its limits.
abbrev pub read_entry : {X : Type 0} → Sort X → ℕ → ℕ → List ℕ → Result X Fault
read_entry e s p bs =
    cond (nat_lt (length bs) e.wide) (Err (fault Short s p))
    (cond (e.lawful (e.decode bs)) (Ok (e.decode bs)) (Err (fault Limits s p)))

-- The entry may come next: it is above the one before it, if there is one.
abbrev pub follows : {X : Type 0} → Sort X → Option X → X → Bool
follows e None x = true
follows e (Some before) x = is_lt (e.rank before x)

-- n entries from the place p on, after the one before: the bytes past them, or the first fault.
abbrev pub read_entries : {X : Type 0} → Sort X → ℕ → ℕ → Option X → ℕ → List ℕ → Result (List ℕ) Fault
read_entries e s p before zero bs = Ok bs
read_entries e s p before (suc n) bs =
    and_then (read_entry e s p bs) (λ x.
    cond (follows e before x) (read_entries e s (p + 1) (Some x) n (drop e.wide bs)) (Err (fault Order s p)))

-- The first n entries in the bytes.
abbrev pub entries : {X : Type 0} → Sort X → ℕ → List ℕ → List X
entries e zero bs = []
entries e (suc n) bs = e.decode bs ∷ entries e n (drop e.wide bs)

abbrev pub count_of : List ℕ → ℕ
count_of bs = 256 * slice_index bs 0 + slice_index bs 1

abbrev pub read_count : ℕ → ℕ → List ℕ → Result ℕ Fault
read_count s most bs =
    cond (nat_lt (length bs) 2) (Err (fault Short s 0)) (cond (nat_lt most (count_of bs)) (Err (fault Count s 0)) (Ok (count_of bs)))

-- What a section holds, and the bytes past it.
pub record Read (X : Type 0) : Type 0 where
  pub held : List X
  pub rest : List ℕ

abbrev pub holding : {X : Type 0} → Sort X → ℕ → List ℕ → List ℕ → Read X
holding e n bs rest = record { held = entries e n (drop 2 bs); rest = rest }

-- Section number s, of at most so many entries: the count first, then the entries in the order of their places.
abbrev pub read_section : {X : Type 0} → Sort X → ℕ → ℕ → List ℕ → Result (Read X) Fault
read_section e s most bs =
    and_then (read_count s most bs) (λ n.
    and_then (read_entries e s 0 None n (drop 2 bs)) (λ rest.
    Ok (holding e n bs rest)))

-- Each entry is below all that follow it.
abbrev pub BelowAll : {X : Type 0} → Sort X → X → List X → Type 0
BelowAll e x [] = Unit {0}
BelowAll e x (y ∷ ys) = (is_lt (e.rank x y) ≡ true) × BelowAll e x ys

abbrev pub Ascending : {X : Type 0} → Sort X → List X → Type 0
Ascending e [] = Unit {0}
Ascending e (x ∷ xs) = BelowAll e x xs × Ascending e xs

-- What a section may hold: entries within their limits, strictly ascending, at most so many.
pub record Lawful {X : Type 0} (e : Sort X) (most : ℕ) (xs : List X) : Type 0 where
  pub few : length xs ≤ most
  pub limits : all e.lawful xs ≡ true
  pub ascending : Ascending e xs

-- The bytes of a count, and of a section.
abbrev pub count_bytes : ℕ → List ℕ
count_bytes n = n / 256 ∷ n % 256 ∷ []

abbrev pub joined : {X : Type 0} → (X → List ℕ) → List X → List ℕ
joined f [] = []
joined f (x ∷ xs) = f x ++ joined f xs

abbrev pub section_bytes : {X : Type 0} → Sort X → List X → List ℕ
section_bytes e xs = count_bytes (length xs) ++ joined e.encode xs
