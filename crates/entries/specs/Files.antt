-- A file of three sections, one after the other, with nothing behind them.
use Rattle.std.specs.Prelude.{◌≡◌, ℕ, true, cond, ◌↔◌, List, [], ◌++◌, length, is_ok, Ok, Err, Result, ◌==◌}
use Rattle.machine.specs.declared.fault.Fault.{Fault}
use Rattle.machine.specs.declared.fault.Rule.TheVariants.{Rest}
use Rattle.machine.specs.Faults.{fault}
use Rattle.machine.specs.Rows.{is_byte}
use Rattle.machine.specs.Lists.{all}
use Rattle.entries.specs.Sorts.{Sort}
use Rattle.entries.specs.Sections.{and_then, read_section, joined, section_bytes, Lawful}

-- The sort of each section's entries, and how many there may be.
pub record Layout (X Y Z : Type 0) : Type 0 where
  pub first : Sort X
  pub second : Sort Y
  pub third : Sort Z
  pub most_first : ℕ
  pub most_second : ℕ
  pub most_third : ℕ

abbrev pub layout_of : {X Y Z : Type 0} → Sort X → Sort Y → Sort Z → ℕ → ℕ → ℕ → Layout X Y Z
layout_of x y z n m k = record { first = x; second = y; third = z; most_first = n; most_second = m; most_third = k }

-- What the sections hold.
pub record Content (X Y Z : Type 0) : Type 0 where
  pub first : List X
  pub second : List Y
  pub third : List Z

-- What reading bytes gives: the content, or the first fault. Sections are read in turn, and nothing may follow the last.
unfoldable pub read_file : {X Y Z : Type 0} → Layout X Y Z → List ℕ → Result (Content X Y Z) Fault
read_file l bs =
    and_then (read_section l.first 1 l.most_first bs) (λ a.
    and_then (read_section l.second 2 l.most_second a.rest) (λ b.
    and_then (read_section l.third 3 l.most_third b.rest) (λ c.
    cond (length c.rest == 0)
    (Ok (record { first = a.held; second = b.held; third = c.held }))
    (Err (fault Rest 3 (length c.held))))))

-- Content that can stand in a file.
pub record LawfulFile {X Y Z : Type 0} (l : Layout X Y Z) (m : Content X Y Z) : Type 0 where
  pub first : Lawful l.first l.most_first m.first
  pub second : Lawful l.second l.most_second m.second
  pub third : Lawful l.third l.most_third m.third

abbrev pub encode_file : {X Y Z : Type 0} → Layout X Y Z → Content X Y Z → List ℕ
encode_file l m = section_bytes l.first m.first ++ (section_bytes l.second m.second ++ section_bytes l.third m.third)

-- Reading and encoding invert each other.
pub record FileLaws {X Y Z : Type 0} (l : Layout X Y Z) : Type 0 where
  -- bytes read exactly when they are the encoding of lawful content, and then as that content
  pub exactly : (bs : List ℕ) (m : Content X Y Z) → all is_byte bs ≡ true → (read_file l bs ≡ Ok m) ↔ (LawfulFile l m × (bs ≡ encode_file l m))
  -- lawful contents with the same bytes are the same
  pub same : (m n : Content X Y Z) → LawfulFile l m → LawfulFile l n → encode_file l m ≡ encode_file l n → m ≡ n

-- The content that was found; none for bytes that are refused.
abbrev pub found : {X Y Z : Type 0} → Result (Content X Y Z) Fault → Content X Y Z
found (Ok m) = m
found (Err f) = record { first = []; second = []; third = [] }

-- The bytes were read, and these are the bytes of the entries of each section.
pub record Holds {X Y Z : Type 0} (l : Layout X Y Z) (bs first second third : List ℕ) : Type 0 where
  pub reads : is_ok (read_file l bs) ≡ true
  pub first_bytes : first ≡ joined l.first.encode (found (read_file l bs)).first
  pub second_bytes : second ≡ joined l.second.encode (found (read_file l bs)).second
  pub third_bytes : third ≡ joined l.third.encode (found (read_file l bs)).third
