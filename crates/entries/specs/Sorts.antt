-- A sort of entries: how its entries are laid out in bytes and ordered, and the laws that every sort obeys.
use Rattle.std.specs.Prelude.{◌≡◌, ℕ, ◌<◌, ◌≤◌, Bool, true, cond, List, [], ◌∷◌, ◌++◌, length, take, Some, None, Option, nat_lt}
use Rattle.std.specs.declared.cmp.Ordering.TheVariants.{Less, Equal, Greater}
use Rattle.std.specs.declared.cmp.Ordering.{Ordering}
use Rattle.std.specs.Ordering.{ordering_reverse, ordering_then}

pub record Sort (X : Type 0) : Type 0 where
  -- the number of bytes of an entry
  pub wide : ℕ
  -- the entry keeps its limits
  pub lawful : X → Bool
  -- the bytes of an entry, and the entry in the first bytes of a list
  pub encode : X → List ℕ
  pub decode : List ℕ → X
  -- the first is below (Less), equal to or above (Greater) the second
  pub rank : X → X → Ordering

pub record Laws {X : Type 0} (e : Sort X) : Type 0 where
  pub nonempty : 0 < e.wide
  -- decoding inverts encoding, and encoding inverts decoding
  pub size : (x : X) → e.lawful x ≡ true → length (e.encode x) ≡ e.wide
  pub decodes : (x : X) (rest : List ℕ) → e.lawful x ≡ true → e.decode (e.encode x ++ rest) ≡ x
  pub encodes : (bs : List ℕ) → e.wide ≤ length bs → e.encode (e.decode bs) ≡ take e.wide bs
  -- an entry is told by its own bytes alone
  pub local : (bs : List ℕ) → e.wide ≤ length bs → e.decode (take e.wide bs) ≡ e.decode bs
  -- the order is total: exactly one of below, equal and above; equal entries are the same, with the same bytes
  pub same : (x y : X) → e.rank x y ≡ Equal → x ≡ y
  pub itself : (x : X) → e.rank x x ≡ Equal
  pub flips : (x y : X) → e.rank y x ≡ ordering_reverse (e.rank x y)
  pub through : (x y z : X) → e.rank x y ≡ Less → e.rank y z ≡ Less → e.rank x z ≡ Less

-- The entry in the first bytes, or none where they end before it is whole.
abbrev pub entry_at : {X : Type 0} → Sort X → List ℕ → Option X
entry_at e bs = cond (nat_lt (length bs) e.wide) None (Some (e.decode bs))

-- The order of two numbers.
abbrev pub numbers : ℕ → ℕ → Ordering
numbers x y = cond (nat_lt x y) Less (cond (nat_lt y x) Greater Equal)

-- The order of two lists of bytes: by the first bytes that differ; a list is below one that it begins.
abbrev pub lexical : List ℕ → List ℕ → Ordering
lexical [] [] = Equal
lexical [] (y ∷ ys) = Less
lexical (x ∷ xs) [] = Greater
lexical (x ∷ xs) (y ∷ ys) = ordering_then (numbers x y) (lexical xs ys)
