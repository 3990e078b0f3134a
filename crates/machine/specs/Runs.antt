-- What a run of a machine is, and which rows, starts and accepting states some accepting run uses.
use Rattle.std.specs.Prelude.{◌≡◌, ℕ, ◌↔◌, List, [], ◌∷◌, ◌++◌}
use mathlib.Core.List.{Memᴰ}
use Rattle.machine.specs.declared.row.Row.{Row}
use Rattle.machine.specs.Rows.{pops, pushes}
use Rattle.machine.specs.Lists.{Lists}

-- Each member of the first list is a member of the second.
abbrev pub Among : {A : Type 0} → List A → List A → Type 0
Among {A} xs ys = (x : A) → Memᴰ x xs → Memᴰ x ys

-- The rows, one after the other, lead from the state p with the stack κ to the state q with the stack ω.
-- A row applies where the state is its from state and the stack begins with what it pops; whatever is below, ρ, stays.
pub data Runs : ℕ → List ℕ → List Row → ℕ → List ℕ → Type 0 where
  stop : {p q : ℕ} {κ ω : List ℕ} → p ≡ q → κ ≡ ω → Runs p κ [] q ω
  step : {p q : ℕ} {κ ω : List ℕ} {r : Row} {rs : List Row} (ρ : List ℕ)
      → p ≡ r.from → κ ≡ pops r ++ ρ → Runs r.to (pushes r ++ ρ) rs q ω → Runs p κ (r ∷ rs) q ω

-- Some rows of the machine lead there.
abbrev pub Reach : Lists → ℕ → List ℕ → ℕ → List ℕ → Type 0
Reach m p κ q ω = (rs : List Row) × Among rs m.rows × Runs p κ rs q ω

-- The start s and the rows rs are an accepting run of m: it begins with an empty stack and ends in the accepting state f, with any stack.
pub record Ends (m : Lists) (s : ℕ) (rs : List Row) (f : ℕ) : Type 0 where
  pub start : Memᴰ s m.starts
  pub taken : Among rs m.rows
  pub stack : List ℕ
  pub run : Runs s [] rs f stack
  pub final : Memᴰ f m.accepts

abbrev pub Accepting : Lists → ℕ → List Row → Type 0
Accepting m s rs = (f : ℕ) × Ends m s rs f

-- Some run takes the row.
abbrev pub Reachable : Lists → Row → Type 0
Reachable m r =
    (s : ℕ) × Memᴰ s m.starts × (rs : List Row) × Among rs m.rows
    × ((q : ℕ) × (ω : List ℕ) × Runs s [] rs q ω) × Memᴰ r rs

-- Some accepting run takes the row, begins with the start, ends in the accepting state.
abbrev pub UsefulRow : Lists → Row → Type 0
UsefulRow m r = (s : ℕ) × (rs : List Row) × (f : ℕ) × Ends m s rs f × Memᴰ r rs

abbrev pub UsefulStart : Lists → ℕ → Type 0
UsefulStart m s = (rs : List Row) × (f : ℕ) × Ends m s rs f

abbrev pub UsefulAccept : Lists → ℕ → Type 0
UsefulAccept m f = (s : ℕ) × (rs : List Row) × Ends m s rs f

-- Each accepting run of either machine is one of the other.
abbrev pub SameRuns : Lists → Lists → Type 0
SameRuns m n = (s : ℕ) (rs : List Row) → Accepting m s rs ↔ Accepting n s rs
