-- Sets of nodes and relations between them, as they lie in words: a word above 0 says yes.
use Rattle.std.specs.Prelude.{◌≡◌, ℕ, ◌+◌, ◌*◌, ◌<◌, Bool, true, false, cond, ◌⊎◌, List, [], ◌∷◌, length, ◌==◌, slice_index}

abbrev pub Member : List ℕ → ℕ → Type 0
Member ws z = 0 < slice_index ws z

-- Node x stands in line y of the h lines of n words that ws has.
pub record On (ws : List ℕ) (n h x y : ℕ) : Type 0 where
  pub source : x < n
  pub target : y < h
  pub on : 0 < slice_index ws (y * n + x)

-- The pair (x, y) stands in the n by n matrix ws: line y has the x that stand before y.
abbrev pub Holds : List ℕ → ℕ → ℕ → ℕ → Type 0
Holds ws n x y = On ws n n x y

-- ws' has the pairs of ws and those of R, and no others.
pub record Adds (ws ws' : List ℕ) (n h : ℕ) (R : ℕ → ℕ → Type 0) : Type 0 where
  pub grows : (u v : ℕ) → On ws n h u v → On ws' n h u v
  pub sound : (u v : ℕ) → On ws' n h u v → On ws n h u v ⊎ R u v
  pub done : (u v : ℕ) → u < n → v < h → R u v → On ws' n h u v

-- The set ws' has the members of ws and those of P, and no others.
pub record Gains (ws ws' : List ℕ) (P : ℕ → Type 0) : Type 0 where
  pub grows : (z : ℕ) → Member ws z → Member ws' z
  pub sound : (z : ℕ) → Member ws' z → Member ws z ⊎ P z
  pub done : (z : ℕ) → P z → Member ws' z

-- The set has each node of P; or some node of P is not in it.
abbrev pub HasEach : List ℕ → (ℕ → Type 0) → Type 0
HasEach ws P = (z : ℕ) → P z → Member ws z

abbrev pub Misses : List ℕ → (ℕ → Type 0) → Type 0
Misses ws P = (z : ℕ) × P z × (Member ws z → ⊥)

-- The members of ws are those of P.
pub record Marks (ws : List ℕ) (P : ℕ → Type 0) : Type 0 where
  pub sound : (z : ℕ) → Member ws z → P z
  pub done : (z : ℕ) → P z → Member ws z

-- How many words say no.
abbrev pub zeros : List ℕ → ℕ
zeros [] = 0
zeros (w ∷ ws) = cond (w == 0) 1 0 + zeros ws

-- The nodes below k stand before themselves, and no others before any.
pub record Identity (ws : List ℕ) (n k : ℕ) : Type 0 where
  pub each : (x : ℕ) → x < k → Holds ws n x x
  pub only : (u v : ℕ) → Holds ws n u v → (u ≡ v) × (u < k)

pub record Preorder (ws : List ℕ) (n : ℕ) : Type 0 where
  pub reflexive : (x : ℕ) → x < n → Holds ws n x x
  pub transitive : (x y z : ℕ) → Holds ws n x y → Holds ws n y z → Holds ws n x z

-- The set has whatever stands before one of its members.
abbrev pub Down : List ℕ → ℕ → List ℕ → Type 0
Down ws n set = (u z : ℕ) → Holds ws n u z → Member set z → Member set u

-- Each member of the set stands before y; or some member does not.
abbrev pub AllBefore : List ℕ → ℕ → List ℕ → ℕ → Type 0
AllBefore ws n set y = (u : ℕ) → Member set u → Holds ws n u y

abbrev pub SomeNot : List ℕ → ℕ → List ℕ → ℕ → Type 0
SomeNot ws n set y = (u : ℕ) × Member set u × (Holds ws n u y → ⊥)

-- From a member of the set to whatever f stands before.
abbrev pub Onto : List ℕ → ℕ → List ℕ → ℕ → ℕ → ℕ → Type 0
Onto ws n set f u v = Member set u × Holds ws n f v

-- The set is line y of the h lines of n words that ws has.
pub record IsLine (ws : List ℕ) (n h y : ℕ) (set : List ℕ) : Type 0 where
  pub long : length set ≡ n
  pub on : (z : ℕ) → Member set z → On ws n h z y
  pub off : (z : ℕ) → On ws n h z y → Member set z

-- Some node is in both sets.
abbrev pub Share : List ℕ → List ℕ → Type 0
Share a b = (z : ℕ) × Member a z × Member b z

-- Each node of both sets stands before y; or some node of both does not.
abbrev pub BothBefore : List ℕ → ℕ → List ℕ → List ℕ → ℕ → Type 0
BothBefore ws n a b y = (u : ℕ) → Member a u → Member b u → Holds ws n u y

abbrev pub BothNot : List ℕ → ℕ → List ℕ → List ℕ → ℕ → Type 0
BothNot ws n a b y = (u : ℕ) × Member a u × Member b u × (Holds ws n u y → ⊥)

-- ws' has the pairs of ws and those of R; and whether that changed anything.
pub record Steps (ws ws' : List ℕ) (n : ℕ) (R : ℕ → ℕ → Type 0) (changed : Bool) : Type 0 where
  pub adds : Adds ws ws' n n R
  pub same : changed ≡ false → ws' ≡ ws
  pub fewer : changed ≡ true → zeros ws' < zeros ws

-- Each line of b that has more than it has in a is among the touched ones; where nothing changed, no more are.
pub record Touches (a b : List ℕ) (n : ℕ) (old new : List ℕ) (changed : Bool) : Type 0 where
  pub keeps : (y : ℕ) → Member old y → Member new y
  pub still : (u v : ℕ) → Holds b n u v → Holds a n u v ⊎ Member new v
  pub quiet : changed ≡ false → new ≡ old

-- The set has whatever one of its members stands before.
abbrev pub Up : List ℕ → ℕ → List ℕ → Type 0
Up ws n set = (z u : ℕ) → Holds ws n z u → Member set z → Member set u
