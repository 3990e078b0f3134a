-- A node more of a set that trails lead into.
use Rattle.std.proofs.Common.{◌≡◌, ℕ, zero, suc, ◌+◌, ◌<◌, ◌≤◌, Bool, true, false, List, [], ◌∷◌, ◌++◌, length, get_or, sym, refl, ap, subst, inl, inr, arith}
use mathlib.Core.List.{Memᴰ}
use Rattle.std.proofs.lemmas.Bool.{cases_eq, cases_Bool, false≢true, true≢false}
use Rattle.theory.specs.Graph.{Graph, Trail, here, edge, down}
use Rattle.theory.proofs.Trails.{join}
use Rattle.marking.specs.Relations.{Member, Gains, Preorder, Down, zeros}
use Rattle.marking.specs.declared.edges.Edges.{Edges}
use Rattle.marking.specs.Nodes.{Drawn, Joins}
use Rattle.marking.specs.Reach.{Behind, end, along, lower, Rises, BeforeOne, IsBehind}
use Rattle.marking.proofs.Lines.{zeros_lt}

module _ (edges : Edges) where
  pub rises_none : (a : List ℕ) (k : ℕ) → k ≤ edges.nodes.low → Down edges.cells.now edges.nodes.size a → Rises edges a a false k
  rises_none a k h d = record {
    grows = λ z m. m;
    down = d;
    sound = λ g w z m. end m;
    same = λ e. refl;
    fewer = λ e. absurd (false≢true e);
    closed = λ e x lo hi m. absurd (omega arith);
  }

  module _ (a b : List ℕ) (t : Bool) (x : ℕ) (h : Rises edges a b t x) where
    pub rises_skip : (Member b (get_or edges.nodes.nexts.now x 0) → Member b x) → Rises edges a b t (x + 1)
    rises_skip s = record {
      grows = h.grows;
      down = h.down;
      sound = h.sound;
      same = h.same;
      fewer = h.fewer;
      closed = λ e y lo hi m. elim (cases_eq y x) [
        | inl same' ↦ rw same' (s (rw same' at m))
        | inr ne ↦ h.closed e y lo (omega arith) m
      ];
    }

    pub rises_more : (c : List ℕ) → Gains b c (λ z. Joins edges z x) → length c ≡ length b → edges.nodes.low ≤ x → x < edges.nodes.size → length b ≡ edges.nodes.size → Member b (get_or edges.nodes.nexts.now x 0) → get_or b x 0 ≡ 0 → Rises edges a c true (x + 1)
    rises_more c s len lo hi long m off = record {
      grows = λ z k. s.grows z (h.grows z k);
      down = λ u z e k. elim (s.sound z k) [
        | inl o ↦ s.grows u (h.down u z e o)
        | inr o ↦ s.done u (edges.order.transitive u z x e o)
      ];
      sound = λ g w z k. elim (s.sound z k) [
        | inl o ↦ h.sound g w z o
        | inr o ↦
            let next : Behind g (Joins edges) (Member a) (g.next x) = subst (λ y. Behind g (Joins edges) (Member a) y) (w.next x lo hi) (h.sound g w (get_or edges.nodes.nexts.now x 0) m) in
            along o (lower (w.inner_of x lo hi) next)
      ];
      same = λ e. absurd (true≢false e);
      fewer = λ e.
          let less = zeros_lt b c (sym len) s.grows x off (s.done x (edges.order.reflexive x hi)) in
          elim (cases_Bool t) [ inl y ↦ let f = h.fewer y in omega arith | inr f ↦ let q = ap zeros (h.same f) in omega arith ];
      closed = λ e. absurd (true≢false e);
    }

-- the set begun from nothing has what stands before its members
pub accepts_down : (cells : List ℕ) (n : ℕ) (ss : List ℕ) (k : ℕ) (a b : List ℕ) → Preorder cells n → ((i : ℕ) → get_or a i 0 ≡ 0) → Gains a b (BeforeOne cells n ss k) → Down cells n b
accepts_down cells n ss k a b p blank t u z e m = elim (t.sound z m) [
  | inl o ↦ absurd (let q = blank z in omega arith)
  | inr (i, h, o) ↦ t.done u (i, h, p.transitive u z (get_or ss i 0) e o)
]

pub record Risen (edges : Edges) (a b : List ℕ) : Type 0 where
  pub grows : (z : ℕ) → Member a z → Member b z
  pub down : (u z : ℕ) → Joins edges u z → Member b z → Member b u
  pub sound : (g : Graph) → Drawn g edges.nodes → (z : ℕ) → Member b z → Behind g (Joins edges) (Member a) z

behind_from : (g : Graph) {E : ℕ → ℕ → Type 0} {S Q : ℕ → Type 0} → ((z : ℕ) → S z → Behind g E Q z) → {z : ℕ} → Behind g E S z → Behind g E Q z
behind_from g f (end s) = f _ s
behind_from g f (along e b) = along e (behind_from g f b)
behind_from g f (lower i b) = lower i (behind_from g f b)

module _ (edges : Edges) (a : List ℕ) where
  pub risen_none : Down edges.cells.now edges.nodes.size a → Risen edges a a
  risen_none d = record { grows = λ z m. m; down = d; sound = λ g w z m. end m }

  pub risen_more : (b c : List ℕ) (t : Bool) (k : ℕ) → Risen edges a b → Rises edges b c t k → Risen edges a c
  risen_more b c t k h d = record { grows = λ z m. d.grows z (h.grows z m); down = d.down; sound = λ g w z m. behind_from g (h.sound g w) (d.sound g w z m) }

pub mem_at : (ss : List ℕ) (i : ℕ) → i < length ss → Memᴰ (get_or ss i 0) ss
mem_at [] i h = absurd (omega arith)
mem_at (s ∷ ss) zero h = Memᴰ.head refl
mem_at (s ∷ ss) (suc i) h = Memᴰ.tail (mem_at ss i (omega arith))

pub place_of : {x : ℕ} {ss : List ℕ} → Memᴰ x ss → (i : ℕ) × (i < length ss) × (get_or ss i 0 ≡ x)
place_of (Memᴰ.head e) = (0, omega arith, sym e)
place_of (Memᴰ.tail k) = let (i, h, e) = place_of k in (suc i, omega arith, e)

module _ (edges : Edges) (ss blank a b : List ℕ)
    (inside : (i : ℕ) → i < length ss → get_or ss i 0 < edges.nodes.size) (zeros_all : (i : ℕ) → get_or blank i 0 ≡ 0)
    (first : Gains blank a (BeforeOne edges.cells.now edges.nodes.size ss (length ss))) (h : Risen edges a b)
    (closed : (x : ℕ) → edges.nodes.low ≤ x → x < edges.nodes.size → Member b (get_or edges.nodes.nexts.now x 0) → Member b x) where
  begun : (g : Graph) (z : ℕ) → Member a z → Behind g (Joins edges) (λ x. Memᴰ x ss) z
  begun g z m = elim (first.sound z m) [
    | inl o ↦ absurd (let q = zeros_all z in omega arith)
    | inr (i, k, o) ↦ along o (end (mem_at ss i k))
  ]

  into : (g : Graph) → Drawn g edges.nodes → {z : ℕ} → Behind g (Joins edges) (λ x. Memᴰ x ss) z → Member b z
  into g w {z} (end s) =
      let (i, k, e) = place_of s in
      h.grows z (first.done z (i, k, rw e (edges.order.reflexive z (rw e at (inside i k)))))
  into g w (along {x} {y} e p) = h.down x y e (into g w p)
  into g w (lower {x} i p) =
      let (lo, hi) = w.inner_from x i in
      closed x lo hi (rw (w.next x lo hi) (into g w p))

  pub is_behind : IsBehind edges ss b
  is_behind = record { sound = λ g w z m. behind_from g (begun g) (h.sound g w z m); done = λ g w z p. into g w p }

-- The nodes behind are those from which trails lead.
pub behind_trail : (g : Graph) (E : ℕ → ℕ → Type 0) (S : ℕ → Type 0) {x : ℕ} → Behind g E S x → (f : ℕ) × S f × (w : List ℕ) × Trail g E x w f
behind_trail g E S (end {x} s) = (x, s, [], here)
behind_trail g E S (along e b) = let (f, h, w, p) = behind_trail g E S b in (f, h, w ++ [], join (edge here e) p)
behind_trail g E S (lower {x} i b) = let (f, h, w, p) = behind_trail g E S b in (f, h, w ++ (g.label x ∷ []), join (down here i refl) p)

pub trail_behind : (g : Graph) (E : ℕ → ℕ → Type 0) (S : ℕ → Type 0) {x : ℕ} {w : List ℕ} {y : ℕ} → Trail g E x w y → Behind g E S y → Behind g E S x
trail_behind g E S here b = b
trail_behind g E S (edge p e) b = trail_behind g E S p (along e b)
trail_behind g E S (down p i d) b = trail_behind g E S p (lower i b)

pub behind_end : (g : Graph) (E : ℕ → ℕ → Type 0) (S : ℕ → Type 0) {x : ℕ} → S x → Behind g E S x
behind_end g E S h = end h
