-- A node more of a set that trails lead to.
use Rattle.std.proofs.Common.{◌≡◌, ℕ, ◌+◌, ◌<◌, ◌≤◌, Bool, true, false, List, [], ◌∷◌, length, get_or, sym, refl, ap, subst, inl, inr, arith}
use mathlib.Core.List.{Memᴰ}
use Rattle.std.proofs.lemmas.Bool.{cases_eq, cases_Bool, false≢true, true≢false}
use Rattle.theory.specs.Graph.{Graph, Trail, here, edge, down}
use Rattle.marking.specs.Relations.{Member, Gains, Preorder, Up, zeros}
use Rattle.marking.specs.declared.edges.Edges.{Edges}
use Rattle.marking.specs.Nodes.{Drawn, Joins}
use Rattle.marking.specs.Reach.{Ahead, begin, along, lower, Sinks, AfterOne, IsAhead}
use Rattle.marking.proofs.Lines.{zeros_lt}
use Rattle.marking.proofs.Reaching.{mem_at, place_of}

module _ (edges : Edges) where
  pub sinks_none : (a : List ℕ) (k : ℕ) → k ≤ edges.nodes.low → Up edges.cells.now edges.nodes.size a → Sinks edges a a false k
  sinks_none a k h d = record {
    grows = λ z m. m;
    up = d;
    sound = λ g w z m. begin m;
    same = λ e. refl;
    fewer = λ e. absurd (false≢true e);
    closed = λ e x lo hi m. absurd (omega arith);
  }

  module _ (a b : List ℕ) (t : Bool) (x : ℕ) (h : Sinks edges a b t x) where
    pub sinks_skip : (Member b x → Member b (get_or edges.nodes.nexts.now x 0)) → Sinks edges a b t (x + 1)
    sinks_skip s = record {
      grows = h.grows;
      up = h.up;
      sound = h.sound;
      same = h.same;
      fewer = h.fewer;
      closed = λ e y lo hi m. elim (cases_eq y x) [
        | inl same' ↦ rw same' (s (rw same' at m))
        | inr ne ↦ h.closed e y lo (omega arith) m
      ];
    }

    pub sinks_more : (c : List ℕ) → Gains b c (λ z. Joins edges (get_or edges.nodes.nexts.now x 0) z) → length c ≡ length b → edges.nodes.low ≤ x → x < edges.nodes.size → get_or edges.nodes.nexts.now x 0 < edges.nodes.size → Member b x → get_or b (get_or edges.nodes.nexts.now x 0) 0 ≡ 0 → Sinks edges a c true (x + 1)
    sinks_more c s len lo hi to m off = record {
      grows = λ z k. s.grows z (h.grows z k);
      up = λ z u e k. elim (s.sound z k) [
        | inl o ↦ s.grows u (h.up z u e o)
        | inr o ↦ s.done u (edges.order.transitive (get_or edges.nodes.nexts.now x 0) z u o e)
      ];
      sound = λ g w z k. elim (s.sound z k) [
        | inl o ↦ h.sound g w z o
        | inr o ↦
            let next : Ahead g (Joins edges) (Member a) (get_or edges.nodes.nexts.now x 0) = subst (λ y. Ahead g (Joins edges) (Member a) y) (sym (w.next x lo hi)) (lower (h.sound g w x m) (w.inner_of x lo hi)) in
            along next o
      ];
      same = λ e. absurd (true≢false e);
      fewer = λ e.
          let less = zeros_lt b c (sym len) s.grows (get_or edges.nodes.nexts.now x 0) off (s.done (get_or edges.nodes.nexts.now x 0) (edges.order.reflexive (get_or edges.nodes.nexts.now x 0) to)) in
          elim (cases_Bool t) [ inl y ↦ let f = h.fewer y in omega arith | inr f ↦ let q = ap zeros (h.same f) in omega arith ];
      closed = λ e. absurd (true≢false e);
    }

-- the set begun from nothing has what its members stand before
pub starts_up : (cells : List ℕ) (n : ℕ) (ss : List ℕ) (k : ℕ) (a b : List ℕ) → Preorder cells n → ((i : ℕ) → get_or a i 0 ≡ 0) → Gains a b (AfterOne cells n ss k) → Up cells n b
starts_up cells n ss k a b p blank t z u e m = elim (t.sound z m) [
  | inl o ↦ absurd (let q = blank z in omega arith)
  | inr (i, h, o) ↦ t.done u (i, h, p.transitive (get_or ss i 0) z u o e)
]

pub record Sunk (edges : Edges) (a b : List ℕ) : Type 0 where
  pub grows : (z : ℕ) → Member a z → Member b z
  pub up : (z u : ℕ) → Joins edges z u → Member b z → Member b u
  pub sound : (g : Graph) → Drawn g edges.nodes → (z : ℕ) → Member b z → Ahead g (Joins edges) (Member a) z

ahead_from : (g : Graph) {E : ℕ → ℕ → Type 0} {S Q : ℕ → Type 0} → ((z : ℕ) → S z → Ahead g E Q z) → {z : ℕ} → Ahead g E S z → Ahead g E Q z
ahead_from g f (begin s) = f _ s
ahead_from g f (along p e) = along (ahead_from g f p) e
ahead_from g f (lower p i) = lower (ahead_from g f p) i

module _ (edges : Edges) (a : List ℕ) where
  pub sunk_none : Up edges.cells.now edges.nodes.size a → Sunk edges a a
  sunk_none d = record { grows = λ z m. m; up = d; sound = λ g w z m. begin m }

  pub sunk_more : (b c : List ℕ) (t : Bool) (k : ℕ) → Sunk edges a b → Sinks edges b c t k → Sunk edges a c
  sunk_more b c t k h d = record { grows = λ z m. d.grows z (h.grows z m); up = d.up; sound = λ g w z m. ahead_from g (h.sound g w) (d.sound g w z m) }

module _ (edges : Edges) (ss blank a b : List ℕ)
    (inside : (i : ℕ) → i < length ss → get_or ss i 0 < edges.nodes.size) (zeros_all : (i : ℕ) → get_or blank i 0 ≡ 0)
    (first : Gains blank a (AfterOne edges.cells.now edges.nodes.size ss (length ss))) (h : Sunk edges a b)
    (closed : (x : ℕ) → edges.nodes.low ≤ x → x < edges.nodes.size → Member b x → Member b (get_or edges.nodes.nexts.now x 0)) where
  begun : (g : Graph) (z : ℕ) → Member a z → Ahead g (Joins edges) (λ x. Memᴰ x ss) z
  begun g z m = elim (first.sound z m) [
    | inl o ↦ absurd (let q = zeros_all z in omega arith)
    | inr (i, k, o) ↦ along (begin (mem_at ss i k)) o
  ]

  into : (g : Graph) → Drawn g edges.nodes → {z : ℕ} → Ahead g (Joins edges) (λ x. Memᴰ x ss) z → Member b z
  into g w {z} (begin s) =
      let (i, k, e) = place_of s in
      h.grows z (first.done z (i, k, rw e (edges.order.reflexive z (rw e at (inside i k)))))
  into g w (along {x} {y} p e) = h.up x y e (into g w p)
  into g w (lower {x} p i) =
      let (lo, hi) = w.inner_from x i in
      rw (w.next x lo hi) at (closed x lo hi (into g w p))

  pub is_ahead : IsAhead edges ss b
  is_ahead = record { sound = λ g w z m. ahead_from g (begun g) (h.sound g w z m); done = λ g w z p. into g w p }

-- The nodes ahead are those to which trails lead.
pub ahead_trail : (g : Graph) (E : ℕ → ℕ → Type 0) (S : ℕ → Type 0) {x : ℕ} → Ahead g E S x → (s : ℕ) × S s × (w : List ℕ) × Trail g E s w x
ahead_trail g E S (begin {x} s) = (x, s, [], here)
ahead_trail g E S (along a e) = let (s, h, w, p) = ahead_trail g E S a in (s, h, w, edge p e)
ahead_trail g E S (lower {x} a i) = let (s, h, w, p) = ahead_trail g E S a in (s, h, g.label x ∷ w, down p i refl)

pub trail_ahead : (g : Graph) (E : ℕ → ℕ → Type 0) (S : ℕ → Type 0) {s : ℕ} → S s → {w : List ℕ} {x : ℕ} → Trail g E s w x → Ahead g E S x
trail_ahead g E S h here = begin h
trail_ahead g E S h (edge p e) = along (trail_ahead g E S h p) e
trail_ahead g E S h (down p i d) = lower (trail_ahead g E S h p) i
