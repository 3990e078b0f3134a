-- What trails say of runs, and which rows, starts and accepting states are useful.
use mathlib.Core.Path.{◌≡◌, refl, sym, ◌∙◌, ap, subst, subst⁻¹, subst₂}
use mathlib.Core.Bool.{true}
use mathlib.Core.Logic.{◌↔◌}
use mathlib.Core.Option.{Option, some, none-ne-some, some-injective}
use mathlib.Core.List.Memᴰ
use mathlib.Core.List.{List, [], ◌∷◌, ◌++◌, append_assoc, append-nil, Memᴰ}
use Prim.Native.Nat.{ℕ, zero, suc, ◌<◌}
use lib.Dec.{T}
use Rattle.machine.specs.declared.row.Row.{Row}
use Rattle.machine.specs.Rows.{pops, pushes}
use Rattle.machine.specs.Lists.{Lists}
use Rattle.machine.specs.Runs.{Among, Runs, stop, step, Reach, Ends, Reachable, UsefulRow, UsefulStart, UsefulAccept}
use Rattle.theory.specs.Graph.{Graph, Trail, here, edge, down, Within, Lean, At, NoEdge, Lawful, Sound, Closed, Accepts, Good, Based, Back}
use Rattle.theory.proofs.Steps.{cut, stays, goes, above, one}
use Rattle.theory.proofs.Trails.{widen, join, within_left, lean_join, split}

pub placed : {r : Row} {rows : List Row} → Memᴰ r rows → (i : ℕ) × At rows i r
placed (Memᴰ.head e) = (zero, ap {B = Option Row} some (sym e))
placed (Memᴰ.tail k) = let p = placed k in (suc p.0, p.1)

pub member : (rows : List Row) (i : ℕ) (r : Row) → At rows i r → Memᴰ r rows
member [] i r e = absurd (none-ne-some r e)
member (x ∷ xs) zero r e = Memᴰ.head (sym (some-injective x r e))
member (x ∷ xs) (suc i) r e = Memᴰ.tail (member xs i r e)

module _ (m : Lists) (g : Graph) (l : Lawful m g) where
  -- a next-edge keeps the configuration
  pub lower : (y : ℕ) → T (g.inner y) → {v w : List ℕ} → v ≡ g.label y ∷ w → (ρ : List ℕ) → l.tail y ++ (w ++ ρ) ≡ l.tail (g.next y) ++ (v ++ ρ)
  lower y i {v} {w} f ρ =
      ap (λ t. t ++ (w ++ ρ)) (l.inner_tail y i) ∙ append_assoc (l.tail (g.next y)) (g.label y ∷ []) (w ++ ρ)
      ∙ ap (λ u. l.tail (g.next y) ++ (u ++ ρ)) (sym f)

  pub level : {x : ℕ} {w : List ℕ} {y : ℕ} → Trail g NoEdge x w y → (ρ : List ℕ) → (l.st x ≡ l.st y) × (l.tail x ++ ρ ≡ l.tail y ++ (w ++ ρ))
  level here ρ = (refl, refl)
  level (edge p e) ρ = absurd e
  level (down {y} p i f) ρ = let h = level p ρ in (h.0 ∙ l.inner_st y i, h.1 ∙ lower y i f ρ)

  pub at_state : (q : ℕ) → q < g.width → (ρ : List ℕ) → Reach m (l.st q) (l.tail q ++ ρ) q ρ
  at_state q h ρ = stays m (l.state_st q h) (ap (λ t. t ++ ρ) (l.state_tail q h))

  pub of_state : (q : ℕ) → q < g.width → (ρ : List ℕ) → Reach m q ρ (l.st q) (l.tail q ++ ρ)
  of_state q h ρ = stays m (sym (l.state_st q h)) (sym (ap (λ t. t ++ ρ) (l.state_tail q h)))

  module _ (E : ℕ → ℕ → Type 0) (sound : Sound m g l E) where
    -- A trail over sound edges is a run, on top of whatever is below.
    pub sound_trail : {x : ℕ} {w : List ℕ} {y : ℕ} → Trail g E x w y → (ρ : List ℕ) → Reach m (l.st x) (l.tail x ++ ρ) (l.st y) (l.tail y ++ (w ++ ρ))
    sound_trail here ρ = stays m refl refl
    sound_trail (edge {w} {y} {z} p e) ρ =
        let h = sound y z e in
        goes m (sound_trail p ρ) (above m (w ++ ρ) h)
    sound_trail (down {y} p i f) ρ = goes m (sound_trail p ρ) (stays m (l.inner_st y i) (lower y i f ρ))

    pub from_start : (s : ℕ) → Memᴰ s m.starts → {ρ : List ℕ} {x : ℕ} → Trail g E s ρ x → Reach m s [] (l.st x) (l.tail x ++ ρ)
    from_start s hs {ρ} {x} p =
        goes m (of_state s (l.starts_fit s hs) []) (goes m (sound_trail p []) (stays m refl (ap (λ u. l.tail x ++ u) (append-nil ρ))))

    pub up_to : (r : Row) → Memᴰ r m.rows → {x : ℕ} → Trail g E x (pops r) r.from → (ρ : List ℕ) → Reach m (l.st x) (l.tail x ++ ρ) r.from (pops r ++ ρ)
    up_to r k p ρ = goes m (sound_trail p ρ) (at_state r.from (l.from_fit r k) (pops r ++ ρ))

    pub earlier : {p q : ℕ} {κ ω : List ℕ} → Reach m p κ q ω → Accepts m q ω → Accepts m p κ
    earlier a b = (b.0, b.1, b.2, goes m a b.3)

    -- On a trail from a start, from whose end the machine goes on to accept, each edge is good.
    pub within_good : (s : ℕ) → Memᴰ s m.starts → {x : ℕ} {ρ : List ℕ} → Trail g E s ρ x → {w : List ℕ} {y : ℕ} (π : Trail g E x w y) → Accepts m (l.st y) (l.tail y ++ (w ++ ρ)) → Within (Good m g l E) π
    within_good s hs p here a = tt
    within_good s hs {ρ} p (edge {w} {y} {z} q e) a =
        let h = sound y z e in
        (within_good s hs p q (earlier (above m (w ++ ρ) h) a), (s, w ++ ρ, hs, join p q, a))
    within_good s hs {ρ} p (down {y} q i f) a = within_good s hs p q (earlier (stays m (l.inner_st y i) (lower y i f ρ)) a)

    pub good_back : Back m g E (Good m g l E)
    good_back i r at x π lean (s, ρ, hs, p, a) =
        let k = member m.rows i r at in
        let e = level (l.walk i r at) ρ in
        let f = of_state r.to (l.to_fit r k) (pushes r ++ ρ) in
        let b = earlier (goes m f (stays m (sym e.0) (sym e.1))) a in
        within_good s hs p π (earlier (goes m (at_state r.from (l.from_fit r k) (pops r ++ ρ)) (one m r ρ k)) b)

    pub good_based : Based m g E (Good m g l E)
    good_based s f w hs hf π = within_good s hs here π (f, w ++ [], hf, at_state f (l.accepts_fit f hf) (w ++ []))

  -- The edges that the machine itself can run are sound and closed, so that there are such edges.
  pub own_closed : Closed m g (λ x y. Reach m (l.st x) (l.tail x) (l.st y) (l.tail y))
  own_closed i r at x o lean =
      let E : ℕ → ℕ → Type 0 = λ x y. Reach m (l.st x) (l.tail x) (l.st y) (l.tail y) in
      let k = member m.rows i r at in
      let e = level (l.walk i r at) [] in
      let a = goes m (up_to E (λ x y h. h) r k o []) (one m r [] k) in
      let b = goes m a (of_state r.to (l.to_fit r k) (pushes r ++ [])) in
      goes m (stays m refl (sym (append-nil (l.tail x)))) (goes m b (stays m (sym e.0) (sym e.1 ∙ append-nil (l.tail (g.first i)))))

  module _ (E : ℕ → ℕ → Type 0) (closed : Closed m g E) where
    -- A trail to where row r begins, which reads what r pops, gives one that reads what r pushes.
    pub record Pass (G : ℕ → ℕ → Type 0) (s : ℕ) (κ : List ℕ) (p : ℕ) (π : Trail g E s κ p) (i : ℕ) (r : Row) (ρ : List ℕ) : Type 0 where
      pub node : ℕ
      pub rest : List ℕ
      pub same : rest ≡ ρ
      pub below : Trail g E s rest node
      pub over : Trail g E node (pops r) r.from
      pub over_lean : Lean over true
      pub new : Trail g E s (pushes r ++ rest) r.to
      pub new_lean : Lean new true
      pub has : Within G new → G node (g.first i)
      pub back : Back m g E G → Within G new → Within G π

    pub pass : (G : ℕ → ℕ → Type 0) {s : ℕ} {κ : List ℕ} {p : ℕ} (π : Trail g E s κ p) → Lean π true → (i : ℕ) (r : Row) → At m.rows i r → p ≡ r.from → (ρ : List ℕ) → κ ≡ pops r ++ ρ → Pass G s κ p π i r ρ
    pass G {s} {κ} {p} π lean i r at e ρ f =
        let q = split G π (pops r) ρ f in
        let x : ℕ = q.middle in
        let k = q.lean true lean in
        let o : (π : Trail g E x (pops r) r.from) × Lean π true = subst (λ z. (π : Trail g E x (pops r) z) × Lean π true) e (q.over, k.1) in
        let n : Trail g E s q.rest (g.first i) = edge q.below (closed i r at x o.0 o.1) in
        let v : Trail g E (g.first i) (pushes r) r.to = widen (l.walk i r at) in
        record {
          node = x;
          rest = q.rest;
          same = q.same;
          below = q.below;
          over = o.0;
          over_lean = o.1;
          new = join n v;
          new_lean = lean_join n (l.walk i r at) k.0;
          has = λ h. (within_left G n v h).1;
          back = λ b h.
              let u = within_left G n v h in
              q.back u.0 (subst⁻¹ (λ z. (τ : Trail g E x (pops r) z) → Lean τ true → Within G τ) e (λ τ h. b i r at x τ h u.1) q.over k.1);
        }

    -- Over closed edges, where a lean trail stands for a stack, one stands for the stack of each run from there.
    pub follow : {s : ℕ} {κ κ' : List ℕ} {p : ℕ} (π : Trail g E s κ' p) → Lean π true → κ' ≡ κ → {rs : List Row} → Among rs m.rows → {q : ℕ} {ω : List ℕ} → Runs p κ rs q ω → (τ : Trail g E s ω q) × Lean τ true
    follow {s} π lean d a (stop e f) = subst₂ (λ w y. (τ : Trail g E s w y) × Lean τ true) (d ∙ f) e (π, lean)
    follow π lean d a (step {r} ρ e f t) =
        let k = placed (a r (Memᴰ.head refl)) in
        let c = pass NoEdge π lean k.0 r k.1 e ρ (d ∙ f) in
        follow c.new c.new_lean (ap (λ w. pushes r ++ w) c.same) (λ u h. a u (Memᴰ.tail h)) t

    pub complete : {s q : ℕ} {ω : List ℕ} → Reach m s [] q ω → (τ : Trail g E s ω q) × Lean τ true
    complete h = follow here tt refl h.1 h.2

    module _ (G : ℕ → ℕ → Type 0) (based : Based m g E G) (back : Back m g E G) where
      -- Each edge is in G on a lean trail from a start that stands for a stack from which the machine goes on to accept.
      pub needed : (s : ℕ) → Memᴰ s m.starts → {κ κ' : List ℕ} {q : ℕ} (π : Trail g E s κ' q) → Lean π true → κ' ≡ κ → {rs : List Row} → Among rs m.rows → {f : ℕ} {ω : List ℕ} → Memᴰ f m.accepts → Runs q κ rs f ω → Within G π
      needed s hs {κ'} π lean d a {f} hf (stop e j) = subst⁻¹ (λ z. (τ : Trail g E s κ' z) → Within G τ) e (based s f κ' hs hf) π
      needed s hs π lean d a hf (step {r} ρ e j t) =
          let k = placed (a r (Memᴰ.head refl)) in
          let c = pass G π lean k.0 r k.1 e ρ (d ∙ j) in
          c.back back (needed s hs c.new c.new_lean (ap (λ w. pushes r ++ w) c.same) (λ u h. a u (Memᴰ.tail h)) hf t)

    module _ (sound : Sound m g l E) where
      -- A row is reachable where a trail from a start leads to a lean one that reads what the row pops, and only there.
      pub reachable : (r : Row) → Memᴰ r m.rows → Reachable m r ↔ ((s : ℕ) × Memᴰ s m.starts × (ρ : List ℕ) × (x : ℕ) × Trail g E s ρ x × (π : Trail g E x (pops r) r.from) × Lean π true)
      reachable r k = (
        λ (s, hs, rs, a, (q, ω, t), j).
            let c = cut j t in
            let π = complete (c.before, λ u h. a u (c.before_in u h), c.first) in
            let i = placed k in
            let d = pass NoEdge π.0 π.1 i.0 r i.1 refl c.rest refl in
            (s, hs, d.rest, d.node, d.below, d.over, d.over_lean),
        λ (s, hs, ρ, x, p, o, lean).
            let a = goes m (from_start E sound s hs p) (up_to E sound r k o ρ) in
            let b = goes m a (one m r ρ k) in
            (s, hs, b.0, b.1, (r.to, pushes r ++ ρ, b.2), Memᴰ.append_right a.0 (Memᴰ.head refl)),
      )

      ended : (s : ℕ) → Memᴰ s m.starts → (f : ℕ) → Memᴰ f m.accepts → {ω : List ℕ} (a : Reach m s [] f ω) → Ends m s a.0 f
      ended s hs f hf {ω} a = record { start = hs; taken = a.1; stack = ω; run = a.2; final = hf }

      trail_run : (s : ℕ) → Memᴰ s m.starts → (f : ℕ) → Memᴰ f m.accepts → {w : List ℕ} → Trail g E s w f → (rs : List Row) × Ends m s rs f
      trail_run s hs f hf {w} p =
          let a = goes m (from_start E sound s hs p) (at_state f (l.accepts_fit f hf) w) in
          (a.0, ended s hs f hf a)

      -- A start, and an accepting state, is useful where a trail leads from the one to the other, and only there.
      pub useful_start : (s : ℕ) → UsefulStart m s ↔ (Memᴰ s m.starts × (f : ℕ) × Memᴰ f m.accepts × (w : List ℕ) × Trail g E s w f)
      useful_start s = (
        λ (rs, f, e). (e.start, f, e.final, e.stack, (complete (rs, e.taken, e.run)).0),
        λ (hs, f, hf, w, p). let a = trail_run s hs f hf p in (a.0, f, a.1),
      )

      pub useful_accept : (f : ℕ) → UsefulAccept m f ↔ (Memᴰ f m.accepts × (s : ℕ) × Memᴰ s m.starts × (w : List ℕ) × Trail g E s w f)
      useful_accept f = (
        λ (s, rs, e). (e.final, s, e.start, e.stack, (complete (rs, e.taken, e.run)).0),
        λ (hf, s, hs, w, p). let a = trail_run s hs f hf p in (s, a.0, a.1),
      )

      -- A row is useful where a lean trail reads what it pops and G has the edge to what it pushes, and only there.
      pub useful_row : (G : ℕ → ℕ → Type 0) → Based m g E G → Back m g E G → ((x y : ℕ) → G x y → Good m g l E x y) → (i : ℕ) (r : Row) → At m.rows i r → UsefulRow m r ↔ ((x : ℕ) × (π : Trail g E x (pops r) r.from) × Lean π true × G x (g.first i))
      useful_row G based back good i r at = (
        λ (s, rs, f, e, k).
            let c = cut k e.run in
            let π = complete (c.before, λ u h. e.taken u (c.before_in u h), c.first) in
            let d = pass G π.0 π.1 i r at refl c.rest refl in
            let t = ap (λ w. pushes r ++ w) d.same in
            let h = needed G based back s e.start d.new d.new_lean t (λ u j. e.taken u (c.after_in u j)) e.final c.last in
            (d.node, d.over, d.over_lean, d.has h),
        λ (x, o, lean, h).
            let (s, ρ, hs, p, (f, ω, hf, b)) = good x (g.first i) h in
            let k = member m.rows i r at in
            let e = level (l.walk i r at) ρ in
            let a = goes m (from_start E sound s hs p) (up_to E sound r k o ρ) in
            let d = goes m (of_state r.to (l.to_fit r k) (pushes r ++ ρ)) (goes m (stays m (sym e.0) (sym e.1)) b) in
            let c = goes m (goes m a (one m r ρ k)) d in
            (s, c.0, f, ended s hs f hf c, Memᴰ.append_left d.0 (Memᴰ.append_right a.0 (Memᴰ.head refl))),
      )
