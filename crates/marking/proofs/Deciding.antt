-- Complete relations and sets decide which rows, starts and accepting states are reachable and useful.
use Rattle.std.proofs.Common.{◌≡◌, ℕ, zero, suc, ◌<◌, true, T, List, [], ◌∷◌, ◌++◌, length, get_or, sym, refl, ap, subst, arith}
use mathlib.Core.List.{Memᴰ}
use Rattle.std.proofs.lemmas.List.{take_all}
use Rattle.machine.specs.declared.row.Row.{Row}
use Rattle.machine.specs.Rows.{zero_row, pops}
use Rattle.machine.specs.Lists.{Lists}
use Rattle.theory.specs.Graph.{Graph, Trail, here, edge, down, Within, Lean, At, Lawful, Sound, Closed, Accepts, Good, Back}
use Rattle.theory.specs.Graph as graph
use Rattle.theory.proofs.Steps.{stays, goes}
use Rattle.theory.proofs.Useful.{member, sound_trail, at_state, reachable, useful_start, useful_accept, useful_row}
use Rattle.marking.specs.Relations.{Holds, Identity}
use Rattle.marking.specs.declared.edges.Edges.{Edges}
use Rattle.marking.specs.Nodes.{Joins, Level}
use Rattle.marking.specs.Reach.{Behind, IsAhead, IsBehind}
use Rattle.marking.specs.Marks.{row_at}
use Rattle.marking.specs.Ways.{OnWay}
use Rattle.marking.specs.Rounds.{Draws, Saturated, BackSaturated, Based}
use Rattle.marking.specs.Solving.{Solved}
use Rattle.marking.proofs.Trails.{level_trail, trail_level, trail_ways}
use Rattle.marking.proofs.Rounding.{row_stands}
use Rattle.marking.proofs.Reaching.{behind_trail, trail_behind, behind_end}
use Rattle.marking.proofs.Sinking.{ahead_trail, trail_ahead}

-- a row of the machine stands at some place
place_of_row : (m : Lists) (i : ℕ) (r : Row) → At m.rows i r → (i < length m.rows) × (row_at m i ≡ r)
place_of_row m i r at = at_place m.rows i r at
  where
    at_place : (rows : List Row) (i : ℕ) (r : Row) → At rows i r → (i < length rows) × (get_or rows i zero_row ≡ r)
    at_place [] i r e = absurd (let z : ◌≡◌ {A = ℕ} 0 1 = cc in omega arith)
    at_place (x ∷ xs) zero r e = (omega arith, cc)
    at_place (x ∷ xs) (suc i) r e = let p = at_place xs i r e in (omega (arith, p.0), p.1)

module _ (m : Lists) (edges : Edges) (firsts base good ahead behind one : List ℕ) (g : Graph) (d : Draws m edges.nodes firsts g)
    (first : Identity one edges.nodes.size edges.nodes.size) (s : Saturated m edges.nodes firsts one edges.cells.now)
    (a : IsAhead edges m.starts ahead) (b : IsBehind edges m.accepts behind)
    (begun : Based edges.cells.now base edges.nodes.size ahead behind) (k : BackSaturated m edges firsts base good)
    (from_in : (i : ℕ) → i < length m.rows → (row_at m i).from < edges.nodes.size) where
  abbrev l : Lawful m g
  l = d.lawful

  abbrev E : ℕ → ℕ → Type 0
  E = Joins edges

  abbrev C : ℕ → ℕ → Type 0
  C = Holds good edges.nodes.size

  abbrev Start : ℕ → Type 0
  Start x = Memᴰ x m.starts

  abbrev Accept : ℕ → Type 0
  Accept x = Memᴰ x m.accepts

  sound : Sound m g l E
  sound = s.sound g d (λ u v h. let e = (first.only u v h).0 in stays m (ap l.st e) (ap l.tail e))

  loops : (z : ℕ) → T (g.inner z) → E z z
  loops z i = edges.order.reflexive z (d.drawn.inner_from z i).1

  -- a lean trail for a level, and back
  trail_of : (r : Row) (x : ℕ) → Level g E (pops r) r.from (length (pops r)) x → (π : Trail g E x (pops r) r.from) × Lean π true
  trail_of r x v = subst (λ w. (π : Trail g E x w r.from) × Lean π true) (take_all (length (pops r)) (pops r) (omega arith)) (level_trail g E (pops r) r.from v)

  level_of : (i : ℕ) (r : Row) → At m.rows i r → (x : ℕ) (π : Trail g E x (pops r) r.from) → Lean π true → Level g E (pops r) r.from (length (pops r)) x
  level_of i r at x π h =
      let (lt, e) = place_of_row m i r at in
      trail_level g E (pops r) r.from loops (edges.order.reflexive r.from (subst (λ (q : Row). q.from < edges.nodes.size) e (from_in i lt))) π h

  closed : Closed m g E
  closed i r at x π h =
      let (lt, e) = place_of_row m i r at in
      let o = s.obeyed g d.drawn i x lt (subst (λ q. Level g E (pops q) q.from (length (pops q)) x) (sym e) (level_of i r at x π h)) in
      subst (λ f. E x f) (d.first i lt) o

  -- the first good edges are good, and so are all
  base_good : (u v : ℕ) → Holds base edges.nodes.size u v → Good m g l E u v
  base_good u v h =
      let t = begun.only u v h in
      let (x, hx, ρ, p) = ahead_trail g E Start (a.sound g d.drawn u t.source) in
      let (f, hf, w, q) = behind_trail g E Accept (b.sound g d.drawn v t.target) in
      (x, ρ, hx, p, (f, w ++ ρ, hf, goes m (sound_trail m g l E sound q ρ) (at_state m g l f (l.accepts_fit f hf) (w ++ ρ))))

  all_good : (u v : ℕ) → C u v → Good m g l E u v
  all_good = k.sound g d sound base_good

  based_on : (x : ℕ) → Start x → {w : List ℕ} {y : ℕ} (π : Trail g E x w y) → Behind g E Accept y → Within C π
  based_on x hx here q = tt
  based_on x hx (edge {y} {z} p e) q = (
    based_on x hx p (trail_behind g E Accept (edge here e) q),
    k.grows y z (begun.each y z (record { edge = e; source = a.done g d.drawn y (trail_ahead g E Start hx p); target = b.done g d.drawn z q })),
  )
  based_on x hx (down p i f) q = based_on x hx p (trail_behind g E Accept (down here i refl) q)

  all_based : graph.Based m g E C
  all_based x f w hx hf π = based_on x hx π (behind_end g E Accept hf)

  abbrev OnRow : Row → ℕ → ℕ → ℕ → Type 0
  OnRow q f = OnWay g E C (pops q) q.from f

  back : Back m g E C
  back i r at x π h t =
      let (lt, e) = place_of_row m i r at in
      let own = edges.order.reflexive r.from (subst (λ (q : Row). q.from < edges.nodes.size) e (from_in i lt)) in
      trail_ways g E (pops r) r.from loops C (g.first i)
      (λ u v o. subst (λ (q : Row). OnRow q (g.first i) u v → C u v) e (subst (λ f. OnRow (row_at m i) f u v → C u v) (d.first i lt) (k.walked g d.drawn i lt u v)) o)
      own π h t

  pub solved : Solved m g edges.nodes.size firsts edges.cells.now good ahead behind
  solved = record {
    useful = λ i lt.
        let r : Row = row_at m i in
        let at = row_stands m.rows i lt in
        let u = useful_row m g l E closed sound C all_based back all_good i r at in (
          λ h. let (x, π, lean, c) = u.0 h in (x, level_of i r at x π lean, subst (λ f. C x f) (sym (d.first i lt)) c),
          λ (x, v, c). let p = trail_of r x v in u.1 (x, p.0, p.1, subst (λ f. C x f) (d.first i lt) c),
        );
    reachable = λ i lt.
        let r : Row = row_at m i in
        let at = row_stands m.rows i lt in
        let u = reachable m g l E closed sound r (member m.rows i r at) in (
          λ h. let (q, hq, ρ, x, p, π, lean) = u.0 h in (x, level_of i r at x π lean, a.done g d.drawn x (trail_ahead g E Start hq p)),
          λ (x, v, t). let (q, hq, ρ, p) = ahead_trail g E Start (a.sound g d.drawn x t) in let π = trail_of r x v in u.1 (q, hq, ρ, x, p, π.0, π.1),
        );
    start = λ x.
        let u = useful_start m g l E closed sound x in (
          λ h. let (hx, f, hf, w, p) = u.0 h in (hx, b.done g d.drawn x (trail_behind g E Accept p (behind_end g E Accept hf))),
          λ (hx, t). let (f, hf, w, p) = behind_trail g E Accept (b.sound g d.drawn x t) in u.1 (hx, f, hf, w, p),
        );
    accept = λ f.
        let u = useful_accept m g l E closed sound f in (
          λ h. let (hf, q, hq, w, p) = u.0 h in (hf, a.done g d.drawn f (trail_ahead g E Start hq p)),
          λ (hf, t). let (q, hq, w, p) = ahead_trail g E Start (a.sound g d.drawn f t) in u.1 (hf, q, hq, w, p),
        );
  }
