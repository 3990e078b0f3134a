-- A level from the one before, node by node.
use Rattle.std.proofs.Common.{◌≡◌, ℕ, ◌+◌, ◌<◌, ◌≤◌, List, get_or, inl, inr, ⊎_elim, arith}
use Rattle.std.proofs.lemmas.Bool.{cases_eq}
use Rattle.marking.specs.declared.edges.Edges.{Edges}
use Rattle.marking.specs.Relations.{Adds}
use Rattle.marking.specs.Nodes.{Joins, GoesOn, Leads}
use Rattle.marking.proofs.Cells.{adds_then, adds_as}

module _ (edges : Edges) (label : ℕ) (a b : List ℕ) (j x : ℕ)
    (t : Adds a b edges.nodes.size 11 (λ u v. (v ≡ j + 1) × Leads edges label a j x u)) where
  -- line j is as it was
  as_before : {z : ℕ} → GoesOn edges.nodes label b j z → GoesOn edges.nodes label a j z
  as_before {z} h = record { labelled = h.labelled; onward = ⊎_elim (λ k. k) (λ r. absurd (let k = r.0 in omega arith)) (t.sound (get_or edges.nodes.nexts.now z 0) j h.onward) }

  within : {h k u : ℕ} (l : Leads edges label a j h u) → l.node < k → Leads edges label a j k u
  within l lt = record { node = l.node; above = l.above; below = lt; on = l.on; before = l.before }

  pub leads_more : (c : List ℕ) → Adds b c edges.nodes.size 11 (λ u v. (v ≡ j + 1) × Joins edges u x) → edges.nodes.low ≤ x → GoesOn edges.nodes label b j x
      → Adds a c edges.nodes.size 11 (λ u v. (v ≡ j + 1) × Leads edges label a j (x + 1) u)
  leads_more c s l o =
      adds_then _ t s (λ u v r. let k = r.1.below in (r.0, within r.1 (omega arith)))
      (λ u v r. (r.0, record { node = x; above = l; below = omega arith; on = as_before o; before = r.1 }))
      (λ u v q. let k = q.1.below in elim (cases_eq q.1.node x) [
        | inl same ↦ inr (q.0, rw same at q.1.before)
        | inr ne ↦ inl (q.0, within q.1 (omega arith))
      ])

  pub leads_skip : (GoesOn edges.nodes label b j x → ⊥) → Adds a b edges.nodes.size 11 (λ u v. (v ≡ j + 1) × Leads edges label a j (x + 1) u)
  leads_skip off =
      adds_as _ t (λ u v r. let k = r.1.below in (r.0, within r.1 (omega arith)))
      (λ u v hu hv q. let k = q.1.below in elim (cases_eq q.1.node x) [
        | inl same ↦
            let o : GoesOn edges.nodes label a j x = rw same at q.1.on in
            absurd (off (record { labelled = o.labelled; onward = t.grows (get_or edges.nodes.nexts.now x 0) j o.onward }))
        | inr ne ↦ (q.0, within q.1 (omega arith))
      ])
