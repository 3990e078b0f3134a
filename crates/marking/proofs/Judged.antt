-- The mark of a row, by the nodes from which its popped word can be read.
use Rattle.std.proofs.Common.{◌≡◌, ℕ, ◌+◌, ◌<◌, ◌≤◌, Bool, true, false, cond, List, length, get_or, drop, set, Decides, sym, refl, ◌∙◌, subst, inl, inr, arith}
use Rattle.std.proofs.lemmas.List.{length-take, get_or-take, get_or_default, get_or-set_same, get_or-set_other, same_lists}
use Rattle.std.proofs.lemmas.Bool.{cases_eq, false≢true}
use Rattle.machine.specs.declared.row.Row.{Row}
use Rattle.machine.specs.Rows.{pops}
use Rattle.machine.specs.Lists.{Lists}
use Rattle.machine.specs.Runs.{Reachable, UsefulRow}
use Rattle.theory.specs.Graph.{Graph}
use Rattle.marking.specs.declared.edges.Edges.{Edges}
use Rattle.marking.specs.Relations.{Holds, IsLine, Share}
use Rattle.marking.specs.Nodes.{Readers}
use Rattle.marking.specs.Marks.{row_at, IsMark, Marked, Sets}
use Rattle.marking.proofs.Cells.{member_in}
use Rattle.marking.specs.Solving.{Leads, Applies, Solved, Found, FoundAll}

module _ (g : Graph) (n : ℕ) (cells word : List ℕ) (q : ℕ) (last : List ℕ) (r : Readers g (Holds cells n) word q n last)
    (good sources : List ℕ) (first : ℕ) (l : IsLine good n n first sources) (ahead : List ℕ) (size : length ahead ≡ n) where
  leads_from : Share last sources → Leads g n cells good word q first
  leads_from (x, a, b) = (x, r.on x a, l.on x b)

  leads_of : Leads g n cells good word q first → Share last sources
  leads_of (x, v, h) = (x, r.off x h.source v, l.off x h)

  applies_from : Share last ahead → Applies g n cells ahead word q
  applies_from (x, a, b) = (x, r.on x a, b)

  applies_of : Applies g n cells ahead word q → Share last ahead
  applies_of (x, v, b) = let h = member_in ahead x b in (x, r.off x (omega arith) v, b)

  pub found : (u v : Bool) (k : ℕ) → Decides u (Share last sources) → Decides v (Share last ahead) → k ≡ cond u 2 (cond v 1 0) → Found g n cells good ahead word q first k
  found true v k a b e = inl (e, leads_from (a.0 refl))
  found false true k a b e = inr (inl (e, λ h. false≢true (a.1 (leads_of h)), applies_from (b.0 refl)))
  found false false k a b e = inr (inr (e, λ h. false≢true (a.1 (leads_of h)), λ h. false≢true (b.1 (applies_of h))))

-- a useful row is reachable
useful_reachable : (m : Lists) (r : Row) → UsefulRow m r → Reachable m r
useful_reachable m r (s, rs, f, e, k) = (s, e.start, rs, e.taken, (f, e.stack, e.run), k)

module _ (m : Lists) (g : Graph) (n : ℕ) (firsts cells good ahead behind : List ℕ) (solved : Solved m g n firsts cells good ahead behind) where
  is_mark : (i : ℕ) → i < length m.rows → (k : ℕ) → Found g n cells good ahead (pops (row_at m i)) (row_at m i).from (get_or firsts i 0) k → IsMark m (row_at m i) k
  is_mark i lt k (inl (e, l)) =
      let u = (solved.useful i lt).1 l in
      record {
        useful = (λ _. u, λ _. e);
        reachable = (λ z. absurd (omega arith), λ p. absurd (p.1 u));
        idle = (λ z. absurd (omega arith), λ p. absurd (p (useful_reachable m (row_at m i) u)));
      }
  is_mark i lt k (inr (inl (e, no', l))) =
      let r = (solved.reachable i lt).1 l in
      let off : UsefulRow m (row_at m i) → ⊥ = λ u. no' ((solved.useful i lt).0 u) in
      record {
        useful = (λ z. absurd (omega arith), λ u. absurd (off u));
        reachable = (λ _. (r, off), λ _. e);
        idle = (λ z. absurd (omega arith), λ p. absurd (p r));
      }
  is_mark i lt k (inr (inr (e, no', none))) =
      let off : Reachable m (row_at m i) → ⊥ = λ r. none ((solved.reachable i lt).0 r) in
      record {
        useful = (λ z. absurd (omega arith), λ u. absurd (off (useful_reachable m (row_at m i) u)));
        reachable = (λ z. absurd (omega arith), λ p. absurd (off p.0));
        idle = (λ _. off, λ _. e);
      }

  pub marked : (old new : List ℕ) → length m.rows ≤ length old → length new ≡ length old → drop (length m.rows) new ≡ drop (length m.rows) old
      → ((i : ℕ) → i < length m.rows → Found g n cells good ahead (pops (row_at m i)) (row_at m i).from (get_or firsts i 0) (get_or new i 0)) → Sets m old new
  marked old new room long rest f = record {
    marked = record {
      long = simp length-take (omega arith);
      each = λ i lt. subst (λ k. IsMark m (row_at m i) k) (sym (get_or-take (length m.rows) new i 0 lt)) (is_mark i lt (get_or new i 0) (f i lt));
    };
    beyond = rest;
    long = long;
  }

-- The marks are fixed by the machine.
one_mark : (m : Lists) (r : Row) (j k : ℕ) → IsMark m r j → IsMark m r k → j ≡ k
one_mark m r j k a b =
    elim (cases_eq j 2) [
      | inl e ↦ e ∙ sym (b.useful.1 (a.useful.0 e))
      | inr n2 ↦ elim (cases_eq j 1) [
        | inl e ↦ e ∙ sym (b.reachable.1 (a.reachable.0 e))
        | inr n1 ↦ elim (cases_eq j 0) [
          | inl e ↦ e ∙ sym (b.idle.1 (a.idle.0 e))
          | inr n0 ↦
              let not_useful : UsefulRow m r → ⊥ = λ u. n2 (a.useful.1 u) in
              let not_reachable : Reachable m r → ⊥ = λ h. n1 (a.reachable.1 (h, not_useful)) in
              absurd (n0 (a.idle.1 not_reachable))
        ]
      ]
    ]

pub one_marking : (m : Lists) (js ks : List ℕ) → Marked m js → Marked m ks → js ≡ ks
one_marking m js ks a b =
    let la = a.long in
    let lb = b.long in
    same_lists js ks (la ∙ sym lb)
    (λ i d lt.
    get_or_default js i d 0 lt ∙ one_mark m (row_at m i) (get_or js i 0) (get_or ks i 0) (a.each i (omega arith)) (b.each i (omega arith))
    ∙ get_or_default ks i 0 d (omega arith))

-- One mark more.
pub found_more : (m : Lists) (g : Graph) (edges : Edges) (firsts good ahead marks : List ℕ) (i v : ℕ) → i < length marks
    → FoundAll m g edges firsts good ahead marks i → Found g edges.nodes.size edges.cells.now good ahead (pops (row_at m i)) (row_at m i).from (get_or firsts i 0) v → FoundAll m g edges firsts good ahead (set marks i v) (i + 1)
found_more m g edges firsts good ahead marks i v lt all here j k =
    elim (cases_eq j i) [
      | inl same ↦
          let e : get_or (set marks i v) i 0 ≡ v = rw get_or-set_same in
          rw same (rw e here)
      | inr ne ↦ rw get_or-set_other (all j (omega arith))
    ]
