-- A trimmed machine has the runs of the whole one, and is the least that has them.
use mathlib.Core.Path.{◌≡◌, sym, ◌∙◌}
use mathlib.Core.Logic.{◌↔◌}
use mathlib.Core.List.Memᴰ
use mathlib.Core.List.{List, Memᴰ}
use Prim.Native.Nat.{ℕ}
use Rattle.machine.specs.declared.row.Row.{Row}
use Rattle.machine.specs.Lists.{Lists}
use Rattle.machine.specs.Runs.{Runs, stop, step, Ends, Accepting, UsefulRow, UsefulStart, UsefulAccept, SameRuns}
use Rattle.theory.specs.Trimmed.{SameUseful, TrimOf, PartOf, Trimming}

-- The start and the rows decide the state in which a run ends.
pub end_state : {p q q' : ℕ} {κ κ' ω ω' : List ℕ} {rs : List Row} → Runs p κ rs q ω → Runs p κ' rs q' ω' → q ≡ q'
end_state (stop a _) (stop b _) = sym a ∙ b
end_state (step _ _ _ a) (step _ _ _ b) = end_state a b

-- An accepting run of the one ends where it ends in the other.
moved : {m n : Lists} {s : ℕ} {rs : List Row} {f : ℕ} → Ends m s rs f → Accepting n s rs → Ends n s rs f
moved {m} {n} {s} {rs} {f} e a =
    let same : f ≡ a.0 = end_state e.run a.1.run in
    record { start = a.1.start; taken = a.1.taken; stack = e.stack; run = e.run; final = Memᴰ.cast same a.1.final }

-- What has the useful parts of m as members has each accepting run of m.
has : {m n : Lists} → ((s : ℕ) → UsefulStart m s → Memᴰ s n.starts) → ((f : ℕ) → UsefulAccept m f → Memᴰ f n.accepts) → ((r : Row) → UsefulRow m r → Memᴰ r n.rows) → (s : ℕ) (rs : List Row) → Accepting m s rs → Accepting n s rs
has hs hf hr s rs (f, e) =
    (f, record { start = hs s (rs, f, e); taken = λ r k. hr r (s, rs, f, e, k); stack = e.stack; run = e.run; final = hf f (s, rs, e) })

pub same : (m t : Lists) → TrimOf m t → SameRuns m t
same m t h s rs = (
  has (λ u k. (h.starts u).1 k) (λ f k. (h.accepts f).1 k) (λ r k. (h.rows r).1 k) s rs,
  λ a. (
    a.0,
    record {
      start = ((h.starts s).0 a.1.start).2.start;
      taken = λ r k. let u = (h.rows r).0 (a.1.taken r k) in u.3.taken r u.4;
      stack = a.1.stack;
      run = a.1.run;
      final = ((h.accepts a.0).0 a.1.final).2.final;
    },
  ),
)

pub least : (m t n : Lists) → TrimOf m t → SameRuns m n → PartOf t n
least m t n h e =
    record {
      starts = λ s k. let u = (h.starts s).0 k in ((e s u.0).0 (u.1, u.2)).1.start;
      accepts = λ f k. let u = (h.accepts f).0 k in (moved u.2 ((e u.0 u.1).0 (f, u.2))).final;
      rows = λ r k. let u = (h.rows r).0 k in ((e u.0 u.1).0 (u.2, u.3)).1.taken r u.4;
    }

half : {m n : Lists} → ((s : ℕ) (rs : List Row) → Accepting m s rs → Accepting n s rs) → record { starts : (s : ℕ) → UsefulStart m s → UsefulStart n s; accepts : (f : ℕ) → UsefulAccept m f → UsefulAccept n f; rows : (r : Row) → UsefulRow m r → UsefulRow n r }
half e =
    record {
      starts = λ s u. (u.0, u.1, moved u.2 (e s u.0 (u.1, u.2)));
      accepts = λ f u. (u.0, u.1, moved u.2 (e u.0 u.1 (f, u.2)));
      rows = λ r u. (u.0, u.1, u.2, moved u.3 (e u.0 u.1 (u.2, u.3)), u.4);
    }

pub decided : (m n : Lists) → SameRuns m n ↔ SameUseful m n
decided m n = (
  λ e. let a = half (λ s rs. (e s rs).0) in let b = half (λ s rs. (e s rs).1) in
      record { starts = λ s. (a.starts s, b.starts s); accepts = λ f. (a.accepts f, b.accepts f); rows = λ r. (a.rows r, b.rows r) },
  λ u s rs. (
    has (λ p k. ((u.starts p).0 k).2.start) (λ f k. ((u.accepts f).0 k).2.final) (λ r k. let v = (u.rows r).0 k in v.3.taken r v.4) s rs,
    has (λ p k. ((u.starts p).1 k).2.start) (λ f k. ((u.accepts f).1 k).2.final) (λ r k. let v = (u.rows r).1 k in v.3.taken r v.4) s rs,
  ),
)

-- The three facts together.
pub trimming : Trimming
trimming = record { same = same; least = least; decided = decided }
