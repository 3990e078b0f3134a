use Rattle.std.proofs.Common.{ℕ, ◌<◌}
use Rattle.marking.specs.Relations.{Member, Misses}
use Rattle.marking.proofs.sets.covers.Given as goal

abbrev pub invariant-loop-x : goal.invariant-loop-x
invariant-loop-x g l =
    (0 < l.missing → Misses l.set (g.S.Source.has l.other))
    × ((z : ℕ) → z < l.x → g.S.Source.has l.other z → (Member l.set z → ⊥) → 0 < l.missing)
