use Rattle.std.proofs.Common.{◌≡◌, ℕ, ◌<◌, List, get_or}
use Rattle.marking.specs.Marks.{Flags}
use Rattle.marking.proofs.Flagging.{Early}
use Rattle.marking.proofs.useful.flags.Given as goal

abbrev pub invariant-loop-i : goal.invariant-loop-i
invariant-loop-i g l = (states : List ℕ) → ((i s : ℕ) → i < l.count → goal.F-post g l.state i s → s ≡ get_or states i 0) → Flags l.flags (Early states l.set l.i)
