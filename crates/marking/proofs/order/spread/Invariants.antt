use Rattle.std.proofs.Common.{◌<◌}
use Rattle.marking.specs.Relations.{Adds, Onto}
use Rattle.marking.proofs.order.spread.Given as goal

abbrev pub invariant-loop-y : goal.invariant-loop-y
invariant-loop-y l = Adds l.initial.cells l.cells l.n l.n (λ u v. Onto l.initial.cells l.n l.set l.f u v × (v < l.y))
