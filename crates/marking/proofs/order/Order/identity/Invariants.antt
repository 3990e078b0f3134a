use Rattle.marking.specs.Relations.{Identity}
use Rattle.marking.proofs.order.Order.identity.Given as goal

abbrev pub invariant-loop-x : goal.invariant-loop-x
invariant-loop-x l = Identity l.cells l.size l.x
