use Rattle.std.proofs.Common.{length, ap, arith}
use Rattle.grammars.specs.Grammars.{read_lists}
use Rattle.grammars.specs.Machines.{rows_of}
use Rattle.grammars.proofs.MachineRows.{count}
use Rattle.grammars.proofs.Views.{opened}
use Rattle.grammars.proofs.questions.GrammarMachine.row_count.Goals as goal

pub overflow_add-result : goal.overflow_add-result
overflow_add-result c = let o = opened c.args.self.now in omega (arith, c.sizes-first.ensures.first, c.sizes-first.ensures.second, c.sizes-first.ensures.third, o.few)

pub overflow_add-result-2 : goal.overflow_add-result-2
overflow_add-result-2 c = let o = opened c.args.self.now in omega (arith, c.sizes-first.ensures.first, c.sizes-first.ensures.second, c.sizes-first.ensures.third, o.few)

pub overflow_add-result-3 : goal.overflow_add-result-3
overflow_add-result-3 c = let o = opened c.args.self.now in omega (arith, c.sizes-first.ensures.first, c.sizes-first.ensures.second, c.sizes-first.ensures.third, o.few)

pub returns : goal.returns
returns c =
    let o = opened c.args.self.now in
    let g = c.args.self.now.sections.bytes.now in
    omega (arith, c.sizes-first.ensures.first, c.sizes-first.ensures.second, c.sizes-first.ensures.third, count (read_lists g), ap (λ x. length (rows_of x)) o.lists)
