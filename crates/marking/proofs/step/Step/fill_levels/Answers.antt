use Rattle.std.proofs.Common.{◌≡◌, ℕ, sym, ap, ◌∙◌, subst, arith}
use Rattle.std.proofs.lemmas.List.{get_or-take}
use mathlib.Core.Option.{Option, some}
use Rattle.machine.specs.Rows.{symbols_of}
use Rattle.marking.specs.Nodes.{Joins, Filled}
use Rattle.marking.proofs.Filling.{filled_none, filled_more, symbol_at}
use Rattle.marking.proofs.step.Step.fill_levels.Goals as goal

pub loop-j-init : goal.loop-j-init
loop-j-init c = λ g d. filled_none g c.args.self.edges d (symbols_of c.args.self.popped) c.args.self.from c.from-len.result c.clear_front.new.words c.add_line.new.levels c.clear_front.ensures c.add_line.ensures c.args.self.from_in

pub loop-j-preserved : goal.loop-j-preserved
loop-j-preserved c = λ g d.
    let few = c.args.self.few in
    let h = c.loop-j.invariant g d in
    filled_more g c.args.self.edges d (symbols_of c.args.self.popped) c.args.self.from c.from-len.result c.loop-j.levels c.next_level.new.levels c.loop-j.j _ h.0 h.1 (omega arith)
    (symbol_at c.args.self.popped.symbols c.args.self.popped.len c.loop-j.j (omega (arith, c.from-len.ensures)) (omega (arith, c.from-len.ensures)) ∙ ap {B = Option ℕ} some (sym (get_or-take c.from-len.result c.args.self.popped.symbols c.loop-j.j 0 (omega arith)) ∙ sym c.from.ensures)) c.next_level.ensures (omega (arith, c.from-len.ensures))

pub returns : goal.returns
returns c = λ g d.
    let e : c.loop-j.j ≡ c.args.self.popped.len = omega (arith, c.from-len.ensures) in
    subst (λ k. Filled g (Joins c.args.self.edges) (symbols_of c.args.self.popped) c.args.self.from c.args.self.edges.nodes.size c.loop-j.levels k) e (c.loop-j.invariant g d).0
