use Rattle.std.proofs.Common.{◌≡◌, ℕ, ◌+◌, ◌-◌, length, sym, ap, ◌∙◌, subst, arith, length-take}
use mathlib.Core.Option.{Option, some}
use Rattle.machine.specs.Rows.{symbols_of}
use Rattle.marking.specs.Relations.{Holds}
use Rattle.marking.specs.Nodes.{Joins, Filled}
use Rattle.marking.specs.Ways.{Walked}
use Rattle.marking.proofs.Filling.{symbol_at}
use Rattle.marking.proofs.Walking.{walked_none, walked_more}
use Rattle.marking.proofs.step.Step.fill_ways.Goals as goal

pub loop-j-init : goal.loop-j-init
loop-j-init c = λ g d f.
    let few = c.args.self.few in
    let e = c.from-len.ensures in
    let long : length (symbols_of c.args.self.popped) ≡ c.from-len.result = c.args.self.long ∙ sym e in
    let f' = subst (λ k. Filled g (Joins c.args.self.edges) (symbols_of c.args.self.popped) c.args.self.from c.args.self.edges.nodes.size c.args.levels.now k) (sym e) f in
    walked_none g c.args.self.edges c.args.good.now.cells.now d (symbols_of c.args.self.popped) c.args.self.from c.args.self.first c.args.levels.now c.from-len.result long (omega arith) f' c.clear_front.new.words c.begin_ways.new.ways c.clear_front.ensures (rw c.requires.size at c.begin_ways.ensures)

pub loop-j-preserved : goal.loop-j-preserved
loop-j-preserved c = λ g d f.
    let few = c.args.self.few in
    let full = c.args.self.long in
    let e = c.from-len.ensures in
    let j : ℕ = c.loop-j.j - 1 in
    let up : c.loop-j.j ≡ j + 1 = omega arith in
    let w = subst (λ k. Walked g (Joins c.args.self.edges) (Holds c.args.good.now.cells.now c.args.self.edges.nodes.size) (symbols_of c.args.self.popped) c.args.self.from c.args.self.first c.args.self.edges.nodes.size c.loop-j.ways k) up (c.loop-j.invariant g d f) in
    let at = symbol_at c.args.self.popped.symbols c.args.self.popped.len j (omega arith) (omega (arith, length-take c.args.self.popped.len c.args.self.popped.symbols)) ∙ ap {B = Option ℕ} some (sym c.from-label.ensures) in
    walked_more g c.args.self.edges c.args.good.now.cells.now d (symbols_of c.args.self.popped) c.args.self.from c.args.self.first c.args.levels.now c.args.self.popped.len c.args.self.long (omega arith) f c.loop-j.ways c.next_ways.new.ways j c.from-label.result w at (omega arith) c.next_ways.ensures
