use Rattle.std.proofs.Common.{length, get_or, ap, ◌∙◌, arith}
use Rattle.std.proofs.lemmas.List.{length-map}
use Rattle.machine.specs.Rows.{zero_row}
use Rattle.grammars.specs.declared.parts.Part.TheVariants.{Start, Rule, Terminal, Last}
use Rattle.grammars.specs.declared.symbol.Symbol.{Symbol}
use Rattle.grammars.specs.Grammars.{read_lists}
use Rattle.grammars.specs.Machines.{production_row, rows_of}
use Rattle.grammars.specs.Parts.{FallsIn}
use Rattle.grammars.proofs.MachineRows.{at_start, at_production, at_terminal, at_last, past}
use Rattle.grammars.proofs.Places.{places}
use Rattle.grammars.proofs.Views.{opened}
use Rattle.grammars.proofs.questions.GrammarMachine.row.Goals as goal

pub bounds-sections-i : goal.bounds-sections-i
bounds-sections-i c =
    let s = c.args.self.now.sections in
    let k : FallsIn c.sizes.result c.args.place (Start c.in-Some-Start.i) = rw c.in-Some-Start.field-0-is at c.in-Some-Start.ensures in
    omega (arith, k.0, c.sizes.ensures.first, ap length (places s).starts, length-map (read_lists s.bytes.now).starts (λ (x : Symbol). x.0))

pub bounds-sections-i-in-Some-Terminal : goal.bounds-sections-i-in-Some-Terminal
bounds-sections-i-in-Some-Terminal c =
    let s = c.args.self.now.sections in
    let k : FallsIn c.sizes.result c.args.place (Terminal c.in-Some-Terminal.i) = rw c.in-Some-Terminal.field-0-is at c.in-Some-Terminal.ensures in
    omega (arith, k.0, c.sizes.ensures.second, ap length (places s).terminals, length-map (read_lists s.bytes.now).terminals (λ (x : Symbol). x.0))

pub returns-in-Some-Start : goal.returns-in-Some-Start
returns-in-Some-Start c =
    let s = c.args.self.now.sections in
    let g = read_lists s.bytes.now in
    let i = c.in-Some-Start.i in
    let z = c.sizes.ensures in
    let k : FallsIn c.sizes.result c.args.place (Start i) = rw c.in-Some-Start.field-0-is at c.in-Some-Start.ensures in
    c.start_row.ensures
    ∙ at_start g c.args.place i _ (omega (arith, k.0, z.first)) k.1 (ap (λ xs. get_or xs i 0) (places s).starts)
    ∙ ap (λ x. get_or (rows_of x) c.args.place zero_row) (opened c.args.self.now).lists

pub returns-in-Some-Rule : goal.returns-in-Some-Rule
returns-in-Some-Rule c =
    let g = read_lists c.args.self.now.sections.bytes.now in
    let i = c.in-Some-Rule.i in
    let z = c.sizes.ensures in
    let k : FallsIn c.sizes.result c.args.place (Rule i) = rw c.in-Some-Rule.field-0-is at c.in-Some-Rule.ensures in
    c.production_row.ensures
    ∙ ap production_row c.production.ensures
    ∙ at_production g c.args.place i (omega (arith, k.0, z.third)) (omega (arith, k.1, z.first))
    ∙ ap (λ x. get_or (rows_of x) c.args.place zero_row) (opened c.args.self.now).lists

pub returns-in-Some-Terminal : goal.returns-in-Some-Terminal
returns-in-Some-Terminal c =
    let s = c.args.self.now.sections in
    let g = read_lists s.bytes.now in
    let i = c.in-Some-Terminal.i in
    let z = c.sizes.ensures in
    let k : FallsIn c.sizes.result c.args.place (Terminal i) = rw c.in-Some-Terminal.field-0-is at c.in-Some-Terminal.ensures in
    c.terminal_row.ensures
    ∙ at_terminal g c.args.place i _ (omega (arith, k.0, z.second)) (omega (arith, k.1, z.first, z.third)) (ap (λ xs. get_or xs i 0) (places s).terminals)
    ∙ ap (λ x. get_or (rows_of x) c.args.place zero_row) (opened c.args.self.now).lists

pub returns-in-Some-Last : goal.returns-in-Some-Last
returns-in-Some-Last c =
    let g = read_lists c.args.self.now.sections.bytes.now in
    let z = c.sizes.ensures in
    let k : FallsIn c.sizes.result c.args.place Last = rw c.in-Some-Last.field-0-is at c.in-Some-Last.ensures in
    c.last_row.ensures
    ∙ at_last g c.args.place (omega (arith, k, z.first, z.second, z.third))
    ∙ ap (λ x. get_or (rows_of x) c.args.place zero_row) (opened c.args.self.now).lists

pub returns-in-None : goal.returns-in-None
returns-in-None c =
    let g = read_lists c.args.self.now.sections.bytes.now in
    let z = c.sizes.ensures in
    past g c.args.place (omega (arith, c.in-None.ensures, z.first, z.second, z.third))
    ∙ ap (λ x. get_or (rows_of x) c.args.place zero_row) (opened c.args.self.now).lists
