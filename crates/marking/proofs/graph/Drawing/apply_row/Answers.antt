use Rattle.std.proofs.Common.{get_or, ap, subst}
use Rattle.machine.specs.Rows.{symbols_of}
use Rattle.marking.specs.declared.edges.Edges.{Edges}
use Rattle.marking.specs.Relations.{Adds, Down}
use Rattle.marking.specs.Nodes.{Drawn, Follows}
use Rattle.marking.specs.Marks.{row_at}
use Rattle.machine.specs.Rows.{pops}
use Rattle.marking.proofs.Applying.{last_down, last_adds}
use Rattle.marking.proofs.Stepping.{as_row, as_drawn}
use Rattle.marking.proofs.graph.Drawing.apply_row.Goals as goal

pub absorb-requires-clause-down : goal.absorb-requires-clause-down
absorb-requires-clause-down g c =
    let s = c.step-step.result in
    let e = c.step-step.ensures.edges in
    let j = c.joined.ensures in
    rw (c.requires.shape.0, ← j.cells, ← j.nodes) (subst (λ (x : Edges). Down x.cells.now x.nodes.size c.readers-readers.result.now) e (last_down s.edges (symbols_of s.popped) s.from _ c.readers-readers.ensures.reads))

pub returns-clause-adds : goal.returns-clause-adds
returns-clause-adds g c = λ w d.
    let s = c.step-step.result in
    let e = c.step-step.ensures in
    let j = c.joined.ensures in
    let r = c.joined.result in
    let new = c.absorb.new.self.cells.now in
    let set = c.readers-readers.result.now in
    let onto = rw (← e.edges) at (rw (c.requires.shape.0, ← j.cells, ← j.nodes) at c.absorb.ensures.adds) in
    as_drawn (ap g.M.Machine.lists j.machine) j.firsts j.nodes j.cells (λ m firsts nodes cells. Drawn w nodes → Adds cells new nodes.size nodes.size (Follows w cells nodes.size (get_or firsts c.args.i 0) (pops (row_at m c.args.i)) (row_at m c.args.i).from))
    (as_row (g.M.Machine.lists r.machine.now) _ r.firsts.now c.args.i s e.edges e.popped e.from e.first (λ x p q f. Drawn w x.nodes → Adds x.cells.now new x.nodes.size x.nodes.size (Follows w x.cells.now x.nodes.size f (symbols_of p) q))
    (λ v. last_adds s.edges (symbols_of s.popped) s.from set new s.first onto w (c.readers-readers.ensures.reads w v))) d
