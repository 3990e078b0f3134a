use Rattle.std.proofs.Common.{ℕ, ◌<◌, length, ap}
use Rattle.marking.specs.Marks.{row_at}
use Rattle.marking.specs.Relations.{Identity}
use Rattle.marking.specs.Rounds.{Draws, Saturated}
use Rattle.marking.specs.Solving.{Solved}
use Rattle.marking.proofs.Deciding.{solved}
use Rattle.marking.proofs.Stepping.{as_drawn}
use Rattle.marking.proofs.graph.Drawing.solve.Goals as goal

pub returns-clause-solved : goal.returns-clause-solved
returns-clause-solved g c = λ w d.
    let one = c.args.order.now.cells.now in
    let j = c.joined-joined.ensures in
    as_drawn (ap g.M.Machine.lists j.machine) j.firsts j.nodes j.cells
    (λ m firsts nodes cells. Draws m nodes firsts w → Identity one nodes.size nodes.size → Saturated m nodes firsts one cells → ((i : ℕ) → i < length m.rows → (row_at m i).from < nodes.size)
    → Solved m w nodes.size firsts cells c.saturate_back.new.good.cells.now c.find_ahead.new.set c.find_behind.new.set)
    (λ v b s f. solved _ _ _ _ _ _ _ _ w v b s c.find_ahead.ensures c.find_behind.ensures c.begin_good.ensures.based c.saturate_back.ensures.saturated f)
    d c.requires.begin c.saturate.ensures.saturated c.args.self.now.fit.from
