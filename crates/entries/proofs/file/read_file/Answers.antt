use Rattle.std.proofs.Common.{Err, sym, ap, ◌∙◌}
use Rattle.std.proofs.lemmas.Result.{err_from_is_err_and}
use Rattle.entries.specs.Files.{layout_of}
use Rattle.entries.proofs.Files.{by_first, by_second, by_third, remains, held}
use Rattle.entries.proofs.file.read_file.Goals as goal

pub returns-in_err-one : goal.returns-in_err-one
returns-in_err-one g c =
    let l = layout_of g.X.Entry.sort g.Y.Entry.sort g.Z.Entry.sort c.args.most.first c.args.most.second c.args.most.third in
    let p = err_from_is_err_and c.from_residual.result c.from_residual.ensures.1 in
    rw (p.1, p.2) (by_first l c.args.bytes.now _ c.in_err-one.ensures.outcome)

pub returns-in_err-two : goal.returns-in_err-two
returns-in_err-two g c =
    let l = layout_of g.X.Entry.sort g.Y.Entry.sort g.Z.Entry.sort c.args.most.first c.args.most.second c.args.most.third in
    let p = err_from_is_err_and c.from_residual-in_err-two.result c.from_residual-in_err-two.ensures.1 in
    rw (p.1, p.2) (by_second l c.args.bytes.now _ c.in_ok-one.ensures.outcome _ c.in_err-two.ensures.outcome)

pub returns-in_err-three : goal.returns-in_err-three
returns-in_err-three g c =
    let l = layout_of g.X.Entry.sort g.Y.Entry.sort g.Z.Entry.sort c.args.most.first c.args.most.second c.args.most.third in
    let p = err_from_is_err_and c.from_residual-in_err-three.result c.from_residual-in_err-three.ensures.1 in
    rw (p.1, p.2) (by_third l c.args.bytes.now _ c.in_ok-one.ensures.outcome _ c.in_ok-two.ensures.outcome _ c.in_err-three.ensures.outcome)

pub returns-then-not-is_empty : goal.returns-then-not-is_empty
returns-then-not-is_empty g c =
    let l = layout_of g.X.Entry.sort g.Y.Entry.sort g.Z.Entry.sort c.args.most.first c.args.most.second c.args.most.third in
    remains l c.args.bytes.now _ _ c.in_ok-one.ensures.outcome _ _ c.in_ok-two.ensures.outcome _ _ c.in_ok-three.ensures.outcome (sym c.if-not-is_empty.ensures)
    ∙ ap Err (sym c.at.ensures)

pub returns : goal.returns
returns g c =
    let l = layout_of g.X.Entry.sort g.Y.Entry.sort g.Z.Entry.sort c.args.most.first c.args.most.second c.args.most.third in
    let a = c.in_ok-one.ensures in
    let b = c.in_ok-two.ensures in
    let d = c.in_ok-three.ensures in
    held l c.args.bytes.now _ _ a.outcome _ _ b.outcome _ _ d.outcome (sym c.if-not-is_empty.ensures) _ _ _ a.entries b.entries d.entries
