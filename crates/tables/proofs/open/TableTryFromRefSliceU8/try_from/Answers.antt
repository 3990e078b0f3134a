use Rattle.std.proofs.lemmas.Result.{err_from_is_err_and}
use Rattle.std.proofs.Common.{rules, refl, ◌≡◌, Ok}
use Rattle.tables.specs.Tables.{open_table, lists_of}
use Rattle.entries.proofs.Files.{typed}
use Rattle.tables.proofs.Opening.{laws}
use Rattle.tables.proofs.open.TableTryFromRefSliceU8.try_from.Goals as goal

pub returns-in_err-starts : goal.returns-in_err-starts
returns-in_err-starts c =
    let p = err_from_is_err_and c.from_residual.result c.from_residual.ensures.1 in
    rw (p.1, p.2) (search rules, (tt, laws))

pub returns : goal.returns
returns c =
    let bs = c.args.bytes.now in
    let o : open_table bs ≡ Ok (lists_of bs) = search rules in
    ((o, refl), ((laws.exactly bs _ (typed bs (λ i. (c.type_inv.bytes i).fits))).0 o, laws))
