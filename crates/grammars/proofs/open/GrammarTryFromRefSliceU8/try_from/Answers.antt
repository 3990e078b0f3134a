use Rattle.std.proofs.Common.{rules, ◌≡◌, Ok}
use Rattle.std.proofs.lemmas.Result.{err_from_is_err_and}
use Rattle.entries.proofs.Files.{typed}
use Rattle.grammars.specs.Grammars.{open_grammar, grammar_of}
use Rattle.grammars.proofs.Opening.{laws}
use Rattle.grammars.proofs.open.GrammarTryFromRefSliceU8.try_from.Goals as goal

pub returns-in_err-sections : goal.returns-in_err-sections
returns-in_err-sections c =
    let p = err_from_is_err_and c.from_residual.result c.from_residual.ensures.1 in
    rw (p.1, p.2) (search rules, (tt, laws))

pub returns-in_err-check_terminals : goal.returns-in_err-check_terminals
returns-in_err-check_terminals c =
    let p = err_from_is_err_and c.from_residual-in_err-check_terminals.result c.from_residual-in_err-check_terminals.ensures.1 in
    rw (p.1, p.2) (search rules, (tt, laws))

pub returns : goal.returns
returns c =
    let bs = c.args.bytes.now in
    let o : (open_grammar bs ≡ Ok (grammar_of bs)) × (c.in_ok-sections.sections.bytes ≡ c.args.bytes) = search rules in
    (o, ((laws.exactly bs _ (typed bs (λ i. (c.type_inv.bytes i).fits))).0 o.0, laws))
