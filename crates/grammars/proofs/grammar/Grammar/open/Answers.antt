use Rattle.std.proofs.Common.{refl}
use Rattle.std.proofs.lemmas.Result.{err_from_is_err_and}
use Rattle.grammars.proofs.Opening.{laws}
use Rattle.grammars.proofs.grammar.Grammar.open.Goals as goal

pub returns-in_err-self : goal.returns-in_err-self
returns-in_err-self c =
    let p = err_from_is_err_and c.from_residual.result c.from_residual.ensures.1 in
    rw (p.1, p.2) (record { outcome = (c.in_err-self.ensures.0, refl); encoding = tt; laws = laws })

pub returns : goal.returns
returns c =
    let e = c.in_ok-self.ensures in
    record { outcome = e.0; encoding = e.1.0; laws = laws }
