use Rattle.std.proofs.Common.{ℕ, Some, None, Err, Option, sym, ap, ◌∙◌, ap₂}
use Rattle.grammars.specs.Grammars.{first_terminal, read_lists}
use Rattle.grammars.proofs.Opening.{by_starts, by_lefts}
use Rattle.grammars.proofs.Places.{places}
use Rattle.grammars.proofs.sections.Sections.check_terminals.Goals as goal

pub returns-in-Some : goal.returns-in-Some
returns-in-Some c =
    let g = read_lists c.args.self.now.bytes.now in
    let e = c.in-Some.ensures ∙ ap₂ {C = Option ℕ} (λ ts ss. first_terminal ts 0 ss) (places c.args.self.now).terminals (places c.args.self.now).starts in
    by_starts g (Some c.in-Some.place) e ∙ ap Err (sym c.at.ensures)

pub returns-in-Some-first_left : goal.returns-in-Some-first_left
returns-in-Some-first_left c =
    let g = read_lists c.args.self.now.bytes.now in
    let e = c.in_default.ensures ∙ ap₂ {C = Option ℕ} (λ ts ss. first_terminal ts 0 ss) (places c.args.self.now).terminals (places c.args.self.now).starts in
    by_starts g None e ∙ by_lefts g (Some c.in-Some-first_left.place) c.in-Some-first_left.ensures ∙ ap Err (sym c.at-in-Some-first_left.ensures)

pub returns : goal.returns
returns c =
    let g = read_lists c.args.self.now.bytes.now in
    let e = c.in_default.ensures ∙ ap₂ {C = Option ℕ} (λ ts ss. first_terminal ts 0 ss) (places c.args.self.now).terminals (places c.args.self.now).starts in
    by_starts g None e ∙ by_lefts g None c.in_default-first_left.ensures
