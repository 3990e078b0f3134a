use Rattle.std.proofs.Common.{◌≡◌, ℕ, ◌*◌, ◌/◌, length, ap, ap₂, ◌∙◌, arith}
use Rattle.std.proofs.lemmas.List.{length-map}
use Rattle.grammars.specs.declared.symbol.Symbol.{Symbol}
use Rattle.grammars.specs.Grammars.{read_lists}
use Rattle.grammars.proofs.Places.{places}
use Rattle.grammars.proofs.sections.Sections.sizes.Goals as goal

pub returns-clause-first : goal.returns-clause-first
returns-clause-first c = ap length (places c.args.self.now).starts ∙ length-map _ (λ (s : Symbol). s.0)

pub returns-clause-second : goal.returns-clause-second
returns-clause-second c = ap length (places c.args.self.now).terminals ∙ length-map _ (λ (s : Symbol). s.0)

pub returns-clause-third : goal.returns-clause-third
returns-clause-third c =
    let n = length (read_lists c.args.self.now.bytes.now).productions in
    let e : 12 * n / 12 ≡ n = omega arith in
    ap₂ {C = ℕ} (λ x y. x / y) (places c.args.self.now).production_count c.width.ensures ∙ e
