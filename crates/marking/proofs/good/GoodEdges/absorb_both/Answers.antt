use Rattle.std.proofs.Common.{◌≡◌, arith}
use Rattle.std.proofs.lemmas.Bool.{true≢false}
use Rattle.marking.specs.Relations.{Member}
use Rattle.marking.proofs.Cells.{adds_as}
use Rattle.marking.proofs.Lines.{fewer_both}
use Rattle.marking.proofs.good.GoodEdges.absorb_both.Goals as goal

pub returns-clause-steps : goal.returns-clause-steps
returns-clause-steps c =
    let square = c.args.self.now.square in
    let t = adds_as (λ u v. (v ≡ c.args.y) × (Member c.args.set.now u × Member c.args.other.now u)) (c.take_in.ensures c.args.self.now.size (omega arith) (omega arith)) (λ u v r. (r.0, r.1.1)) (λ u v hu hv r. (r.0, (omega arith, r.1))) in
    record {
      adds = t;
      same = λ e. absurd (true≢false e);
      fewer = λ _. fewer_both _ _ _ _ _ _ t (omega arith) (omega arith) (omega arith) (omega arith) c.if-has_both.ensures;
    }
