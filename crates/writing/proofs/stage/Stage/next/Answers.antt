use Rattle.std.proofs.Common.{rules}
use Rattle.writing.proofs.Calls.{moved_on}
use Rattle.writing.proofs.stage.Stage.next.Goals as goal

pub returns-clause-history : goal.returns-clause-history
returns-clause-history g c =
    let a = g.met.S.Section.laws in
    let b = g.met.S.Next.Section.laws in
    λ old m w. moved_on _ g.met.S.Item.Entry.laws _ _ a _ _ _ b g.met.S.Followed.next_laws old m _ _ _ _ w (search rules) (search rules)
