-- What holds of the step of a row holds of the row.
use Rattle.std.proofs.Common.{◌≡◌, ℕ, List, get_or, subst}
use Rattle.machine.specs.declared.row.Word.{Word}
use Rattle.machine.specs.Lists.{Lists}
use Rattle.marking.specs.declared.nodes.Nodes.{Nodes}
use Rattle.marking.specs.declared.edges.Edges.{Edges}
use Rattle.marking.specs.declared.step.Step.{Step}
use Rattle.marking.specs.Marks.{row_at}

pub as_row : (m : Lists) (edges : Edges) (firsts : List ℕ) (i : ℕ) (s : Step)
    → s.edges ≡ edges → s.popped ≡ (row_at m i).popped → s.from ≡ (row_at m i).from → s.first ≡ get_or firsts i 0
    → (P : Edges → Word → ℕ → ℕ → Type 0) → P s.edges s.popped s.from s.first → P edges (row_at m i).popped (row_at m i).from (get_or firsts i 0)
as_row m edges firsts i s e p q f P h =
    subst (λ x. P x (row_at m i).popped (row_at m i).from (get_or firsts i 0)) e
    (subst (λ x. P s.edges x (row_at m i).from (get_or firsts i 0)) p
    (subst (λ x. P s.edges s.popped x (get_or firsts i 0)) q (subst (λ x. P s.edges s.popped s.from x) f h)))

-- What holds of a drawing with edges holds of the drawing and of the order that the edges come from.
pub as_drawn : {m m' : Lists} {firsts firsts' : List ℕ} {nodes nodes' : Nodes} {cells cells' : List ℕ}
    → m ≡ m' → firsts ≡ firsts' → nodes ≡ nodes' → cells ≡ cells'
    → (P : Lists → List ℕ → Nodes → List ℕ → Type 0) → P m firsts nodes cells → P m' firsts' nodes' cells'
as_drawn {m} {m'} {firsts} {firsts'} {nodes} {nodes'} {cells} {cells'} a b c d P h =
    subst (λ x. P x firsts' nodes' cells') a
    (subst (λ x. P m x nodes' cells') b
    (subst (λ x. P m firsts x cells') c (subst (λ x. P m firsts nodes x) d h)))
