-- The theorems that the contract of marking_theory asks for.
use Rattle.theory.specs.Theorems.{Holds}
use Rattle.theory.proofs.Useful.{sound_trail, complete, reachable, useful_start, useful_accept, needed, useful_row, good_based, good_back, own_closed}
use Rattle.theory.specs.Layout.{graph_of}
use Rattle.theory.proofs.Nodes.{lawful}
use Rattle.theory.proofs.Order.{unique}
use Rattle.theory.proofs.marking_theory.Goals as goal

pub returns : goal.returns
returns c =
    record {
      forwards = λ m g l e sound closed. record {
        sound_trail = λ x y w p ρ. sound_trail m g l (Holds e) sound p ρ;
        complete = λ s q ω h. complete m g l (Holds e) closed h;
        reachable = reachable m g l (Holds e) closed sound;
        useful_start = useful_start m g l (Holds e) closed sound;
        useful_accept = useful_accept m g l (Holds e) closed sound;
      };
      backwards = λ m g l e d sound closed based back. record {
        needed = λ s hs κ q π lean a. needed m g l (Holds e) closed (Holds d) based back s hs π lean (λ i. κ) a.3.1 a.2 a.3.2;
        useful_row = useful_row m g l (Holds e) closed sound (Holds d) based back;
      };
      growing = λ m g l e sound. record { based = good_based m g l (Holds e) sound; back = good_back m g l (Holds e) sound };
      standing = λ m width fits. let l = lawful m width fits in record { lawful = l; closed = own_closed m (graph_of width m.rows) l };
      order = λ lt irrefl trans. unique (Holds lt) irrefl trans;
    }
