-- A machine and a fault, and their texts written out.
use Rattle.std.proofs.Common.{◌≡◌, [], ◌∷◌, replicate, codes, refl}
use Rattle.std.specs.Fmt.{digits}
use Rattle.machine.specs.declared.fault.Rule.TheVariants.{Limits}
use Rattle.machine.specs.Rows.{empty_word}
use Rattle.machine.specs.Faults.{fault}
use Rattle.machine.specs.Lists.{Lists}
use Rattle.reports.specs.Texts.{machine_text, fault_text}

abbrev small : Lists
small = record {
  starts = 0 ∷ [];
  accepts = [];
  rows =
      record { from = 0; letter = 0; to = 1; popped = empty_word; pushed = empty_word }
      ∷ record {
        from = 0;
        letter = 40;
        to = 13;
        popped = record { len = 2; symbols = 1 ∷ 2 ∷ replicate 8 0 };
        pushed = record { len = 1; symbols = 1 ∷ replicate 9 0 };
      }
      ∷ [];
}

pub small_text : machine_text small
    ≡ codes "starts 1 accepting 0 rows 2 width 14\nstart 0\naccept -\nrow 0 from 0 letter 0 to 1 pop - push -\nrow 1 from 0 letter 40 to 13 pop 1 2 push 1\n"
unfolding digits
small_text = refl

pub limits_text : fault_text (fault Limits 4 1023) ≡ codes "refused 3 4 1023\n"
unfolding digits
limits_text = refl
