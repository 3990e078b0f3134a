-- Texts written by hand: one without the line of counts, and some that cannot be read.
use Rattle.std.proofs.Common.{◌≡◌, [], ◌∷◌, replicate, Ok, Err, codes, refl}
use Rattle.machine.specs.Rows.{empty_word}
use Rattle.machine.specs.Lists.{Lists}
use Rattle.texts.specs.Reading.{read_some, read_rows, read_machine}

abbrev small : Lists
small = record {
  starts = 0 ∷ [];
  accepts = [];
  rows =
      record { from = 0; letter = 0; to = 1; popped = empty_word; pushed = empty_word }
      ∷ record {
        from = 0;
        letter = 40;
        to = 13;
        popped = record { len = 2; symbols = 1 ∷ 2 ∷ replicate 8 0 };
        pushed = record { len = 1; symbols = 1 ∷ replicate 9 0 };
      }
      ∷ [];
}

-- The places are not in order, and zeros stand in front of numbers.
pub by_hand : read_machine (codes "start 0\naccept -\nrow 7 from 0 letter 0 to 1 pop - push -\nrow 007 from 0 letter 040 to 13 pop 1 2 push 01\n") ≡ Ok small
unfolding read_some read_rows
by_hand = refl

-- The line of counts is not looked at.
pub counted : read_machine (codes "starts many\nstart 0\naccept\nrow 7 from 0 letter 0 to 1 pop - push -\nrow 7 from 0 letter 40 to 13 pop 1 2 push 1\n") ≡ Ok small
unfolding read_some read_rows
counted = refl

pub large_state : read_machine (codes "start 256\naccept -\n") ≡ Err 1
unfolding read_some read_rows
large_state = refl

pub no_accepts : read_machine (codes "starts 0\nstart -\n") ≡ Err 3
unfolding read_some read_rows
no_accepts = refl

pub no_line_feed : read_machine (codes "start -\naccept -\nrow 0 from 0 letter 0 to 1 pop - push -") ≡ Err 3
unfolding read_some read_rows
no_line_feed = refl

pub eleven_symbols : read_machine (codes "start -\naccept -\nrow 0 from 0 letter 0 to 1 pop - push -\nrow 0 from 0 letter 0 to 1 pop 1 2 3 4 5 6 7 8 9 10 11 push -\n") ≡ Err 4
unfolding read_some read_rows
eleven_symbols = refl
