-- What every text of a machine obeys: reading it gives the machine back.
use Rattle.std.specs.Prelude.{◌≡◌, Ok}
use Rattle.machine.specs.Lists.{Lists, Few, Limits}
use Rattle.reports.specs.Texts.{machine_text}
use Rattle.texts.specs.Reading.{read_machine}

abbrev pub ReadsBack : Type 0
ReadsBack = (m : Lists) → Few m → Limits m → read_machine (machine_text m) ≡ Ok m
