use Rattle.std.proofs.Common.{refl}
use Rattle.entries.specs.Files.{read_file}
use Rattle.tables.proofs.table.Table.empty.Goals as goal

pub invariant_of-result : goal.invariant_of-result
unfolding read_file
invariant_of-result c = record { lawful = record { reads = refl; first_bytes = refl; second_bytes = refl; third_bytes = refl } }
