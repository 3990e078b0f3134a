use Rattle.std.proofs.Common.{refl}
use Rattle.entries.specs.Files.{read_file}
use Rattle.grammars.proofs.grammar.Grammar.empty.Goals as goal

pub invariant_of-result : goal.invariant_of-result
unfolding read_file
invariant_of-result c = record { read = record { reads = refl; first_bytes = refl; second_bytes = refl; third_bytes = refl } }

pub invariant_of-result-2 : goal.invariant_of-result-2
unfolding read_file
invariant_of-result-2 c = record { lawful = refl }
