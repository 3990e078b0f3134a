use Rattle.std.proofs.Common.{◌≡◌, drop}
use Rattle.machine.specs.Rows.{padded}
use Rattle.machine.proofs.row.is_padded.Given as goal

abbrev pub invariant-loop-b : goal.invariant-loop-b
invariant-loop-b l = padded l.left (drop l.b-index l.bytes) ≡ padded l.len l.bytes
