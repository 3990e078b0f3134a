-- The rows so far, with those that are left, are all.
use Rattle.std.proofs.Common.{◌+◌, length, vec_items, vec_len}
use Rattle.texts.proofs.Lines.{Listed}
use Rattle.texts.proofs.rows.rows.Given as goal

abbrev pub invariant-loop-rest : goal.invariant-loop-rest
invariant-loop-rest l = Listed (length l.text) l.line l.text (l.line + vec_len l.rows) (vec_items l.rows) l.rest

abbrev pub decreases-loop-rest : goal.decreases-loop-rest
decreases-loop-rest l = length l.rest
