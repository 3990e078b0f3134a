-- The words of a lawful row.
use Rattle.std.proofs.Common.{◌≡◌, ◌≤◌, true, eqb, length, arith, length-take}
use Rattle.std.proofs.lemmas.Bool.{and_parts, eqb-true}
use Rattle.machine.specs.declared.row.Word.{Word}
use Rattle.machine.specs.declared.row.Row.{Row}
use Rattle.machine.specs.Rows.{is_byte, padded, lawful_word, lawful_row, symbols_of}
use Rattle.machine.proofs.Padding.{padded_fits}

pub record Whole (w : Word) : Type 0 where
  pub ten : length w.symbols ≡ 10
  pub few : w.len ≤ 10
  pub long : length (symbols_of w) ≡ w.len

pub whole : (w : Word) → lawful_word w ≡ true → Whole w
whole w h =
    let p = and_parts (eqb (length w.symbols) 10) (padded w.len w.symbols) h in
    let e = eqb-true (length w.symbols) 10 p.0 in
    let k = padded_fits w.len w.symbols p.1 in
    record { ten = e; few = omega arith; long = simp length-take (omega arith) }

pub both : (r : Row) → lawful_row r ≡ true → Whole r.popped × Whole r.pushed
both r h =
    let a = (and_parts (is_byte r.from) _ h).1 in
    let b = (and_parts (is_byte r.letter) _ a).1 in
    let c = (and_parts (is_byte r.to) _ b).1 in
    let d = and_parts (lawful_word r.popped) (lawful_word r.pushed) c in
    (whole r.popped d.0, whole r.pushed d.1)
