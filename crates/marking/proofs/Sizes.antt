-- How many nodes and words a machine within the limits takes.
use Rattle.std.proofs.Common.{◌≡◌, ℕ, ◌+◌, ◌*◌, ◌<◌, ◌≤◌, true, List, [], ◌∷◌, ◌++◌, length, ap, ◌∙◌, mul_assoc, add-mul, mul-add, arith}
use mathlib.Core.List.Memᴰ
use mathlib.Core.List.{Memᴰ}
use Rattle.std.proofs.lemmas.Bool.{and_parts, ltb-true}
use Rattle.machine.specs.declared.row.Row.{Row}
use Rattle.machine.specs.Rows.{is_byte, lawful_row}
use Rattle.machine.specs.Lists.{Lists, Limits, all, ends, above, width_of}
use Rattle.machine.proofs.Largest.{above-append}
use Rattle.theory.specs.Layout.{Fits}
use Rattle.marking.specs.Marks.{pushed, words_for}
use Rattle.marking.proofs.Words.{both}

-- every element is below what is above all
below_above : {s : ℕ} {ss : List ℕ} → Memᴰ s ss → s < above ss
below_above {s} (Memᴰ.head e) = omega arith
below_above (Memᴰ.tail k) = let h = below_above k in omega arith

from_end : {r : Row} {rs : List Row} → Memᴰ r rs → Memᴰ r.from (ends rs)
from_end (Memᴰ.head e) = Memᴰ.head (ap (λ (q : Row). q.from) e)
from_end (Memᴰ.tail k) = Memᴰ.tail (Memᴰ.tail (from_end k))

to_end : {r : Row} {rs : List Row} → Memᴰ r rs → Memᴰ r.to (ends rs)
to_end (Memᴰ.head e) = Memᴰ.tail (Memᴰ.head (ap (λ (q : Row). q.to) e))
to_end (Memᴰ.tail k) = Memᴰ.tail (Memᴰ.tail (to_end k))

pub fits : (m : Lists) → Fits m (width_of m)
fits m = record {
  starts = λ s h. below_above (Memᴰ.append_left (m.accepts ++ ends m.rows) h);
  accepts = λ f h. below_above (Memᴰ.append_right m.starts (Memᴰ.append_left (ends m.rows) h));
  from = λ r h. below_above (Memᴰ.append_right m.starts (Memᴰ.append_right m.accepts (from_end h)));
  to = λ r h. below_above (Memᴰ.append_right m.starts (Memᴰ.append_right m.accepts (to_end h)));
}

bytes_above : (ss : List ℕ) → all is_byte ss ≡ true → above ss ≤ 256
bytes_above [] h = omega arith
bytes_above (s ∷ ss) h =
    let p = and_parts (is_byte s) (all is_byte ss) h in
    let a = ltb-true s 256 p.0 in
    let b = bytes_above ss p.1 in
    omega arith

ends_above : (rs : List Row) → all lawful_row rs ≡ true → above (ends rs) ≤ 256
ends_above [] h = omega arith
ends_above (r ∷ rs) h =
    let p = and_parts (lawful_row r) (all lawful_row rs) h in
    let f = and_parts (is_byte r.from) _ p.0 in
    let t = and_parts (is_byte r.letter) _ f.1 in
    let u = and_parts (is_byte r.to) _ t.1 in
    let a = ltb-true r.from 256 f.0 in
    let b = ltb-true r.to 256 u.0 in
    let c = ends_above rs p.1 in
    omega arith

pub width_small : (m : Lists) → Limits m → width_of m ≤ 256
width_small m l =
    let a = bytes_above m.starts l.starts in
    let b = bytes_above m.accepts l.accepts in
    let c = ends_above m.rows l.rows in
    omega (arith, above-append m.starts (m.accepts ++ ends m.rows), above-append m.accepts (ends m.rows))

pub pushed_small : (rs : List Row) → all lawful_row rs ≡ true → pushed rs ≤ 10 * length rs
pushed_small [] h = omega arith
pushed_small (r ∷ rs) h =
    let p = and_parts (lawful_row r) (all lawful_row rs) h in
    let w = (both r p.0).1 in
    let k = pushed_small rs p.1 in
    let few = w.few in
    let long = w.long in
    omega arith

-- The parts of the scratch fit.
pub parts_fit : (n r : ℕ) → n * n + (n * n + (n + (n + (r + 26 * n)))) ≤ words_for (n + 4) r
parts_fit n r =
    let k : ℕ = n + 4 in
    let a : 4 * k * k ≡ 4 * k * n + 4 * k * 4 = mul-add (4 * k) n 4 in
    let b : 4 * k ≡ 4 * n + 16 = omega arith in
    let d : 4 * k * n ≡ 4 * n * n + 16 * n = ap (λ x. x * n) b ∙ add-mul (4 * n) 16 n in
    let e : 4 * n * n ≡ 4 * (n * n) = mul_assoc 4 n n in
    omega (arith, a, b, d, e)
