-- Bytes put into an output.
use Rattle.std.proofs.Common.{◌≡◌, ℕ, ◌+◌, ◌-◌, ◌≤◌, true, List, ◌++◌, length, take, drop, sym, ap, ◌∙◌, ap₂, append-nil, arith}
use borrow.Rule.Slice.PartMut.{put_mid}
use Rattle.std.proofs.lemmas.List.{drop-drop, take_at, drop_at, drop_all}
use Rattle.std.proofs.lemmas.Bool.{le-leb}
use Rattle.entries.specs.Outputs.{Wrote}

-- a copy into the part from a place to an end
pub put_there : (at end : ℕ) (out bs copy : List ℕ) → copy ≡ bs → end ≡ at + length bs → end ≤ length out → Wrote bs at out (put_mid at (end - at) out copy) true
put_there at end out bs copy e n h =
    let k : end - at ≡ length bs = omega arith in
    let d : drop (end - at) (drop at out) ≡ drop (at + length bs) out = ap (λ m. drop m (drop at out)) k ∙ drop-drop (length bs) at out in
    let i : at + length bs ≤ length out = omega arith in
    record {
      fits = sym (le-leb (at + length bs) (length out) i);
      after = ap₂ {C = List ℕ} (λ x y. take at out ++ (x ++ y)) e d;
    }

-- two words copied one behind the other over twenty bytes
pub two_words : (p q z : List ℕ) → length p ≡ 10 → length z ≡ 10 → take 10 (p ++ z) ++ (q ++ drop 10 (drop 10 (p ++ z))) ≡ p ++ q
two_words p q z h k =
    let l : length z ≤ 10 = omega arith in
    ap₂ {C = List ℕ} (λ x y. x ++ (q ++ y)) (take_at p z 10 h) (ap (drop 10) (drop_at p z 10 h) ∙ drop_all 10 z l)
    ∙ ap (λ x. p ++ x) (append-nil q)
