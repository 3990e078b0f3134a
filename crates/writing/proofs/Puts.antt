-- Bytes put into an output, one after the other.
use Rattle.std.proofs.Common.{◌≡◌, ℕ, ◌+◌, add-zero, length-take, ◌≤◌, List, [], ◌++◌, length, take, drop, sym, refl, ap, ◌∙◌, arith}
use Rattle.std.proofs.lemmas.List.{append_assoc, length-append, length-take-le, length-drop, take-append-drop, take-append-le, take-take, drop_at}
use Rattle.std.proofs.lemmas.List.Edits.{paste_all, paste-paste}
use lib.Seq.{paste}
use Rattle.entries.specs.Outputs.{put_at}

pub put_none : (l : List ℕ) (a : ℕ) → put_at l a [] ≡ l
put_none l a = rw add-zero (take-append-drop a l)

pub put_length : (l : List ℕ) (a : ℕ) (bs : List ℕ) → a + length bs ≤ length l → length (put_at l a bs) ≡ length l
put_length l a bs h = simp (length-append, length-take, length-drop) (omega arith)

-- more bytes, right behind those that were put
pub put_behind : (l : List ℕ) (a : ℕ) (bs cs : List ℕ) → a ≤ length l → put_at (put_at l a bs) (a + length bs) cs ≡ put_at l a (bs ++ cs)
put_behind l a bs cs h =
    let n : ℕ = length bs in
    let m : ℕ = length cs in
    let s : n + m ≡ length (bs ++ cs) = sym (length-append bs cs) in
    sym (paste_all (put_at l a bs) (a + n) cs m refl)
    ∙ ap (λ x. paste x (a + n) cs m) (sym (paste_all l a bs n refl))
    ∙ paste-paste l a bs cs n m refl refl h
    ∙ paste_all l a (bs ++ cs) (n + m) s
    ∙ ap (λ k. take a l ++ ((bs ++ cs) ++ drop (a + k) l)) s

-- more bytes, right before those that were put
pub put_before : (l : List ℕ) (a : ℕ) (bs cs : List ℕ) → a + length bs ≤ length l → put_at (put_at l (a + length bs) cs) a bs ≡ put_at l a (bs ++ cs)
put_before l a bs cs h =
    let b : ℕ = a + length bs in
    let d : List ℕ = drop (b + length cs) l in
    let t = length-take-le b l h in
    let i : a ≤ length (take b l) = omega arith in
    let j : a ≤ b = omega arith in
    let front : take a (take b l ++ (cs ++ d)) ≡ take a l = take-append-le a (take b l) (cs ++ d) i ∙ take-take a b l j in
    let back : drop b (take b l ++ (cs ++ d)) ≡ cs ++ d = drop_at (take b l) (cs ++ d) b t in
    let n : b + length cs ≡ a + length (bs ++ cs) = simp length-append (omega arith) in
    rw (front, back, n, ← append_assoc bs cs) refl
