-- One word, or one line, of a matrix or a set, written.
use Rattle.std.proofs.Common.{◌≡◌, ℕ, ◌+◌, ◌-◌, ◌*◌, ◌<◌, ◌≤◌, ◌⊎◌, List, length, get_or, take, drop, set, ◌∙◌, inl, inr, ⊎_elim, mul-le-mul_right, arith}
use Rattle.std.proofs.lemmas.Nat.{mul-add-lt, same_from_place, row_fits}
use Rattle.std.proofs.lemmas.List.{get_or-set_same, get_or-set_other, get_or_past, get_or-take, get_or-drop, places}
use Rattle.std.proofs.lemmas.Bool.{cases_eq, cases_lt}
use borrow.Rule.Slice.PartMut.{put_mid}
use Rattle.marking.specs.Relations.{Member, Adds, Gains, Identity, Preorder}

pub place_in : (ws : List ℕ) (n h x y : ℕ) → x < n → y < h → length ws ≡ h * n → y * n + x < length ws
place_in ws n h x y i j e = omega (arith, mul-add-lt y n x h j i)

-- a pair more: the word at (x, y) is 1
pub adds_one : (ws : List ℕ) (n h x y : ℕ) → x < n → y < h → length ws ≡ h * n → Adds ws (set ws (y * n + x) 1) n h (λ u v. (u ≡ x) × (v ≡ y))
adds_one ws n h x y hx hy e =
    let lt : y * n + x < length ws = place_in ws n h x y hx hy e in
    let here : get_or (set ws (y * n + x) 1) (y * n + x) 0 ≡ 1 = rw get_or-set_same in
    record {
      grows = λ u v k. record {
        source = k.source;
        target = k.target;
        on = elim (cases_eq (v * n + u) (y * n + x)) [ inl s ↦ rw s (rw here (omega arith)) | inr ne ↦ rw get_or-set_other k.on ];
      };
      sound = λ u v k. elim (cases_eq (v * n + u) (y * n + x)) [
        | inl s ↦ (let p = same_from_place v u y x n k.source hx s in inr (p.1, p.0))
        | inr ne ↦ inl (record { source = k.source; target = k.target; on = rw get_or-set_other at k.on })
      ];
      done = λ u v hu hv p. record { source = hu; target = hv; on = rw (p.0, p.1) (rw here (omega arith)) };
    }

-- first the pairs of R are added, then those of S
pub adds_then : {a b c : List ℕ} {n h : ℕ} {R S : ℕ → ℕ → Type 0} (Q : ℕ → ℕ → Type 0)
    → Adds a b n h R → Adds b c n h S
    → ((u v : ℕ) → R u v → Q u v) → ((u v : ℕ) → S u v → Q u v) → ((u v : ℕ) → Q u v → R u v ⊎ S u v)
    → Adds a c n h Q
adds_then Q p q r s t = record {
  grows = λ u v h. q.grows u v (p.grows u v h);
  sound = λ u v h. ⊎_elim (λ k. ⊎_elim inl (λ m. inr (r u v m)) (p.sound u v k)) (λ m. inr (s u v m)) (q.sound u v h);
  done = λ u v hu hv m. ⊎_elim (λ k. q.grows u v (p.done u v hu hv k)) (q.done u v hu hv) (t u v m);
}

pub gains_then : {a b c : List ℕ} {P Q : ℕ → Type 0} (S : ℕ → Type 0) → Gains a b P → Gains b c Q → ((z : ℕ) → P z → S z) → ((z : ℕ) → Q z → S z) → ((z : ℕ) → S z → P z ⊎ Q z) → Gains a c S
gains_then S p q r s t = record {
  grows = λ z h. q.grows z (p.grows z h);
  sound = λ z h. ⊎_elim (λ k. ⊎_elim inl (λ m. inr (r z m)) (p.sound z k)) (λ m. inr (s z m)) (q.sound z h);
  done = λ z m. ⊎_elim (λ k. q.grows z (p.done z k)) (q.done z) (t z m);
}

-- the same pairs, told otherwise
pub adds_as : {a b : List ℕ} {n h : ℕ} {R : ℕ → ℕ → Type 0} (Q : ℕ → ℕ → Type 0) → Adds a b n h R → ((u v : ℕ) → R u v → Q u v) → ((u v : ℕ) → u < n → v < h → Q u v → R u v) → Adds a b n h Q
adds_as Q t r q = record {
  grows = t.grows;
  sound = λ u v h. ⊎_elim inl (λ k. inr (r u v k)) (t.sound u v h);
  done = λ u v hu hv k. t.done u v hu hv (q u v hu hv k);
}

pub member_in : (ws : List ℕ) (z : ℕ) → Member ws z → z < length ws
member_in ws z h = ⊎_elim (λ k. k) (λ k. absurd (let e = get_or_past ws z 0 k in omega arith)) (cases_lt z (length ws))

-- a line ends within the lines
pub line_end : (n h y : ℕ) → y < h → y * n + n ≤ h * n
line_end n h y lt = row_fits y n h n lt (omega arith)

-- the first of eleven lines end within them
pub lines_end : (n k : ℕ) → k ≤ 10 → (k + 1) * n ≤ 11 * n
lines_end n k h = let i : k + 1 ≤ 11 = omega arith in mul-le-mul_right n i

-- line y of the lines of n words has come to be ys
pub line_gains : (ws ys : List ℕ) (n h y : ℕ) (P : ℕ → Type 0) → y < h → length ws ≡ h * n → length ys ≡ n
    → Gains (take (y * n + n - y * n) (drop (y * n) ws)) ys P → Adds ws (put_mid (y * n) (y * n + n - y * n) ws ys) n h (λ u v. (v ≡ y) × P u)
line_gains ws ys n h y P lt e long g =
    let d : y * n + n - y * n ≡ n = omega arith in
    let k = line_end n h y lt in
    let was : (z : ℕ) → z < n → get_or (take n (drop (y * n) ws)) z 0 ≡ get_or ws (y * n + z) 0 = λ z hz. get_or-take n (drop (y * n) ws) z 0 hz ∙ get_or-drop (y * n) ws z 0 in
    let here : (z : ℕ) → z < n → get_or (put_mid (y * n) n ws ys) (y * n + z) 0 ≡ get_or ys z 0 = λ z hz. grind (arith, places) in
    let there : (i : ℕ) → (i < y * n) ⊎ (y * n + n ≤ i) → get_or (put_mid (y * n) n ws ys) i 0 ≡ get_or ws i 0 = λ i o. ⊎_elim (λ b. grind (arith, places)) (λ b. grind (arith, places)) o in
    let apart : (u v : ℕ) → u < n → (v ≡ y → ⊥) → (v * n + u < y * n) ⊎ (y * n + n ≤ v * n + u) = λ u v hu ne. ⊎_elim (λ b. inl (omega (arith, mul-add-lt v n u y b hu))) (λ b. inr (let c : y < v = omega arith in omega (arith, line_end n v y c))) (cases_lt v y) in
    let gains : Gains (take n (drop (y * n) ws)) ys P = rw d at g in
    let R : ℕ → ℕ → Type 0 = λ u v. (v ≡ y) × P u in
    let adds : Adds ws (put_mid (y * n) n ws ys) n h R =
    record {
      grows = λ u v o. record {
        source = o.source;
        target = o.target;
        on = elim (cases_eq v y) [
          | inl same ↦ rw same (rw (here u o.source) (gains.grows u (rw (was u o.source) (rw same at o.on))))
          | inr ne ↦ rw (there (v * n + u) (apart u v o.source ne)) o.on
        ];
      };
      sound = λ u v o.
          elim (cases_eq v y) [
            | inl same ↦ ⊎_elim (λ m. inl (record { source = o.source; target = o.target; on = rw same (rw (was u o.source) at m) })) (λ p. inr (same, p)) (gains.sound u (rw (here u o.source) at (rw same at o.on)))
            | inr ne ↦ inl (record { source = o.source; target = o.target; on = rw (there (v * n + u) (apart u v o.source ne)) at o.on })
          ];
      done = λ u v hu hv r. record { source = hu; target = hv; on = rw r.0 (rw (here u hu) (gains.done u r.1)) };
    } in
    rw d adds

pub identity_preorder : (ws : List ℕ) (n : ℕ) → Identity ws n n → Preorder ws n
identity_preorder ws n i = record { reflexive = i.each; transitive = λ x y z h k. rw (i.only y z k).0 at h }
