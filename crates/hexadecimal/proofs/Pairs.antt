-- The digits, taken by two.
use Rattle.std.proofs.Common.{◌≡◌, ℕ, zero, suc, ◌+◌, ◌*◌, ◌%◌, ◌<◌, ◌≤◌, List, [], ◌∷◌, ◌++◌, length, get_or, drop, Some, None, Option, sym, refl, ap, ◌∙◌, append_assoc, append-nil, arith}
use Rattle.std.proofs.lemmas.List.{drop_more, drop_all}
use Rattle.std.specs.Option.{option_map}
use Rattle.std.specs.Simd.{first_chunks}
use Rattle.hexadecimal.specs.Digits.{digit_of, byte_of, before, bytes_of}

before_none : (b : Option ℕ) → before b None ≡ None
before_none None = refl
before_none (Some b) = refl

pub odd_none : (cs : List ℕ) → (length cs % 2 ≡ 0 → ⊥) → bytes_of cs ≡ None
odd_none [] h = absurd (h refl)
odd_none (a ∷ []) h = refl
odd_none (a ∷ (b ∷ cs)) h =
    ap (before (byte_of (digit_of a) (digit_of b))) (odd_none cs (λ e. h (omega arith)))
    ∙ before_none (byte_of (digit_of a) (digit_of b))

-- The bytes that the pairs write out.
abbrev pub bytes_of_pairs : List (List ℕ) → Option (List ℕ)
bytes_of_pairs [] = Some []
bytes_of_pairs (p ∷ ps) = before (byte_of (digit_of (get_or p 0 0)) (digit_of (get_or p 1 0))) (bytes_of_pairs ps)

pub pairs_whole : (k : ℕ) (cs : List ℕ) → length cs ≡ k * 2 → bytes_of_pairs (first_chunks 2 k cs) ≡ bytes_of cs
pairs_whole zero [] h = refl
pairs_whole zero (a ∷ cs) h = absurd (omega arith)
pairs_whole (suc k) [] h = absurd (omega arith)
pairs_whole (suc k) (a ∷ []) h = absurd (omega arith)
pairs_whole (suc k) (a ∷ (b ∷ cs)) h =
    ap (before (byte_of (digit_of a) (digit_of b))) (pairs_whole k cs (omega arith))

-- A byte pushed goes before those of the pairs that are left.
moved : (done : List ℕ) (b : ℕ) (o : Option (List ℕ))
    → option_map (λ rest. (done ++ b ∷ []) ++ rest) o ≡ option_map (λ rest. done ++ rest) (before (Some b) o)
moved done b None = refl
moved done b (Some bs) = ap Some (append_assoc done (b ∷ []) bs)

-- What is pushed, before the bytes of the pairs that are left, is the whole.
pub record Left (ps : List (List ℕ)) (i : ℕ) (done : List ℕ) : Type 0 where
  pub whole : option_map (λ rest. done ++ rest) (bytes_of_pairs (drop i ps)) ≡ bytes_of_pairs ps

module _ {ps : List (List ℕ)} {i : ℕ} {done : List ℕ} (old : Left ps i done) where
  next_pair : i < length ps → bytes_of_pairs (drop i ps)
      ≡ before (byte_of (digit_of (get_or (get_or ps i []) 0 0)) (digit_of (get_or (get_or ps i []) 1 0))) (bytes_of_pairs (drop (i + 1) ps))
  next_pair h = ap bytes_of_pairs (drop_more ps i [] h)

  pub byte_more : {items : List ℕ} (b : ℕ) → items ≡ done ++ b ∷ [] → i < length ps
      → Some b ≡ byte_of (digit_of (get_or (get_or ps i []) 0 0)) (digit_of (get_or (get_or ps i []) 1 0))
      → Left ps (i + 1) items
  byte_more b e h is = record {
    whole =
        ap (λ x. option_map (λ rest. x ++ rest) (bytes_of_pairs (drop (i + 1) ps))) e
        ∙ moved done b (bytes_of_pairs (drop (i + 1) ps))
        ∙ ap (λ x. option_map (λ rest. done ++ rest) (before x (bytes_of_pairs (drop (i + 1) ps)))) is
        ∙ ap (option_map (λ rest. done ++ rest)) (sym (next_pair h)) ∙ old.whole;
  }

  pub byte_bad : i < length ps → None ≡ byte_of (digit_of (get_or (get_or ps i []) 0 0)) (digit_of (get_or (get_or ps i []) 1 0))
      → None ≡ bytes_of_pairs ps
  byte_bad h is =
      ap (λ x. option_map (λ rest. done ++ rest) (before x (bytes_of_pairs (drop (i + 1) ps)))) is
      ∙ ap (option_map (λ rest. done ++ rest)) (sym (next_pair h)) ∙ old.whole

  pub byte_all : length ps ≤ i → Some done ≡ bytes_of_pairs ps
  byte_all h =
      sym (ap Some (append-nil done)) ∙ ap (λ r. option_map (λ rest. done ++ rest) (bytes_of_pairs r)) (sym (drop_all i ps h)) ∙ old.whole
