-- Numbers that are read one after the other, each after a space.
use Rattle.std.proofs.Common.{◌≡◌, ℕ, zero, suc, ◌+◌, ◌-◌, ◌<◌, ◌≤◌, List, [], ◌∷◌, ◌++◌, length, take, drop, set, replicate, Some, None, sym, refl, ap, ◌∙◌, append_assoc, append-nil, arith, sub-one, length-set, take-append-drop, length-take}
use Rattle.std.proofs.lemmas.List.{take_more_set, drop-set-lt, drop-drop, drop-replicate}
use Rattle.texts.specs.Reading.{Read, read, put_front, read_spaced, read_some, word_of}
use Rattle.texts.proofs.Leaves.{after_spaced}

pub some_more : (left : ℕ) (rest : List ℕ) (b : Read ℕ) → 0 < left → read_spaced rest ≡ Some b
    → read_some left rest ≡ put_front b.value (read_some (left - 1) b.rest)
unfolding read_some
some_more zero rest b h e = absurd (omega arith)
some_more (suc k) rest b h e = rw (e, sub-one)

pub some_stop : (left : ℕ) (rest : List ℕ) → read_spaced rest ≡ None → read_some left rest ≡ read [] rest
unfolding read_some
some_stop zero rest e = refl
some_stop (suc k) rest e = rw e

some_none : (left : ℕ) (rest : List ℕ) → left ≡ 0 → read_some left rest ≡ read [] rest
unfolding read_some
some_none zero rest e = refl
some_none (suc k) rest e = absurd (omega arith)

abbrev onto : List ℕ → Read (List ℕ) → Read (List ℕ)
onto seen r = read (seen ++ r.value) r.rest

-- What was read so far, with what is left to read, is all.
pub record Seen (most : ℕ) (text : List ℕ) (left : ℕ) (seen rest : List ℕ) : Type 0 where
  pub whole : onto seen (read_some left rest) ≡ read_some most text

module _ {most left : ℕ} {text seen rest : List ℕ} (old : Seen most text left seen rest) where
  pub seen_more : {b k : ℕ} {next more : List ℕ} → read_spaced rest ≡ Some (read b next) → 0 < left → k ≡ left - 1
      → more ≡ seen ++ b ∷ [] → Seen most text k more next
  seen_more {b} {k} {next} {more} e some down added = record {
    whole =
        rw (added, append_assoc, down) (ap (onto seen) (sym (some_more left rest (read b next) some e)) ∙ old.whole);
  }

  ending : read_some left rest ≡ read [] rest → read_some most text ≡ read seen rest
  ending e = sym old.whole ∙ rw (e, append-nil)

  pub seen_stop : read_spaced rest ≡ None → read_some most text ≡ read seen rest
  seen_stop e = ending (some_stop left rest e)

  pub seen_all : left ≡ 0 → read_some most text ≡ read seen rest
  seen_all e = ending (some_none left rest e)

-- The same, where the text is all that bounds how many there may be.
pub record Begun (text seen rest : List ℕ) : Type 0 where
  pub left : ℕ
  pub enough : length rest ≤ left
  pub so_far : Seen (length text) text left seen rest

pub begun_more : {text seen rest next more : List ℕ} {b : ℕ} → Begun text seen rest → read_spaced rest ≡ Some (read b next)
    → more ≡ seen ++ b ∷ [] → Begun text more next
begun_more {rest = rest} {next = next} {b = b} old e added =
    let s = after_spaced rest (read b next) e in
    record {
      left = old.left - 1;
      enough = omega (arith, old.enough);
      so_far = seen_more old.so_far e (omega (arith, old.enough)) refl added;
    }

pub begun_stop : {text seen rest : List ℕ} → Begun text seen rest → read_spaced rest ≡ None → read_some (length text) text ≡ read seen rest
begun_stop old e = seen_stop old.so_far e

zeros_more : (symbols : List ℕ) (i b : ℕ) → drop i symbols ≡ replicate (10 - i) 0
    → drop (i + 1) (set symbols i b) ≡ replicate (10 - (i + 1)) 0
zeros_more symbols i b e =
    drop-set-lt (i + 1) symbols i b (omega arith) ∙ sym (drop-drop 1 i symbols) ∙ ap (drop 1) e
    ∙ drop-replicate 1 (10 - i) 0 ∙ ap (λ k. replicate k 0) one_less
  where
    one_less : 10 - i - 1 ≡ 10 - (i + 1)
    one_less = omega arith

-- A word that is filled from the front: the symbols so far, and zeros after them.
pub record Filled (text symbols : List ℕ) (place : ℕ) (rest : List ℕ) : Type 0 where
  pub seen : Seen 10 text (10 - place) (take place symbols) rest
  pub zeros : drop place symbols ≡ replicate (10 - place) 0
  pub ten : length symbols ≡ 10

module _ {text symbols rest : List ℕ} {place : ℕ} (old : Filled text symbols place rest) where
  pub filled_more : {b : ℕ} {next : List ℕ} → read_spaced rest ≡ Some (read b next) → place < 10
      → Filled text (set symbols place b) (place + 1) next
  filled_more {b} {next} e l =
      let h : place < length symbols = omega (arith, old.ten) in
      record {
        seen = seen_more old.seen e (omega arith) (omega arith) (take_more_set symbols place b h);
        zeros = zeros_more symbols place b old.zeros;
        ten = length-set symbols place b ∙ old.ten;
      }

  pub filled_word : {len : ℕ} → len ≡ place → place ≤ 10 → read_some 10 text ≡ read (take place symbols) rest
      → read (record { len = len; symbols = symbols }) rest
      ≡ read (word_of (read_some 10 text).value) (read_some 10 text).rest
  filled_word {len} k l e =
      let n : length (take place symbols) ≡ place = simp length-take (omega (arith, old.ten)) in
      let z : symbols ≡ take place symbols ++ replicate (10 - place) 0 =
      sym (take-append-drop place symbols) ∙ ap (λ s. take place symbols ++ s) old.zeros in
      rw (e, n, ← z, k)
