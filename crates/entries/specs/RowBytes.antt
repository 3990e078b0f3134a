-- The bytes of a row, and the order of rows. No definition to believe, only proofs.
use Rattle.std.specs.Prelude.{◌≡◌, ℕ, ◌+◌, ◌≤◌, true, List, [], ◌∷◌, ◌++◌, length, take, drop, ◌==◌, slice_index, refl}
use Rattle.std.specs.declared.cmp.Ordering.{Ordering}
use Rattle.std.proofs.Common.{sym, ap, ap₂, ◌∙◌, append_assoc, arith, length-append, length-take}
use Rattle.std.specs.Ordering.{ordering_then}
use Rattle.std.proofs.lemmas.List.{drop-take, take-append-drop, take-take, drop-drop, take_at, drop_at}
use Rattle.std.proofs.lemmas.Bool.{and_parts, eqb-true}
use Rattle.machine.specs.declared.row.Word.{Word}
use Rattle.machine.specs.declared.row.Row.{Row}
use Rattle.machine.specs.Rows.{lawful_row, lawful_word, is_byte, padded}
use Rattle.entries.specs.Sorts.{Laws, lexical}
use Rattle.entries.specs.Rows.{heads, row_bytes, row_of, row_rank, rows}
use Rattle.entries.specs.Orders.{Order, paired, lists_order, lexical-append, then_assoc}

pub ten : (w : Word) → lawful_word w ≡ true → length w.symbols ≡ 10
ten w h = eqb-true (length w.symbols) 10 (and_parts (length w.symbols == 10) (padded w.len w.symbols) h).0

-- Both words of a lawful row have ten bytes.
pub words_ten : (r : Row) → lawful_row r ≡ true → (length r.popped.symbols ≡ 10) × (length r.pushed.symbols ≡ 10)
words_ten r h =
    let a = (and_parts (is_byte r.from) _ h).1 in
    let b = (and_parts (is_byte r.letter) _ a).1 in
    let c = (and_parts (is_byte r.to) _ b).1 in
    let d = and_parts (lawful_word r.popped) (lawful_word r.pushed) c in
    (ten r.popped d.0, ten r.pushed d.1)

size : (r : Row) → lawful_row r ≡ true → length (row_bytes r) ≡ 25
size r h = let t = words_ten r h in let a = length-append r.popped.symbols r.pushed.symbols in omega (arith, t.0, t.1)

-- the n and the m bytes after them
cut : (n m : ℕ) (bs : List ℕ) → take (n + m) bs ≡ take n bs ++ take m (drop n bs)
cut n m bs =
    let l : n ≤ n + m = omega arith in
    let a = take-take n (n + m) bs l in
    let b = drop-take n m bs in
    let c = take-append-drop n (take (n + m) bs) in
    cc

parts : (bs : List ℕ) → take 25 bs ≡ take 5 bs ++ (take 10 (drop 5 bs) ++ take 10 (drop 15 bs))
parts bs = cut 5 20 bs ∙ ap (λ xs. take 5 bs ++ xs) (cut 10 10 (drop 5 bs) ∙ ap (λ xs. take 10 (drop 5 bs) ++ take 10 xs) (drop-drop 10 5 bs))

five : (bs : List ℕ) → 5 ≤ length bs → slice_index bs 0 ∷ slice_index bs 1 ∷ slice_index bs 2 ∷ slice_index bs 3 ∷ slice_index bs 4 ∷ [] ≡ take 5 bs
five [] h = absurd (omega arith)
five (a ∷ []) h = absurd (omega arith)
five (a ∷ b ∷ []) h = absurd (omega arith)
five (a ∷ b ∷ c ∷ []) h = absurd (omega arith)
five (a ∷ b ∷ c ∷ d ∷ []) h = absurd (omega arith)
five (a ∷ b ∷ c ∷ d ∷ e ∷ bs) h = refl

encodes : (bs : List ℕ) → 25 ≤ length bs → row_bytes (row_of bs) ≡ take 25 bs
encodes bs h = ap (λ xs. xs ++ (take 10 (drop 5 bs) ++ take 10 (drop 15 bs))) (five bs (omega arith)) ∙ sym (parts bs)

same_row : (a b : Row) → heads a ≡ heads b → (a.popped.symbols ≡ b.popped.symbols) × (a.pushed.symbols ≡ b.pushed.symbols) → a ≡ b
same_row a b h k =
    let p : a.from ≡ b.from = cc in
    let q : a.letter ≡ b.letter = cc in
    let r : a.to ≡ b.to = cc in
    let m : a.popped.len ≡ b.popped.len = cc in
    let n : a.pushed.len ≡ b.pushed.len = cc in
    let v : a.popped ≡ b.popped = ap₂ {C = Word} (λ l s. record { len = l; symbols = s }) m k.0 in
    let w : a.pushed ≡ b.pushed = ap₂ {C = Word} (λ l s. record { len = l; symbols = s }) n k.1 in
    let mk : ℕ → ℕ → ℕ → Word → Word → Row = λ f l t u v. record { from = f; letter = l; to = t; popped = u; pushed = v } in
    let e : mk a.from a.letter a.to a.popped a.pushed ≡ mk b.from b.letter b.to b.popped b.pushed = cc in
    e

decodes : (r : Row) (rest : List ℕ) → lawful_row r ≡ true → row_of (row_bytes r ++ rest) ≡ r
decodes r rest h =
    let t = words_ten r h in
    let p : List ℕ = r.popped.symbols in
    let q : List ℕ = r.pushed.symbols in
    let a : take 10 ((p ++ q) ++ rest) ≡ p = ap (take 10) (append_assoc p q rest) ∙ take_at p (q ++ rest) 10 t.0 in
    let b : take 10 (drop 10 ((p ++ q) ++ rest)) ≡ q = ap (λ xs. take 10 (drop 10 xs)) (append_assoc p q rest) ∙ ap (take 10) (drop_at p (q ++ rest) 10 t.0) ∙ take_at q rest 10 t.1 in
    same_row (row_of (row_bytes r ++ rest)) r refl (a, b)

-- the ten bytes from a place on are among the first twenty-five
ten_of : (bs : List ℕ) (k j : ℕ) → k + (10 + j) ≡ 25 → take 10 (drop k (take 25 bs)) ≡ take 10 (drop k bs)
ten_of bs k j e =
    ap (λ n. take 10 (drop k (take n bs))) (sym e) ∙ ap (take 10) (drop-take k (10 + j) bs) ∙ take-take 10 (10 + j) (drop k bs) (omega arith)

heads_of : (bs : List ℕ) → 25 ≤ length bs → heads (row_of (take 25 bs)) ≡ heads (row_of bs)
heads_of bs h =
    let n : 5 ≤ length (take 25 bs) = simp length-take (omega arith) in
    five (take 25 bs) n ∙ take-take 5 25 bs (omega arith) ∙ sym (five bs (omega arith))

alone : (bs : List ℕ) → 25 ≤ length bs → row_of (take 25 bs) ≡ row_of bs
alone bs h = same_row (row_of (take 25 bs)) (row_of bs) (heads_of bs h) (ten_of bs 5 10 refl, ten_of bs 15 0 refl)

abbrev Symbols : Type 0
Symbols = List ℕ × List ℕ

heads_popped : Order (λ (a b : List ℕ × List ℕ). ordering_then (lexical a.0 b.0) (lexical a.1 b.1))
heads_popped = paired lexical lists_order lexical lists_order (λ (p : Symbols). p.0) (λ (p : Symbols). p.1) (λ p q h k. ap₂ {C = Symbols} (λ x y. (x, y)) h k)

rows_order : Order row_rank
rows_order =
    paired (λ (a b : Symbols). ordering_then (lexical a.0 b.0) (lexical a.1 b.1)) heads_popped lexical lists_order
    (λ (r : Row). (heads r, r.popped.symbols)) (λ (r : Row). r.pushed.symbols)
    (λ a b h k. same_row a b (ap (λ (p : Symbols). p.0) h) (ap (λ (p : Symbols). p.1) h, k))

pub rows_laws : Laws rows
rows_laws =
    record {
      nonempty = omega arith;
      size = size;
      decodes = decodes;
      encodes = encodes;
      local = alone;
      same = rows_order.same;
      itself = rows_order.itself;
      flips = rows_order.flips;
      through = rows_order.through;
    }

-- Rows whose words have as many bytes are ordered as their bytes are.
pub by_bytes : (a b : Row) → length a.popped.symbols ≡ length b.popped.symbols → row_rank a b ≡ lexical (row_bytes a) (row_bytes b)
by_bytes a b h =
    let x : Ordering = lexical (heads a) (heads b) in
    let y : Ordering = lexical a.popped.symbols b.popped.symbols in
    then_assoc x y (lexical a.pushed.symbols b.pushed.symbols)
    ∙ ap (ordering_then x) (sym (lexical-append a.popped.symbols b.popped.symbols a.pushed.symbols b.pushed.symbols h))
    ∙ sym (lexical-append (heads a) (heads b) (a.popped.symbols ++ a.pushed.symbols) (b.popped.symbols ++ b.pushed.symbols) refl)

-- So are lawful rows.
pub bytewise : (a b : Row) → lawful_row a ≡ true → lawful_row b ≡ true → row_rank a b ≡ lexical (row_bytes a) (row_bytes b)
bytewise a b h k = by_bytes a b ((words_ten a h).0 ∙ sym (words_ten b k).0)
