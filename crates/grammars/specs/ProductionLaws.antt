-- The laws of rules as entries: their bytes and their order. No definition to believe, only proofs.
use Rattle.std.specs.Prelude.{◌≡◌, ℕ, ◌≤◌, true, List, [], ◌∷◌, ◌++◌, length, take, drop, slice_index, refl}
use Rattle.std.proofs.Common.{sym, ap, ap₂, ◌∙◌, arith, length-take}
use Rattle.std.proofs.lemmas.List.{drop-take, take-append-drop, take-take, take_at}
use Rattle.std.proofs.lemmas.Bool.{and_parts}
use Rattle.machine.specs.declared.row.Word.{Word}
use Rattle.machine.specs.Rows.{lawful_word}
use Rattle.machine.specs.Lists.{all}
use Rattle.entries.specs.Sorts.{Laws}
use Rattle.entries.specs.Orders.{lists_order}
use Rattle.entries.specs.RowBytes.{ten}
use Rattle.grammars.specs.declared.production.Production.{Production}
use Rattle.grammars.specs.Symbols.{is_grammar_symbol}
use Rattle.grammars.specs.Productions.{not_bottom, lawful_production, production_bytes, production_of, productions}

-- The parts of a lawful rule.
pub record Kept (p : Production) : Type 0 where
  pub left : is_grammar_symbol p.left ≡ true
  pub right : lawful_word p.right ≡ true
  pub symbols : all not_bottom p.right.symbols ≡ true

pub kept : (p : Production) → lawful_production p ≡ true → Kept p
kept p h =
    let a = and_parts (is_grammar_symbol p.left) _ h in
    let b = and_parts (lawful_word p.right) (all not_bottom p.right.symbols) a.1 in
    record { left = a.0; right = b.0; symbols = b.1 }

right_ten : (p : Production) → lawful_production p ≡ true → length p.right.symbols ≡ 10
right_ten p h = ten p.right (kept p h).right

size : (p : Production) → lawful_production p ≡ true → length (production_bytes p) ≡ 12
size p h = omega (arith, right_ten p h)

parts : (bs : List ℕ) → take 12 bs ≡ take 2 bs ++ take 10 (drop 2 bs)
parts bs =
    let a = take-take 2 12 bs (omega arith) in
    let b = drop-take 2 10 bs in
    let c = take-append-drop 2 (take 12 bs) in
    cc

two : (bs : List ℕ) → 2 ≤ length bs → slice_index bs 0 ∷ slice_index bs 1 ∷ [] ≡ take 2 bs
two [] h = absurd (omega arith)
two (a ∷ []) h = absurd (omega arith)
two (a ∷ b ∷ bs) h = refl

encodes : (bs : List ℕ) → 12 ≤ length bs → production_bytes (production_of bs) ≡ take 12 bs
encodes bs h = ap (λ xs. xs ++ take 10 (drop 2 bs)) (two bs (omega arith)) ∙ sym (parts bs)

same_production : (a b : Production) → production_bytes a ≡ production_bytes b → a ≡ b
same_production a b h =
    let p : a.left ≡ b.left = cc in
    let n : a.right.len ≡ b.right.len = cc in
    let k : a.right.symbols ≡ b.right.symbols = cc in
    let w : a.right ≡ b.right = ap₂ {C = Word} (λ l s. record { len = l; symbols = s }) n k in
    ap₂ {C = Production} (λ l r. record { left = l; right = r }) p w

decodes : (p : Production) (rest : List ℕ) → lawful_production p ≡ true → production_of (production_bytes p ++ rest) ≡ p
decodes p rest h =
    same_production (production_of (production_bytes p ++ rest)) p
    (ap (λ xs. p.left ∷ p.right.len ∷ xs) (take_at p.right.symbols rest 10 (right_ten p h)))

alone : (bs : List ℕ) → 12 ≤ length bs → production_of (take 12 bs) ≡ production_of bs
alone bs h =
    let n : 12 ≤ length (take 12 bs) = simp length-take (omega arith) in
    same_production (production_of (take 12 bs)) (production_of bs) (encodes (take 12 bs) n ∙ take-take 12 12 bs (omega arith) ∙ sym (encodes bs h))

pub productions_laws : Laws productions
productions_laws =
    record {
      nonempty = omega arith;
      size = size;
      decodes = decodes;
      encodes = encodes;
      local = alone;
      same = λ a b h. same_production a b (lists_order.same (production_bytes a) (production_bytes b) h);
      itself = λ a. lists_order.itself (production_bytes a);
      flips = λ a b. lists_order.flips (production_bytes a) (production_bytes b);
      through = λ a b c. lists_order.through (production_bytes a) (production_bytes b) (production_bytes c);
    }
