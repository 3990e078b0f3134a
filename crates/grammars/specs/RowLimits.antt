-- The rows of a lawful grammar's machine keep their limits. No definition to believe, only proofs.
use Rattle.std.specs.Prelude.{◌≡◌, ℕ, Bool, true, List, [], ◌∷◌, ◌++◌, map, nat_lt, refl}
use Rattle.std.proofs.Common.{arith}
use Rattle.std.proofs.lemmas.Bool.{and_parts, and_from, ltb-true, lt-ltb}
use Rattle.machine.specs.declared.row.Row.{Row}
use Rattle.machine.specs.Rows.{is_byte, is_symbol, lawful_word, lawful_row}
use Rattle.machine.specs.Lists.{all}
use Rattle.grammars.specs.declared.symbol.Symbol.{Symbol}
use Rattle.grammars.specs.declared.production.Production.{Production}
use Rattle.grammars.specs.Symbols.{is_grammar_symbol, symbols}
use Rattle.grammars.specs.Productions.{lawful_production}
use Rattle.grammars.specs.ProductionLaws.{kept}
use Rattle.grammars.specs.Grammars.{GrammarLists}
use Rattle.grammars.specs.Machines.{one_symbol, start_row, production_row, terminal_row, rows_of}

-- A grammar symbol is a byte, and may stand on the stack.
module _ (s : ℕ) (h : is_grammar_symbol s ≡ true) where
  byte : is_byte s ≡ true
  byte = let k = ltb-true s 255 (and_parts (nat_lt 0 s) (nat_lt s 255) h).1 in lt-ltb s 256 (omega arith)

  stack_symbol : is_symbol s ≡ true
  stack_symbol = and_from (nat_lt 0 s) (is_byte s) (and_parts (nat_lt 0 s) (nat_lt s 255) h).0 byte

lawful_start : (s : Symbol) → symbols.lawful s ≡ true → lawful_row (start_row s) ≡ true
lawful_start s h = and_from (is_symbol s.0) true (stack_symbol s.0 h) refl

lawful_rule : (p : Production) → lawful_production p ≡ true → lawful_row (production_row p) ≡ true
lawful_rule p h =
    let k = kept p h in
    and_from (lawful_word (one_symbol p.left)) (lawful_word p.right) (and_from (is_symbol p.left) true (stack_symbol p.left k.left) refl) k.right

lawful_terminal : (a : Symbol) → symbols.lawful a ≡ true → lawful_row (terminal_row a) ≡ true
lawful_terminal a h =
    and_from (is_byte a.0) _ (byte a.0 h)
    (and_from (lawful_word (one_symbol a.0)) true (and_from (is_symbol a.0) true (stack_symbol a.0 h) refl) refl)

all_map : {X : Type 0} (ok : X → Bool) (f : X → Row) → ((x : X) → ok x ≡ true → lawful_row (f x) ≡ true) → (xs : List X) → all ok xs ≡ true → all lawful_row (map f xs) ≡ true
all_map ok f each [] h = refl
all_map ok f each (x ∷ xs) h =
    let k = and_parts (ok x) (all ok xs) h in
    and_from (lawful_row (f x)) (all lawful_row (map f xs)) (each x k.0) (all_map ok f each xs k.1)

all_append : (xs ys : List Row) → all lawful_row xs ≡ true → all lawful_row ys ≡ true → all lawful_row (xs ++ ys) ≡ true
all_append [] ys h k = k
all_append (x ∷ xs) ys h k =
    let i = and_parts (lawful_row x) (all lawful_row xs) h in
    and_from (lawful_row x) (all lawful_row (xs ++ ys)) i.0 (all_append xs ys i.1 k)

pub rows_lawful : (g : GrammarLists) → all symbols.lawful g.starts ≡ true → all symbols.lawful g.terminals ≡ true → all lawful_production g.productions ≡ true
    → all lawful_row (rows_of g) ≡ true
rows_lawful g s t p =
    all_append (map start_row g.starts) _ (all_map symbols.lawful start_row lawful_start g.starts s)
    (all_append (map production_row g.productions) _ (all_map lawful_production production_row lawful_rule g.productions p)
    (all_append (map terminal_row g.terminals) _ (all_map symbols.lawful terminal_row lawful_terminal g.terminals t) refl))
