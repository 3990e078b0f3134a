-- The rows of a grammar's machine, place by place, and the states between which they lead.
use Rattle.std.proofs.Common.{◌≡◌, ℕ, ◌+◌, ◌<◌, ◌≤◌, List, [], ◌∷◌, ◌++◌, map, length, get_or, sym, refl, ap, ◌∙◌, add_assoc, arith}
use Rattle.std.proofs.lemmas.List.{length-append, length-map, get_or_append_left, get_or-append-add, get_or-map, get_or_past}
use Rattle.machine.specs.declared.row.Row.{Row}
use Rattle.machine.specs.Rows.{zero_row}
use Rattle.machine.specs.Lists.{above, ends, width_of}
use Rattle.grammars.specs.declared.symbol.Symbol.{Symbol}
use Rattle.grammars.specs.Symbols.{symbol}
use Rattle.grammars.specs.Productions.{zero_production}
use Rattle.grammars.specs.Grammars.{GrammarLists, numbers_of}
use Rattle.grammars.specs.Machines.{start_row, production_row, terminal_row, last_row, rows_of, machine_of}

module _ {X : Type 0} (f : X → Row) (xs : List X) (ys : List Row) where
  within : (d : X) (i : ℕ) → i < length xs → get_or (map f xs ++ ys) i zero_row ≡ f (get_or xs i d)
  within d i h =
      let l : i < length (map f xs) = simp length-map (omega arith) in
      get_or_append_left (map f xs) ys zero_row i l ∙ get_or-map f xs i d zero_row h

  behind : (p i : ℕ) → p ≡ length xs + i → get_or (map f xs ++ ys) p zero_row ≡ get_or ys i zero_row
  behind p i e =
      ap (λ k. get_or (map f xs ++ ys) k zero_row) (e ∙ ap (λ n. n + i) (sym (length-map xs f))) ∙ get_or-append-add (map f xs) ys i zero_row

numbered : (ss : List Symbol) (i : ℕ) (n : ℕ) → i < length ss → n ≡ get_or (numbers_of ss) i 0 → symbol n ≡ get_or ss i (symbol 0)
numbered ss i n h e = ap symbol (e ∙ get_or-map (λ (s : Symbol). s.0) ss i (symbol 0) 0 h)

module _ (g : GrammarLists) where
  abbrev terminal_rows : List Row
  terminal_rows = map terminal_row g.terminals ++ last_row ∷ []

  abbrev production_rows : List Row
  production_rows = map production_row g.productions ++ terminal_rows

  pub at_start : (p i n : ℕ) → i < length g.starts → p ≡ i → n ≡ get_or (numbers_of g.starts) i 0 → start_row (symbol n) ≡ get_or (rows_of g) p zero_row
  at_start p i n h e k =
      ap start_row (numbered g.starts i n h k) ∙ sym (within start_row g.starts production_rows (symbol 0) i h) ∙ ap (λ j. get_or (rows_of g) j zero_row) (sym e)

  pub at_production : (p i : ℕ) → i < length g.productions → p ≡ length g.starts + i → production_row (get_or g.productions i zero_production) ≡ get_or (rows_of g) p zero_row
  at_production p i h e = sym (behind start_row g.starts production_rows p i e ∙ within production_row g.productions terminal_rows zero_production i h)

  past_productions : (p i : ℕ) → p ≡ length g.starts + length g.productions + i → get_or (rows_of g) p zero_row ≡ get_or terminal_rows i zero_row
  past_productions p i e =
      behind start_row g.starts production_rows p (length g.productions + i) (e ∙ add_assoc (length g.starts) (length g.productions) i)
      ∙ behind production_row g.productions terminal_rows (length g.productions + i) i refl

  pub at_terminal : (p i n : ℕ) → i < length g.terminals → p ≡ length g.starts + length g.productions + i → n ≡ get_or (numbers_of g.terminals) i 0
      → terminal_row (symbol n) ≡ get_or (rows_of g) p zero_row
  at_terminal p i n h e k =
      ap terminal_row (numbered g.terminals i n h k) ∙ sym (past_productions p i e ∙ within terminal_row g.terminals (last_row ∷ []) (symbol 0) i h)

  pub at_last : (p : ℕ) → p ≡ length g.starts + length g.productions + length g.terminals → last_row ≡ get_or (rows_of g) p zero_row
  at_last p e =
      let z : length g.terminals ≡ length g.terminals + 0 = omega arith in
      sym (past_productions p (length g.terminals) e ∙ behind terminal_row g.terminals (last_row ∷ []) (length g.terminals) 0 z)

  pub count : length (rows_of g) ≡ length g.starts + length g.productions + length g.terminals + 1
  count = simp (length-append, length-map) (omega arith)

  pub past : (p : ℕ) → length g.starts + length g.productions + length g.terminals < p → zero_row ≡ get_or (rows_of g) p zero_row
  past p h = let l : length (rows_of g) ≤ p = omega (arith, count) in sym (get_or_past (rows_of g) p zero_row l)

-- Rows between the states 0 to 2.
low_map : {X : Type 0} (f : X → Row) → ((x : X) → (f x).from ≤ 2) → ((x : X) → (f x).to ≤ 2) → (xs : List X) (rs : List Row) → above (ends rs) ≤ 3 → above (ends (map f xs ++ rs)) ≤ 3
low_map f a b [] rs h = h
low_map f a b (x ∷ xs) rs h = let i = low_map f a b xs rs h in let j = a x in let k = b x in omega arith

pub width : (g : GrammarLists) → width_of (machine_of g) ≡ 3
width g =
    let l : above (ends (last_row ∷ [])) ≤ 3 = omega arith in
    let t = low_map terminal_row (λ a. omega arith) (λ a. omega arith) g.terminals (last_row ∷ []) l in
    let p = low_map production_row (λ p. omega arith) (λ p. omega arith) g.productions (terminal_rows g) t in
    let s = low_map start_row (λ s. omega arith) (λ s. omega arith) g.starts (production_rows g) p in
    omega arith
