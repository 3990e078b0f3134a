-- A grammar: a file of three sections, of start symbols, of terminals and of rules. No terminal is a start symbol or a left side.
use Rattle.std.specs.Prelude.{◌≡◌, ℕ, ◌+◌, Bool, true, false, cond, ◌||◌, ◌↔◌, List, [], ◌∷◌, map, Some, None, Ok, Err, Option, Result, ◌==◌}
use mathlib.Core.List.{Memᴰ}
use Rattle.machine.specs.declared.fault.Fault.{Fault}
use Rattle.machine.specs.declared.fault.Rule.TheVariants.{Terminal}
use Rattle.machine.specs.Faults.{fault}
use Rattle.machine.specs.Rows.{is_byte}
use Rattle.machine.specs.Lists.{all}
use Rattle.entries.specs.Sections.{and_then, Lawful}
use Rattle.entries.specs.Files.{Layout, layout_of, Content, read_file, encode_file}
use Rattle.grammars.specs.declared.symbol.Symbol.{Symbol}
use Rattle.grammars.specs.declared.production.Production.{Production}
use Rattle.grammars.specs.Symbols.{symbols}
use Rattle.grammars.specs.Productions.{productions}

pub record GrammarLists : Type 0 where
  pub starts : List Symbol
  pub terminals : List Symbol
  pub productions : List Production

-- At most 254 start symbols, 254 terminals and 512 rules.
abbrev pub grammar_layout : Layout Symbol Symbol Production
grammar_layout = layout_of symbols symbols productions 254 254 512

-- The lists of a grammar as the content of three sections, and back.
abbrev pub content_of : GrammarLists → Content Symbol Symbol Production
content_of g = record { first = g.starts; second = g.terminals; third = g.productions }

abbrev pub lists_from : Content Symbol Symbol Production → GrammarLists
lists_from c = record { starts = c.first; terminals = c.second; productions = c.third }

-- The numbers of symbols, and the left sides of rules.
abbrev pub numbers_of : List Symbol → List ℕ
numbers_of ss = map (λ s. s.0) ss

abbrev pub lefts_of : List Production → List ℕ
lefts_of ps = map (λ p. p.left) ps

-- The symbol is one of these.
abbrev pub is_among : ℕ → List ℕ → Bool
is_among s [] = false
is_among s (t ∷ ts) = t == s || is_among s ts

-- The first place, counted from p on, at which a symbol is one of the terminals ts.
abbrev pub first_terminal : List ℕ → ℕ → List ℕ → Option ℕ
first_terminal ts p [] = None
first_terminal ts p (s ∷ ss) = cond (is_among s ts) (Some p) (first_terminal ts (p + 1) ss)

-- The place of the first start symbol that is a terminal, and of the first rule whose left side is one.
abbrev pub terminal_start : GrammarLists → Option ℕ
terminal_start g = first_terminal (numbers_of g.terminals) 0 (numbers_of g.starts)

abbrev pub terminal_left : GrammarLists → Option ℕ
terminal_left g = first_terminal (numbers_of g.terminals) 0 (lefts_of g.productions)

-- A terminal that stands at a place of the section s is a fault; else go on.
abbrev pub unless : {X : Type 0} → ℕ → Option ℕ → Result X Fault → Result X Fault
unless s None o = o
unless s (Some p) o = Err (fault Terminal s p)

-- The lists where no terminal is a start symbol or a left side; else the first fault, in section 1 and then in section 3.
abbrev pub check_terminals : GrammarLists → Result GrammarLists Fault
check_terminals g = unless 1 (terminal_start g) (unless 3 (terminal_left g) (Ok g))

-- The lists in the sections, whatever the terminals are.
abbrev pub read_grammar : List ℕ → Result GrammarLists Fault
read_grammar bs = and_then (read_file grammar_layout bs) (λ c. Ok (lists_from c))

-- What opening bytes gives: the lists of the grammar, or the first fault.
abbrev pub open_grammar : List ℕ → Result GrammarLists Fault
open_grammar bs = and_then (read_grammar bs) check_terminals

-- The lists that were found; none for bytes that are refused.
abbrev pub listed : Result GrammarLists Fault → GrammarLists
listed (Ok g) = g
listed (Err f) = record { starts = []; terminals = []; productions = [] }

abbrev pub read_lists : List ℕ → GrammarLists
read_lists bs = listed (read_grammar bs)

abbrev pub grammar_of : List ℕ → GrammarLists
grammar_of bs = listed (open_grammar bs)

-- None of the symbols is a terminal.
abbrev pub Apart : List ℕ → List ℕ → Type 0
Apart ts ss = (s : ℕ) → Memᴰ s ss → Memᴰ s ts → ⊥

-- Lists that are a grammar.
pub record LawfulGrammar (g : GrammarLists) : Type 0 where
  pub starts : Lawful symbols 254 g.starts
  pub terminals : Lawful symbols 254 g.terminals
  pub productions : Lawful productions 512 g.productions
  pub no_start : Apart (numbers_of g.terminals) (numbers_of g.starts)
  pub no_left : Apart (numbers_of g.terminals) (lefts_of g.productions)

abbrev pub encode_grammar : GrammarLists → List ℕ
encode_grammar g = encode_file grammar_layout (content_of g)

-- Opening and encoding invert each other.
pub record GrammarLaws : Type 0 where
  -- bytes open exactly when they are the encoding of a lawful grammar, and then as that grammar
  pub exactly : (bs : List ℕ) (g : GrammarLists) → all is_byte bs ≡ true → (open_grammar bs ≡ Ok g) ↔ (LawfulGrammar g × (bs ≡ encode_grammar g))
  -- two lawful grammars with the same bytes have the same lists
  pub same : (g h : GrammarLists) → LawfulGrammar g → LawfulGrammar h → encode_grammar g ≡ encode_grammar h → g ≡ h
