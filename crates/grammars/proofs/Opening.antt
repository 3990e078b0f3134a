-- The laws of opening, from those of any file of three sections.
use Rattle.std.proofs.Common.{◌≡◌, ℕ, List, take, Some, None, Ok, Err, Option, Result, sym, refl, ap, ◌∙◌, arith}
use Rattle.machine.specs.declared.fault.Fault.{Fault}
use Rattle.entries.specs.Sections.{and_then}
use Rattle.entries.specs.Files.{Content, read_file, LawfulFile, FileLaws}
use Rattle.entries.proofs.Files as files
use Rattle.grammars.specs.declared.symbol.Symbol.{Symbol}
use Rattle.grammars.specs.declared.production.Production.{Production}
use Rattle.grammars.specs.SymbolLaws.{symbols_laws}
use Rattle.grammars.specs.ProductionLaws.{productions_laws}
use Rattle.grammars.specs.Grammars.{GrammarLists, grammar_layout, content_of, lists_from, numbers_of, lefts_of, terminal_start, terminal_left, unless, check_terminals, read_grammar, open_grammar, listed, read_lists, grammar_of, Apart, LawfulGrammar, GrammarLaws}
use Rattle.grammars.specs.declared.sections.Sections.{Sections}
use Rattle.grammars.specs.Facts.{by_check}
use Rattle.grammars.proofs.Lookups.{none_apart, apart_none}

pub by_starts : (g : GrammarLists) (o : Option ℕ) → o ≡ terminal_start g → check_terminals g ≡ unless 1 o (unless 3 (terminal_left g) (Ok g))
by_starts g o e = ap (λ x. unless 1 x (unless 3 (terminal_left g) (Ok g))) (sym e)

pub by_lefts : (g : GrammarLists) (o : Option ℕ) → o ≡ terminal_left g → unless 3 (terminal_left g) (Ok g) ≡ unless 3 o (Ok g)
by_lefts g o e = ap (λ x. unless 3 x (Ok g)) (sym e)

-- What a check that found no fault tells.
passed_by : (g h : GrammarLists) (o p : Option ℕ) → unless 1 o (unless 3 p (Ok g)) ≡ Ok h → (o ≡ None) × (p ≡ None) × (g ≡ h)
passed_by g h None None e = let k : g ≡ h = cc in (refl, refl, k)
passed_by g h None (Some p) e = absurd (let z : ◌≡◌ {A = ℕ} 0 1 = cc in omega arith)
passed_by g h (Some o) p e = absurd (let z : ◌≡◌ {A = ℕ} 0 1 = cc in omega arith)

passes : (g : GrammarLists) → Apart (numbers_of g.terminals) (numbers_of g.starts) → Apart (numbers_of g.terminals) (lefts_of g.productions) → check_terminals g ≡ Ok g
passes g s l = by_starts g None (sym (apart_none _ 0 _ s)) ∙ by_lefts g None (sym (apart_none _ 0 _ l))

file_laws : FileLaws grammar_layout
file_laws = files.laws grammar_layout symbols_laws symbols_laws productions_laws

-- Bytes that opened were read, and their lists passed the check.
pub record Opened (o : Result (Content Symbol Symbol Production) Fault) (g : GrammarLists) : Type 0 where
  pub read : o ≡ Ok (content_of g)
  pub no_start : Apart (numbers_of g.terminals) (numbers_of g.starts)
  pub no_left : Apart (numbers_of g.terminals) (lefts_of g.productions)

opened : (o : Result (Content Symbol Symbol Production) Fault) (g : GrammarLists) → and_then (and_then o (λ c. Ok (lists_from c))) check_terminals ≡ Ok g → Opened o g
opened (Ok c) g h =
    let n : GrammarLists = lists_from c in
    let k = passed_by n g (terminal_start n) (terminal_left n) h in
    let e = k.2 in
    record {
      read = ap {B = Result (Content Symbol Symbol Production) Fault} (λ x. Ok (content_of x)) e;
      no_start = none_apart _ 0 _ (ap terminal_start (sym e) ∙ k.0);
      no_left = none_apart _ 0 _ (ap terminal_left (sym e) ∙ k.1);
    }
opened (Err f) g h = absurd (let z : ◌≡◌ {A = ℕ} 0 1 = cc in omega arith)

opens : (o : Result (Content Symbol Symbol Production) Fault) (g : GrammarLists) → Opened o g → and_then (and_then o (λ c. Ok (lists_from c))) check_terminals ≡ Ok g
opens o g k =
    ap {B = Result GrammarLists Fault} (λ x. and_then (and_then x (λ c. Ok (lists_from c))) check_terminals) k.read ∙ passes g k.no_start k.no_left

of_grammar : (g : GrammarLists) → LawfulGrammar g → LawfulFile grammar_layout (content_of g)
of_grammar g l = record { first = l.starts; second = l.terminals; third = l.productions }

pub laws : GrammarLaws
laws =
    record {
      exactly = λ bs g b. (
        λ h.
            let o = opened (read_file grammar_layout bs) g h in
            let k = (file_laws.exactly bs (content_of g) b).0 o.read in
            let l = k.0 in
            (record { starts = l.first; terminals = l.second; productions = l.third; no_start = o.no_start; no_left = o.no_left }, k.1),
        λ h.
            let r = (file_laws.exactly bs (content_of g) b).1 (of_grammar g h.0, h.1) in
            opens (read_file grammar_layout bs) g (record { read = r; no_start = h.0.no_start; no_left = h.0.no_left }),
      );
      same = λ g h l k e. ap lists_from (file_laws.same (content_of g) (content_of h) (of_grammar g l) (of_grammar h k) e);
    }

pub unread : (bs : List ℕ) (f : Fault) → read_file grammar_layout bs ≡ Err f → read_grammar bs ≡ Err f
unread bs f h = ap {B = Result GrammarLists Fault} (λ o. and_then o (λ c. Ok (lists_from c))) h

pub refused : (bs : List ℕ) (f : Fault) → read_grammar bs ≡ Err f → open_grammar bs ≡ Err f
refused bs f h = ap {B = Result GrammarLists Fault} (λ o. and_then o check_terminals) h

pub itself : (bs : List ℕ) {g : GrammarLists} → open_grammar bs ≡ Ok g → open_grammar bs ≡ Ok (grammar_of bs)
itself bs h = h ∙ ap {B = Result GrammarLists Fault} (λ o. Ok (listed o)) (sym h)

-- A byte more than the longest grammar decides.
pub enough : (bs : List ℕ) → open_grammar (take 6659 bs) ≡ open_grammar bs
enough bs =
    ap {B = Result GrammarLists Fault} (λ o. and_then (and_then o (λ c. Ok (lists_from c))) check_terminals)
    (files.enough grammar_layout symbols_laws symbols_laws productions_laws bs 6659 (omega arith))

-- A view of bytes that were read shows what their check decides.
pub decided : (t : Sections) (bs : List ℕ) → t.bytes.now ≡ bs → open_grammar bs ≡ check_terminals (read_lists t.bytes.now)
decided t bs e = ap open_grammar (sym e) ∙ by_check t.bytes.now t.starts.now t.terminals.now t.productions.now t.read
