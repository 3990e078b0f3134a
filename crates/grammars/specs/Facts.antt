-- What holds of bytes that were read or opened. No definition to believe, only proofs.
use Rattle.std.specs.Prelude.{◌≡◌, ℕ, true, List, is_ok, Some, None, Ok, Option, Result, refl}
use Rattle.std.proofs.Common.{ap, sym, ◌∙◌, arith, length-append}
use Rattle.std.proofs.lemmas.List.{length-map}
use Rattle.machine.specs.declared.fault.Fault.{Fault}
use Rattle.machine.specs.Lists.{Few, Limits}
use Rattle.entries.specs.Sections.{and_then}
use Rattle.entries.specs.Files.{Content, read_file, LawfulFile, found, Holds}
use Rattle.entries.proofs.Files.{reads, lawful}
use Rattle.grammars.specs.declared.symbol.Symbol.{Symbol}
use Rattle.grammars.specs.declared.production.Production.{Production}
use Rattle.grammars.specs.Grammars.{GrammarLists, grammar_layout, lists_from, read_grammar, terminal_start, terminal_left, check_terminals, unless, open_grammar, listed, read_lists, grammar_of}
use Rattle.grammars.specs.SymbolLaws.{symbols_laws}
use Rattle.grammars.specs.ProductionLaws.{productions_laws}
use Rattle.grammars.specs.Machines.{machine_of}
use Rattle.grammars.specs.RowLimits.{rows_lawful}

-- The bytes bs were read, with these bytes of start symbols, terminals and rules.
module _ (bs ss ts ps : List ℕ) (h : Holds grammar_layout bs ss ts ps) where
  abbrev content : Content Symbol Symbol Production
  content = found (read_file grammar_layout bs)

  pub read : read_grammar bs ≡ Ok (lists_from content)
  read = ap {B = Result GrammarLists Fault} (λ x. and_then x (λ y. Ok (lists_from y))) (reads grammar_layout bs ss ts ps h)

  pub lists : read_lists bs ≡ lists_from content
  lists = ap listed read

  pub kept : LawfulFile grammar_layout content
  kept = lawful grammar_layout symbols_laws symbols_laws productions_laws bs content (reads grammar_layout bs ss ts ps h)

  -- They open as the check of their terminals says.
  pub by_check : open_grammar bs ≡ check_terminals (read_lists bs)
  by_check = ap {B = Result GrammarLists Fault} (λ o. and_then o check_terminals) read ∙ ap check_terminals (sym lists)

-- Lists that pass the check are not changed by it.
checked : (g : GrammarLists) (o p : Option ℕ) → is_ok (unless 1 o (unless 3 p (Ok g))) ≡ true → unless 1 o (unless 3 p (Ok g)) ≡ Ok g
checked g None None h = refl
checked g None (Some p) h = absurd (let z : ◌≡◌ {A = ℕ} 0 1 = cc in omega arith)
checked g (Some o) p h = absurd (let z : ◌≡◌ {A = ℕ} 0 1 = cc in omega arith)

-- What a view owes as a machine.
module _ (bs ss ts ps : List ℕ) (h : Holds grammar_layout bs ss ts ps) (ok : is_ok (open_grammar bs) ≡ true) where
  pub same_lists : grammar_of bs ≡ read_lists bs
  same_lists =
      let e = by_check bs ss ts ps h in
      ap listed (e ∙ checked (read_lists bs) (terminal_start (read_lists bs)) (terminal_left (read_lists bs)) (ap is_ok (sym e) ∙ ok))

  all_lists : grammar_of bs ≡ lists_from (content bs ss ts ps h)
  all_lists = same_lists ∙ lists bs ss ts ps h

  pub few_of : Few (machine_of (grammar_of bs))
  few_of =
      let c = content bs ss ts ps h in
      let l = kept bs ss ts ps h in
      rw all_lists (record {
        starts = omega arith;
        accepts = omega arith;
        rows = simp (length-append, length-map) (omega (arith, l.first.few, l.second.few, l.third.few));
      })

  pub limits_of : Limits (machine_of (grammar_of bs))
  limits_of =
      let c = content bs ss ts ps h in
      let l = kept bs ss ts ps h in
      rw all_lists (record {
        starts = refl;
        accepts = refl;
        rows = rows_lawful (lists_from c) l.first.limits l.second.limits l.third.limits;
      })
