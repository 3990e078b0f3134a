-- What the slices of a view hold: the entries of a file that was read.
use Rattle.std.proofs.Common.{◌≡◌, ◌*◌, true, List, [], ◌∷◌, length, sym, refl, ap, ◌∙◌}
use Rattle.machine.specs.Lists.{all}
use Rattle.entries.specs.Sections.{joined}
use Rattle.entries.proofs.Sections.{length-joined}
use Rattle.grammars.specs.declared.symbol.Symbol.{Symbol}
use Rattle.grammars.specs.declared.sections.Sections.{Sections}
use Rattle.grammars.specs.Symbols.{symbols}
use Rattle.grammars.specs.Productions.{productions, production_bytes, lawful_production}
use Rattle.grammars.specs.Grammars.{GrammarLists, read_lists, numbers_of}
use Rattle.grammars.specs.Facts.{lists, kept}
use Rattle.grammars.specs.ProductionLaws.{productions_laws}

-- The bytes of symbols are the symbols.
own : (ss : List Symbol) → joined symbols.encode ss ≡ numbers_of ss
own [] = refl
own (s ∷ ss) = ap (λ xs. s.0 ∷ xs) (own ss)

pub record Places (t : Sections) : Type 0 where
  pub starts : t.starts.now ≡ numbers_of (read_lists t.bytes.now).starts
  pub terminals : t.terminals.now ≡ numbers_of (read_lists t.bytes.now).terminals
  pub productions : t.productions.now ≡ joined production_bytes (read_lists t.bytes.now).productions
  pub production_count : length t.productions.now ≡ 12 * length (read_lists t.bytes.now).productions
  pub limits : all lawful_production (read_lists t.bytes.now).productions ≡ true

pub places : (t : Sections) → Places t
places t =
    let h = t.read in
    let e = lists t.bytes.now t.starts.now t.terminals.now t.productions.now h in
    let l = kept t.bytes.now t.starts.now t.terminals.now t.productions.now h in
    let k : all lawful_production (read_lists t.bytes.now).productions ≡ true = ap (λ (g : GrammarLists). all lawful_production g.productions) e ∙ l.third.limits in
    let p : t.productions.now ≡ joined production_bytes (read_lists t.bytes.now).productions = h.third_bytes ∙ ap (λ (g : GrammarLists). joined production_bytes g.productions) (sym e) in
    record {
      starts = h.first_bytes ∙ own _ ∙ ap (λ (g : GrammarLists). numbers_of g.starts) (sym e);
      terminals = h.second_bytes ∙ own _ ∙ ap (λ (g : GrammarLists). numbers_of g.terminals) (sym e);
      productions = p;
      production_count = ap length p ∙ length-joined productions productions_laws (read_lists t.bytes.now).productions k;
      limits = k;
    }
