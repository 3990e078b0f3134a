-- The lists of an opened view are those that its sections hold, and they are few.
use Rattle.std.proofs.Common.{◌≡◌, ◌+◌, ◌≤◌, length, sym, arith}
use Rattle.grammars.specs.declared.grammar.Grammar.{Grammar}
use Rattle.grammars.specs.Grammars.{read_lists, grammar_of}
use Rattle.grammars.specs.Facts.{same_lists, few_of}
use Rattle.grammars.proofs.MachineRows.{count}

pub record Opened (t : Grammar) : Type 0 where
  pub lists : read_lists t.sections.bytes.now ≡ grammar_of t.sections.bytes.now
  pub few : length (read_lists t.sections.bytes.now).starts + length (read_lists t.sections.bytes.now).productions + length (read_lists t.sections.bytes.now).terminals + 1 ≤ 1024

pub opened : (t : Grammar) → Opened t
opened t =
    let s = t.sections in
    let e = sym (same_lists s.bytes.now s.starts.now s.terminals.now s.productions.now s.read t.lawful) in
    let f = (few_of s.bytes.now s.starts.now s.terminals.now s.productions.now s.read t.lawful).rows in
    let n = count (grammar_of s.bytes.now) in
    record { lists = e; few = rw e (omega (arith, f, n)) }
