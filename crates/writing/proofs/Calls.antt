-- What each call does to a table that is being written, for every section.
use Rattle.std.proofs.Common.{◌≡◌, ℕ, ◌≤◌, true, List, [], ◌∷◌, ◌++◌, length, is_ok, Ok, Err, Result, sym, ap, ◌∙◌, arith}
use Rattle.std.proofs.lemmas.List.{length_push}
use Rattle.machine.specs.declared.fault.Fault.{Fault}
use Rattle.machine.specs.Lists.{Lists}
use Rattle.entries.specs.Sorts.{Sort, Laws}
use Rattle.entries.specs.Sections.{Lawful, section_bytes}
use Rattle.tables.specs.Tables.{encode_table}
use Rattle.writing.specs.declared.section.Kind.{Kind}
use Rattle.writing.specs.Parts.{Part, PartLaws, NextLaws, with_more}
use Rattle.writing.specs.Stages.{Progress, fresh, end_of, closed, Put}
use Rattle.writing.specs.Histories.{WritingTable, after_put}
use Rattle.writing.proofs.Histories.{putting, welcome, moved}

module _ {X : Type 0} (e : Sort X) (laws : Laws e) (k : Kind) (p : Part X) (part : PartLaws e k p) where
  module _ (old : List ℕ) (m : Lists) (s : Progress X) (out : List ℕ) (w : WritingTable e k p old m s out) (x : X) (t : Progress X) (new : List ℕ) where
    -- After a put, accepted or refused, exactly the entries are written that were accepted.
    pub after : (r : Result Unit Fault) → Put e k s out x r t new → WritingTable e k p old (after_put p m x r) t new
    after (Ok _) a =
        let ys : List X = p.entries m ++ x ∷ [] in
        let v = putting e laws k old (p.before m) (p.entries m) s out w.section x t new (part.counts m) a in
        record {
          lawful = part.lawful m ys w.lawful v.lawful;
          up_to = rw (part.entries m ys) (sym (part.with_entries m ys ys));
          none = λ h. absurd (let l = ap length (v.short h).0 in let n = length_push (p.entries m) x in omega arith);
          section = rw (part.before m ys, part.entries m ys) v;
        }
    after (Err f) a = rw (a.bytes, a.stage) w

    -- An entry that keeps the table lawful and fits is accepted.
    pub taken : (r : Result Unit Fault) → Put e k s out x r t new → Lawful e k.most (p.entries m ++ x ∷ []) → length (encode_table (with_more p m x)) ≤ length old → is_ok r ≡ true
    taken r a l n =
        let z = part.size m (p.entries m ++ x ∷ []) in
        welcome e laws k old (p.before m) (p.entries m) s out w.section x t new r (part.counts m) a l (omega arith)

  -- The next section is begun, and the table is the same.
  module _ {Y : Type 0} (f : Sort Y) (n : Kind) (q : Part Y) (next_part : PartLaws f n q) (next : NextLaws e k p f n q) where
    pub moved_on : (old : List ℕ) (m : Lists) (s : Progress X) (out : List ℕ) (t : Progress Y) (new : List ℕ) → WritingTable e k p old m s out
        → t ≡ fresh (end_of e s) → new ≡ closed k s out → WritingTable f n q old m t new
    moved_on old m s out t new w st by =
        let same : q.with_entries m [] ≡ m = rw (w.up_to) (next.none m (p.entries m)) in
        let none : q.entries m ≡ [] = ap q.entries (sym same) ∙ next_part.entries m [] in
        let before : q.before m ≡ p.before m ++ section_bytes e (p.entries m) = ap q.before w.up_to ∙ next.before m (p.entries m) in
        let v = moved e laws k old (p.before m) (p.entries m) s out w.section f n t new next.later (part.counts m) st by in
        record {
          lawful = w.lawful;
          up_to = sym same ∙ ap (q.with_entries m) (sym none);
          none = w.none;
          section = rw (before, none) v;
        }
