-- Several entries, put one after the other.
use Rattle.std.proofs.Common.{◌≡◌, ℕ, ◌+◌, ◌<◌, ◌≤◌, List, [], ◌∷◌, ◌++◌, length, get_or, take, drop, sym, ap, ◌∙◌, arith}
use Rattle.std.proofs.lemmas.List.{length-append, take-append-drop, take_more, drop_more}
use Rattle.machine.specs.declared.fault.Fault.{Fault}
use Rattle.machine.specs.Lists.{Lists}
use Rattle.entries.specs.Sorts.{Sort}
use Rattle.entries.specs.Sections.{Lawful, section_bytes}
use Rattle.tables.specs.Tables.{encode_table}
use Rattle.writing.specs.declared.section.Kind.{Kind}
use Rattle.writing.specs.Parts.{Part, PartLaws, with_more}
use Rattle.writing.specs.Stages.{Progress, Refused}
use Rattle.writing.specs.Histories.{Writing, WritingTable}
use Rattle.writing.specs.Wholes.{Stopped}
use Rattle.writing.proofs.Ascents.{joined_take, lawful_take}

module _ {X : Type 0} (e : Sort X) (k : Kind) (p : Part X) (part : PartLaws e k p) (old : List ℕ) (m : Lists) (xs : List X) where
  module _ (i : ℕ) (x : X) (here : x ≡ get_or xs i x) (lt : i < length xs) where
    taken : take (i + 1) xs ≡ take i xs ++ x ∷ []
    taken = take_more xs i x lt ∙ ap (λ y. take i xs ++ y ∷ []) (sym here)

    -- one more of the entries
    pub one_more : with_more p (p.with_entries m (take i xs)) x ≡ p.with_entries m (take (i + 1) xs)
    one_more =
        ap (λ ys. p.with_entries (p.with_entries m (take i xs)) (ys ++ x ∷ [])) (part.entries m (take i xs))
        ∙ part.with_entries m (take i xs) (take i xs ++ x ∷ [])
        ∙ ap (p.with_entries m) (sym taken)

    pub stopped : (s t : Progress X) (out new : List ℕ) (f : Fault) → WritingTable e k p old (p.with_entries m (take i xs)) s out → Refused e k s out x f t new → Stopped e k old (p.before m) xs f new
    stopped s t out new f w a =
        let v : Writing e k old (p.before m) (take i xs) s out = rw (part.before m (take i xs), part.entries m (take i xs)) at w.section in
        record {
          before = take i xs;
          refused = x;
          later = drop (i + 1) xs;
          stage = s;
          is = sym (take-append-drop i xs) ∙ ap (λ ys. take i xs ++ ys) (drop_more xs i x lt ∙ ap (λ y. y ∷ drop (i + 1) xs) (sym here));
          writing = rw a.bytes v;
          why = rw a.bytes a.why;
        }

    -- the first entries are lawful and fit where all are and do
    pub lawful_so_far : Lawful e k.most xs → Lawful e k.most (p.entries (p.with_entries m (take i xs)) ++ x ∷ [])
    lawful_so_far l = rw (part.entries m (take i xs), ← taken) (lawful_take e k.most (i + 1) xs l)

    pub fits_so_far : length (encode_table (p.with_entries m xs)) ≤ length old → length (encode_table (with_more p (p.with_entries m (take i xs)) x)) ≤ length old
    fits_so_far fits =
        let most = part.size m xs in
        let more = joined_take e.encode (i + 1) xs in
        rw (one_more, part.size m (take (i + 1) xs)) (simp length-append (omega (arith, length-append (p.before m) (section_bytes e xs))))
