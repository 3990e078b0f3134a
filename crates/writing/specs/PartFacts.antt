-- The laws of the three sections. No definition to believe, only proofs.
use Rattle.std.specs.Prelude.{ℕ, [], refl}
use Rattle.std.proofs.Common.{length-append, arith}
use Rattle.entries.specs.Sorts.{Sort}
use Rattle.entries.specs.Sections.{Lawful}
use Rattle.entries.specs.States.{states}
use Rattle.entries.specs.Rows.{rows}
use Rattle.writing.specs.Parts.{PartLaws, NextLaws, starts_kind, accepts_kind, rows_kind, starts_part, accepts_part, rows_part}

-- a section may have no entries
empty : {X : Type 0} {e : Sort X} {most : ℕ} → Lawful e most []
empty = record { few = omega arith; limits = refl; ascending = tt }

pub starts_laws : PartLaws states starts_kind starts_part
starts_laws =
    record {
      wide = omega arith;
      most = omega arith;
      later = omega arith;
      latest = omega arith;
      entries = λ m xs. refl;
      before = λ m xs. refl;
      with_entries = λ m xs ys. refl;
      lawful = λ m xs l h. record { starts = h; accepts = empty; rows = empty };
      size = λ m xs. simp length-append (omega arith);
      counts = λ m. omega arith;
    }

pub accepts_laws : PartLaws states accepts_kind accepts_part
accepts_laws =
    record {
      wide = omega arith;
      most = omega arith;
      later = omega arith;
      latest = omega arith;
      entries = λ m xs. refl;
      before = λ m xs. refl;
      with_entries = λ m xs ys. refl;
      lawful = λ m xs l h. record { starts = l.starts; accepts = h; rows = empty };
      size = λ m xs. simp length-append (omega arith);
      counts = λ m. omega arith;
    }

pub rows_laws : PartLaws rows rows_kind rows_part
rows_laws =
    record {
      wide = omega arith;
      most = omega arith;
      later = omega arith;
      latest = omega arith;
      entries = λ m xs. refl;
      before = λ m xs. refl;
      with_entries = λ m xs ys. refl;
      lawful = λ m xs l h. record { starts = l.starts; accepts = l.accepts; rows = h };
      size = λ m xs. simp length-append (omega arith);
      counts = λ m. simp length-append (omega arith);
    }

pub accepts_next : NextLaws states starts_kind starts_part states accepts_kind accepts_part
accepts_next = record { later = refl; latest = omega arith; before = λ m xs. refl; none = λ m xs. refl }

pub rows_next : NextLaws states accepts_kind accepts_part rows rows_kind rows_part
rows_next = record { later = refl; latest = omega arith; before = λ m xs. refl; none = λ m xs. refl }
