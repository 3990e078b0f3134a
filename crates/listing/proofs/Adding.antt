-- The lines of the rows, added one after the other.
use Rattle.std.proofs.Common.{◌≡◌, ℕ, ◌+◌, ◌*◌, ◌<◌, ◌≤◌, List, ◌++◌, length, get_or, drop, sym, ap, ◌∙◌, subst, append_assoc, arith}
use Rattle.std.proofs.lemmas.List.{drop_all, drop_more, append-nil}
use Rattle.listing.specs.declared.draft.Draft.{Draft}
use Rattle.listing.specs.Listings.{line_text, lines_text}
use Rattle.listing.specs.Drafts.{Adds}
use Rattle.listing.proofs.Placing.{adds_then}

-- The lines below the place i are added, each of 42 bytes at most.
pub record Lined (marks : List ℕ) (i : ℕ) (old new : Draft) : Type 0 where
  pub done : List ℕ
  pub whole : done ++ lines_text i (drop i marks) ≡ lines_text 0 marks
  pub adds : Adds done old new
  pub short : new.len ≤ old.len + 42 * i

module _ {marks : List ℕ} {i : ℕ} {old new : Draft} (l : Lined marks i old new) where
  pub line_more : {last : Draft} → i < length marks → Adds (line_text i (get_or marks i 0)) new last → last.len ≤ new.len + 42
      → Lined marks (i + 1) old last
  line_more h a s = record {
    done = l.done ++ line_text i (get_or marks i 0);
    whole =
        append_assoc l.done (line_text i (get_or marks i 0)) (lines_text (i + 1) (drop (i + 1) marks))
        ∙ ap (λ x. l.done ++ lines_text i x) (sym (drop_more marks i 0 h)) ∙ l.whole;
    adds = adds_then l.adds a;
    short = omega (arith, l.short);
  }

  pub line_all : length marks ≤ i → Adds (lines_text 0 marks) old new
  line_all h =
      subst (λ bs. Adds bs old new)
      (sym (append-nil l.done) ∙ ap (λ x. l.done ++ lines_text i x) (sym (drop_all i marks h)) ∙ l.whole) l.adds
