-- What is added to a listing that is being put into an output.
use Rattle.std.specs.Prelude.{◌≡◌, ℕ, ◌+◌, ◌≤◌, List, length}
use Rattle.listing.specs.declared.draft.Draft.{Draft}
use Rattle.listing.specs.Listings.{Puts}

-- The bytes are counted, and stand behind the text so far where all of it fits. The output is the same, and as long as it was.
pub record Adds (bs : List ℕ) (old new : Draft) : Type 0 where
  pub same : new.out.ghost_name ≡ old.out.ghost_name
  pub long : length new.out.now ≡ length old.out.now
  pub len : new.len ≡ old.len + length bs
  pub put : new.len ≤ length old.out.now → Puts bs old.len old.out.now new.out.now new.len
