-- Marks, and their listing written out.
use Rattle.std.proofs.Common.{◌≡◌, [], ◌∷◌, codes, refl}
use Rattle.std.specs.Fmt.{digits}
use Rattle.listing.specs.Listings.{listing_text}

pub six_marks : listing_text (2 ∷ 2 ∷ 2 ∷ 0 ∷ 1 ∷ 0 ∷ [])
    ≡ codes "0 2\n1 2\n2 2\n3 0\n4 1\n5 0\nuseful 3 reachable 4 of 6\n"
unfolding digits
six_marks = refl

pub no_marks : listing_text [] ≡ codes "useful 0 reachable 0 of 0\n"
unfolding digits
no_marks = refl
