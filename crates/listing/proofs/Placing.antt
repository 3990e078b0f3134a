-- Bytes put into an output, one after the other.
use Rattle.std.proofs.Common.{ℕ, ◌≤◌, List, ◌++◌, length, ◌∙◌, ap₂, arith}
use Rattle.std.proofs.lemmas.List.{length-append}
use Rattle.entries.specs.Outputs.{put_at}
use Rattle.writing.proofs.Puts.{put_behind}
use Rattle.listing.specs.declared.draft.Draft.{Draft}
use Rattle.listing.specs.Listings.{Puts}
use Rattle.listing.specs.Drafts.{Adds}

puts_then : {xs ys old mid new : List ℕ} {at next end : ℕ} → Puts xs at old mid next → Puts ys next mid new end → at ≤ length old
    → Puts (xs ++ ys) at old new end
puts_then {xs} {ys} {old} {mid} {new} {at} p q h = record {
  after =
      q.after ∙ ap₂ {C = List ℕ} (λ o i. put_at o i ys) p.after p.next ∙ put_behind old at xs ys h;
  next = simp length-append (omega arith);
}

-- More bytes behind those that were added.
pub adds_then : {xs ys : List ℕ} {old mid new : Draft} → Adds xs old mid → Adds ys mid new → Adds (xs ++ ys) old new
adds_then {xs} {ys} p q = record {
  same = q.same ∙ p.same;
  long = q.long ∙ p.long;
  len = simp length-append (omega (arith, p.len, q.len));
  put = λ h. puts_then (p.put (omega (arith, p.len, q.len))) (q.put (omega (arith, p.long))) (omega (arith, p.len, q.len));
}
