-- The text of marks that were set.
use Rattle.std.proofs.Common.{◌≡◌, ℕ, List, length, take, None, Option, sym, ◌∙◌, subst, ap₂, arith, MatchOption}
use Rattle.std.proofs.lemmas.List.{take_all}
use Rattle.machine.specs.declared.fault.Fault.{Fault}
use Rattle.machine.specs.Lists.{Lists}
use Rattle.marking.specs.declared.counts.Counts.{Counts}
use Rattle.marking.specs.Marks.{refusal, counts_of, Sets}
use Rattle.reports.specs.Texts.{fault_text}
use Rattle.listing.specs.Listings.{summed_text}
use Rattle.listing.specs.Texts.{IsListing, MarksText}

pub set_text : (m : Lists) (scratch : List ℕ) {words : ℕ} {counts : Counts} {marks marks' listed text : List ℕ}
    → refusal m (length scratch) (length marks) ≡ None → length scratch ≡ words → length marks ≡ length m.rows
    → Sets m marks marks' → counts ≡ counts_of (take (length m.rows) marks') → listed ≡ marks' → text ≡ summed_text listed counts
    → MarksText m words text
set_text m scratch {words} {counts} {marks} {marks'} {listed} {text} none w l s e i t =
    let all : take (length m.rows) marks' ≡ marks' = take_all (length m.rows) marks' (omega (arith, s.long)) in
    let whole : text ≡ summed_text (take (length m.rows) marks') (counts_of (take (length m.rows) marks')) =
    t ∙ ap₂ {C = List ℕ} (λ ks c. summed_text ks c) (i ∙ sym all) e in
    let allowed : refusal m words (length m.rows) ≡ None = sym (ap₂ {C = Option Fault} (refusal m) w l) ∙ none in
    subst (λ o. MatchOption o (IsListing m text) (λ f. text ≡ fault_text f)) (sym allowed)
    (record { marks = take (length m.rows) marks'; marked = s.marked; whole = whole })
