-- A section as it is written: where the next entry goes, and what each call does.
use Rattle.std.specs.Prelude.{◌≡◌, ℕ, ◌+◌, ◌*◌, Bool, cond, not, List, length, Some, None, Option, Result, MatchResult, nat_le, nat_lt}
use Rattle.machine.specs.declared.fault.Fault.{Fault}
use Rattle.machine.specs.declared.fault.Rule.{Rule}
use Rattle.machine.specs.declared.fault.Rule.TheVariants.{Order, Limits, Count, Output}
use Rattle.machine.specs.Faults.{fault}
use Rattle.entries.specs.Sorts.{Sort}
use Rattle.entries.specs.Sections.{follows, count_bytes}
use Rattle.entries.specs.Outputs.{put_at}
use Rattle.writing.specs.declared.section.Kind.{Kind}

-- How far a section is written: where it begins, how many entries it has, and the last of them.
pub record Progress (X : Type 0) : Type 0 where
  pub begin : ℕ
  pub count : ℕ
  pub last : Option X

-- A section that begins at a place and has no entries yet.
abbrev pub fresh : {X : Type 0} → ℕ → Progress X
fresh begin = record { begin = begin; count = 0; last = None }

-- The same section with one more entry.
abbrev pub with_entry : {X : Type 0} → Progress X → X → Progress X
with_entry s x = record { begin = s.begin; count = s.count + 1; last = Some x }

-- The place behind the entries, where the next one goes.
abbrev pub end_of : {X : Type 0} → Sort X → Progress X → ℕ
end_of e s = s.begin + 2 + e.wide * s.count

-- How long the output has to be for one more entry, and two bytes for the count of each later section.
abbrev pub needed : {X : Type 0} → Sort X → Kind → Progress X → ℕ
needed e k s = end_of e s + e.wide + 2 * k.later

-- Why an entry may not be put into an output of so many bytes, or nothing where it may.
abbrev pub put_fault : {X : Type 0} → Sort X → Kind → Progress X → ℕ → X → Option Fault
put_fault e k s room x =
    let broken : Rule → Option Fault = λ r. Some (fault r k.section s.count) in
    cond (not (e.lawful x)) (broken Limits)
    (cond (not (follows e s.last x)) (broken Order)
    (cond (nat_le k.most s.count) (broken Count)
    (cond (nat_lt room (needed e k s)) (broken Output) None)))

-- An entry that was put: its bytes stand behind the others, no other byte is changed, and it is the last entry.
pub record Accepted {X : Type 0} (e : Sort X) (k : Kind) (s : Progress X) (out : List ℕ) (x : X) (after : Progress X) (new : List ℕ) : Type 0 where
  pub why : put_fault e k s (length out) x ≡ None
  pub stage : after ≡ with_entry s x
  pub bytes : new ≡ put_at out (end_of e s) (e.encode x)

-- An entry that was refused: nothing is changed.
pub record Refused {X : Type 0} (e : Sort X) (k : Kind) (s : Progress X) (out : List ℕ) (x : X) (f : Fault) (after : Progress X) (new : List ℕ) : Type 0 where
  pub why : put_fault e k s (length out) x ≡ Some f
  pub stage : after ≡ s
  pub bytes : new ≡ out

-- What putting an entry does, by its answer.
abbrev pub Put : {X : Type 0} → Sort X → Kind → Progress X → List ℕ → X → Result Unit Fault → Progress X → List ℕ → Type 0
Put e k s out x r after new = MatchResult r (λ _. Accepted e k s out x after new) (λ f. Refused e k s out x f after new)

-- The count and those of the later sections fit into so many bytes.
abbrev pub count_fits : {X : Type 0} → Kind → Progress X → ℕ → Bool
count_fits k s room = nat_le (s.begin + 2 + 2 * k.later) room

-- The output with the count in front of the entries, where it fits.
abbrev pub closed : {X : Type 0} → Kind → Progress X → List ℕ → List ℕ
closed k s out = cond (count_fits k s (length out)) (put_at out s.begin (count_bytes s.count)) out
