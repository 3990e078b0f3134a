-- What each call does to a section that is being written.
use Rattle.std.proofs.Common.{◌≡◌, ℕ, ◌+◌, ◌*◌, ◌<◌, ◌≤◌, Bool, true, false, cond, List, [], ◌∷◌, ◌++◌, length, is_ok, None, Ok, Err, Result, sym, refl, ap, ◌∙◌, ap₂, arith, MatchResult}
use Rattle.std.proofs.lemmas.List.{length-append, length_push}
use Rattle.std.proofs.lemmas.Bool.Decides.{nat_tests}
use Rattle.std.proofs.lemmas.Bool.{lt-leb, le-leb}
use Rattle.machine.specs.declared.fault.Fault.{Fault}
use Rattle.entries.specs.Sorts.{Sort, Laws}
use Rattle.entries.specs.Sections.{follows, count_bytes, joined, section_bytes, Lawful}
use Rattle.entries.specs.Outputs.{put_at, Wrote}
use Rattle.entries.proofs.Sections.{length-joined}
use Rattle.writing.specs.declared.section.Kind.{Kind}
use Rattle.writing.specs.Stages.{Progress, fresh, with_entry, end_of, needed, put_fault, Accepted, Refused, count_fits, closed}
use Rattle.writing.specs.Histories.{last_of, Writing}
use Rattle.writing.proofs.Puts.{put_none, put_length, put_behind, put_before}
use Rattle.writing.proofs.Ascents.{last_push, joined_push, lawful_push, lawful_last}

module _ {X : Type 0} (e : Sort X) (k : Kind) (s : Progress X) (room : ℕ) (x : X) where
  -- what an entry is that no rule refuses
  record Fine : Type 0 where
    pub lawful : e.lawful x ≡ true
    pub above : follows e s.last x ≡ true
    pub few : s.count < k.most
    pub fits : needed e k s ≤ room

  fine : put_fault e k s room x ≡ None → Fine
  fine h = record { lawful = grind (arith, nat_tests); above = grind (arith, nat_tests); few = grind (arith, nat_tests); fits = grind (arith, nat_tests) }

  no_fault : Fine → put_fault e k s room x ≡ None
  no_fault f = grind (arith, nat_tests)

-- The bytes of an entry that no rule refuses fit behind the others.
pub accepted : {X : Type 0} (e : Sort X) (laws : Laws e) (k : Kind) (s : Progress X) (out : List ℕ) (x : X) (at : ℕ) (fit : Bool) (t : Progress X) (new : List ℕ)
    → put_fault e k s (length out) x ≡ None → at ≡ end_of e s → Wrote (e.encode x) at out new fit → t ≡ with_entry s x → Accepted e k s out x t new
accepted e laws k s out x at fit t new none place w one_more =
    let f = fine e k s (length out) x none in
    let size = laws.size x f.lawful in
    let fits : at + length (e.encode x) ≤ length out = omega (arith, f.fits) in
    record { why = none; stage = one_more; bytes = rw (w.after, w.fits, le-leb _ _ fits, place) refl }

module _ {X : Type 0} (e : Sort X) (laws : Laws e) (k : Kind) (old done : List ℕ) where
  section_length : (xs : List X) → Lawful e k.most xs → length (done ++ section_bytes e xs) ≡ length done + 2 + e.wide * length xs
  section_length xs l = simp length-append (omega (arith, length-joined e laws xs l.limits))

  -- one more entry makes it longer by an entry
  longer : (xs : List X) (x : X) → e.lawful x ≡ true → length (done ++ section_bytes e (xs ++ x ∷ [])) ≡ length (done ++ section_bytes e xs) + e.wide
  longer xs x o = simp (length-append, joined_push e.encode xs x) (omega (arith, laws.size x o))

  module _ (xs : List X) (s : Progress X) (out : List ℕ) (w : Writing e k old done xs s out) where
    -- the stage's end is the end of the bytes
    pub ends : end_of e s ≡ length (done ++ section_bytes e xs)
    ends = ap₂ {C = ℕ} (λ b c. b + 2 + e.wide * c) w.begin w.count ∙ sym (section_length xs w.lawful)

    module _ (long : 6 ≤ length old) where
      begun : List ℕ
      begun = put_at old 0 done

      done_fits : length done + 2 + length (joined e.encode xs) ≤ length old
      done_fits = let j = length-joined e laws xs w.lawful.limits in let n = section_length xs w.lawful in omega (arith, w.room long)

      begun_length : length begun ≡ length old
      unfolding begun
      begun_length = put_length old 0 done (omega (arith, done_fits))

      pub out_length : length out ≡ length old
      unfolding begun
      out_length =
          ap length (w.bytes long)
          ∙ put_length begun (length done + 2) (joined e.encode xs) (omega (arith, done_fits, begun_length))
          ∙ begun_length

      -- the count fits
      fit : count_fits k s (length out) ≡ true
      fit = let n = section_length xs w.lawful in le-leb _ _ (omega (arith, w.begin, w.room long, out_length))

      -- the count in front of the entries makes the section whole
      pub whole : closed k s out ≡ put_at old 0 (done ++ section_bytes e xs)
      unfolding begun
      whole =
          let g : length done + 2 ≤ length begun = omega (arith, done_fits, begun_length) in
          let i : 0 ≤ length old = omega arith in
          let z : length done ≡ 0 + length done = omega arith in
          rw (fit, w.bytes long, w.begin, w.count)
          (put_before begun (length done) (count_bytes (length xs)) (joined e.encode xs) g
          ∙ ap (λ b. put_at begun b (section_bytes e xs)) z
          ∙ put_behind old 0 done (section_bytes e xs) i)

      -- the bytes that finishing answers
      pub answer_long : cond (count_fits k s (length out)) (end_of e s) 0 ≡ length (done ++ section_bytes e xs)
      answer_long = rw fit ends

    module _ (counts : 4 ≤ length done + 2 * k.later) (short : length old < 6) where
      -- the count does not fit into an output that is too short
      unfit : count_fits k s (length out) ≡ false
      unfit = let o = ap length (w.short short).1 in lt-leb _ _ (omega (arith, w.begin))

      pub unchanged : closed k s out ≡ old
      unchanged = rw unfit (w.short short).1

      pub answer_short : cond (count_fits k s (length out)) (end_of e s) 0 ≡ 0
      answer_short = rw unfit refl

    -- The section is whole, and the next one has no entries yet.
    pub moved : {Y : Type 0} (f : Sort Y) (n : Kind) (t : Progress Y) (new : List ℕ) → k.later ≡ n.later + 1 → 4 ≤ length done + 2 * k.later
        → t ≡ fresh (end_of e s) → new ≡ closed k s out → Writing f n old (done ++ section_bytes e xs) [] t new
    moved f n t new l counts st by =
        let d : List ℕ = done ++ section_bytes e xs in
        rw (st, by) (record {
          lawful = record { few = omega arith; limits = refl; ascending = tt };
          begin = ends;
          count = refl;
          last = refl;
          bytes = λ h. whole h ∙ sym (put_none (put_at old 0 d) (length d + 2));
          room = λ h. let a = length-append d (section_bytes f []) in omega (arith, w.room h);
          short = λ h. (refl, unchanged counts h);
        })

    -- One more entry.
    module _ (x : X) (t : Progress X) (new : List ℕ) where
      grown_bytes : 6 ≤ length old → put_at out (end_of e s) (e.encode x) ≡ put_at (put_at old 0 done) (length done + 2) (joined e.encode (xs ++ x ∷ []))
      unfolding begun
      grown_bytes long =
          let j = length-joined e laws xs w.lawful.limits in
          let n = section_length xs w.lawful in
          let z : end_of e s ≡ length done + 2 + length (joined e.encode xs) = omega (arith, ends) in
          let g : length done + 2 ≤ length (begun long) = omega (arith, done_fits long, begun_length long) in
          rw (w.bytes long, z, joined_push e.encode xs x) (put_behind (begun long) (length done + 2) (joined e.encode xs) (e.encode x) g)

      -- An entry that was put.
      pub putting : 4 ≤ length done + 2 * k.later → Accepted e k s out x t new → Writing e k old done (xs ++ x ∷ []) t new
      putting counts a =
          let f = fine e k s (length out) x a.why in
          let above : follows e (last_of xs) x ≡ true = ap (λ l. follows e l x) (sym w.last) ∙ f.above in
          let few : length xs < k.most = omega (arith, w.count, f.few) in
          let law = lawful_push e laws k.most xs x w.lawful f.lawful above few in
          let push = length_push xs x in
          rw (a.stage, a.bytes) (record {
            lawful = law;
            begin = w.begin;
            count = ap (λ i. i + 1) w.count ∙ sym push;
            last = sym (last_push xs x);
            bytes = grown_bytes;
            room = λ h. omega (arith, longer xs x f.lawful, ends, f.fits, out_length h);
            short = λ h. absurd (let o = ap length (w.short h).1 in omega (arith, f.fits, w.begin));
          })

      -- An entry that the section may have, and that fits, is accepted.
      pub welcome : (r : Result Unit Fault) → 4 ≤ length done + 2 * k.later → MatchResult r (λ _. Accepted e k s out x t new) (λ f. Refused e k s out x f t new)
          → Lawful e k.most (xs ++ x ∷ []) → length (done ++ section_bytes e (xs ++ x ∷ [])) + 2 * k.later ≤ length old → is_ok r ≡ true
      welcome (Ok _) counts a law fits = refl
      welcome (Err f) counts a law fits =
          let p = lawful_last e k.most xs x law in
          let n = section_length xs w.lawful in
          let more = longer xs x p.0 in
          let long : 6 ≤ length old = omega arith in
          let good : Fine e k s (length out) x =
          record {
            lawful = p.0;
            above = ap (λ l. follows e l x) w.last ∙ p.1;
            few = omega (arith, w.count, p.2);
            fits = omega (arith, ends, out_length long);
          } in
          let none = no_fault e k s (length out) x good in
          cc (none, a.why)
