-- A section is decided by its first bytes: what is cut off behind its largest size changes nothing but the rest.
use Rattle.std.proofs.Common.{◌≡◌, ℕ, zero, suc, ◌+◌, ◌-◌, ◌*◌, ◌<◌, ◌≤◌, Bool, true, false, cond, ltb, ◌⊎◌, List, ◌∷◌, length, take, drop, Some, None, Ok, Err, Option, Result, sym, refl, ap, ◌∙◌, subst, ap₂, inl, inr, mul-le-mul_left, mul-zero, mul-suc, arith}
use Rattle.std.proofs.lemmas.List.{take_all, take-take, drop-take, length-take-le, length-drop, get_or-take}
use Rattle.std.proofs.lemmas.Bool.{cases_lt, le-ltb}
use Rattle.machine.specs.declared.fault.Fault.{Fault}
use Rattle.machine.specs.declared.fault.Rule.TheVariants.{Short, Order, Limits, Count}
use Rattle.machine.specs.Faults.{fault}
use Rattle.entries.specs.Sorts.{Sort, Laws}
use Rattle.entries.specs.Sections.{and_then, read_entry, follows, read_entries, entries, count_of, read_count, read_section, holding, Read}
use Rattle.entries.proofs.Sections.{counted}

-- The same fault, or the same entries with at least k bytes of the rest.
pub data Near {X : Type 0} (k : ℕ) : Result (Read X) Fault → Result (Read X) Fault → Type 0 where
  stopped : {f : Fault} → Near k (Err f) (Err f)
  read : {xs : List X} {r : List ℕ} {j : ℕ} → k ≤ j → Near k (Ok (record { held = xs; rest = r })) (Ok (record { held = xs; rest = take j r }))

data Cut (k : ℕ) : Result (List ℕ) Fault → Result (List ℕ) Fault → Type 0 where
  bad : {f : Fault} → Cut k (Err f) (Err f)
  good : {r : List ℕ} {j : ℕ} → k ≤ j → Cut k (Ok r) (Ok (take j r))

cut_then : {X : Type 0} (k : ℕ) (o : Result X Fault) (F G : X → Result (List ℕ) Fault) → ((x : X) → Cut k (F x) (G x)) → Cut k (and_then o F) (and_then o G)
cut_then k (Ok x) F G h = h x
cut_then k (Err f) F G h = bad

cut_if : (k : ℕ) (b : Bool) (o q : Result (List ℕ) Fault) (f : Fault) → Cut k o q → Cut k (cond b o (Err f)) (cond b q (Err f))
cut_if k true o q f h = h
cut_if k false o q f h = bad

skip : (w m : ℕ) (bs : List ℕ) → w ≤ m → drop w (take m bs) ≡ take (m - w) (drop w bs)
skip w m bs h = let e : m ≡ w + (m - w) = omega arith in ap (λ n. drop w (take n bs)) e ∙ drop-take w (m - w) bs

module _ {X : Type 0} (e : Sort X) (laws : Laws e) (s : ℕ) where
  module _ (m : ℕ) (bs : List ℕ) (long : m ≤ length bs) (fits : e.wide ≤ m) where
    cut_length : length (take m bs) ≡ m
    cut_length = length-take-le m bs long

    same_decode : e.decode (take m bs) ≡ e.decode bs
    same_decode =
        let n : e.wide ≤ length (take m bs) = omega (arith, cut_length) in
        sym (laws.local (take m bs) n) ∙ ap e.decode (take-take e.wide m bs fits) ∙ laws.local bs (omega arith)

    same_entry : (p : ℕ) → read_entry e s p (take m bs) ≡ read_entry e s p bs
    same_entry p =
        let body : Bool → X → Result X Fault = λ b x. cond b (Err (fault Short s p)) (cond (e.lawful x) (Ok x) (Err (fault Limits s p))) in
        let a = le-ltb (length (take m bs)) e.wide (omega (arith, cut_length)) in
        let b = le-ltb (length bs) e.wide (omega arith) in
        ap₂ {C = Result X Fault} body (a ∙ sym b) same_decode

  less : (n m k : ℕ) → e.wide * suc n + k ≤ m → (e.wide ≤ m) × (e.wide * n + k ≤ m - e.wide)
  less n m k h = let d = mul-suc e.wide n in (omega arith, omega arith)

  cut_entries : (n p : ℕ) (before : Option X) (m k : ℕ) (bs : List ℕ) → e.wide * n + k ≤ m → m ≤ length bs → Cut k (read_entries e s p before n bs) (read_entries e s p before n (take m bs))
  cut_entries zero p before m k bs h l = good (omega (arith, mul-zero e.wide))
  cut_entries (suc n) p before m k bs h l =
      let d = less n m k h in
      let i : m - e.wide ≤ length (drop e.wide bs) = simp length-drop (omega arith) in
      let F : List ℕ → X → Result (List ℕ) Fault = λ ys x. cond (follows e before x) (read_entries e s (p + 1) (Some x) n ys) (Err (fault Order s p)) in
      let c : Cut k (and_then (read_entry e s p bs) (F (drop e.wide bs))) (and_then (read_entry e s p bs) (F (take (m - e.wide) (drop e.wide bs)))) =
      cut_then k (read_entry e s p bs) _ _ (λ x. cut_if k (follows e before x) _ _ _ (cut_entries n (p + 1) (Some x) (m - e.wide) k (drop e.wide bs) d.1 i)) in
      let q : and_then (read_entry e s p bs) (F (take (m - e.wide) (drop e.wide bs))) ≡ read_entries e s p before (suc n) (take m bs) =
      ap₂ {C = Result (List ℕ) Fault} (λ o ys. and_then o (F ys)) (sym (same_entry m bs l d.0 p)) (sym (skip e.wide m bs d.0)) in
      subst (λ o. Cut k (read_entries e s p before (suc n) bs) o) q c

  same_entries : (n m : ℕ) (bs : List ℕ) → e.wide * n ≤ m → m ≤ length bs → entries e n (take m bs) ≡ entries e n bs
  same_entries zero m bs h l = refl
  same_entries (suc n) m bs h l =
      let d = less n m 0 (omega arith) in
      let i : m - e.wide ≤ length (drop e.wide bs) = simp length-drop (omega arith) in
      ap₂ {C = List X} (λ x xs. x ∷ xs) (same_decode m bs l d.0)
      (ap (entries e n) (skip e.wide m bs d.0) ∙ same_entries n (m - e.wide) (drop e.wide bs) (omega (arith, d.1)) i)

  module _ (most : ℕ) where
    same_count : (m : ℕ) (bs : List ℕ) → 2 ≤ m → m ≤ length bs → read_count s most (take m bs) ≡ read_count s most bs
    same_count m bs h l =
        let body : Bool → ℕ → Result ℕ Fault = λ b n. cond b (Err (fault Short s 0)) (cond (ltb most n) (Err (fault Count s 0)) (Ok n)) in
        let a = le-ltb (length (take m bs)) 2 (omega (arith, length-take-le m bs l)) in
        let b = le-ltb (length bs) 2 (omega arith) in
        let c : count_of (take m bs) ≡ count_of bs = omega (arith, get_or-take m bs 0 0 (omega arith), get_or-take m bs 1 0 (omega arith)) in
        ap₂ {C = Result ℕ Fault} body (a ∙ sym b) c

    to_near : (k n : ℕ) (bs cs : List ℕ) (o q : Result (List ℕ) Fault) → entries e n (drop 2 cs) ≡ entries e n (drop 2 bs) → Cut k o q → Near k (and_then o (λ r. Ok (holding e n bs r))) (and_then q (λ r. Ok (holding e n cs r)))
    to_near k n bs cs o q h bad = stopped
    to_near k n bs cs o q h (good {r} {j} l) = subst (λ xs. Near k (Ok (holding e n bs r)) (Ok (record { held = xs; rest = take j r }))) (sym h) (read l)

    by_count : (m k : ℕ) (bs : List ℕ) → 2 + (e.wide * most + k) ≤ m → m ≤ length bs → (c : Result ℕ Fault) → read_count s most bs ≡ c
        → Near k (and_then c (λ n. and_then (read_entries e s 0 None n (drop 2 bs)) (λ r. Ok (holding e n bs r)))) (and_then c (λ n. and_then (read_entries e s 0 None n (drop 2 (take m bs))) (λ r. Ok (holding e n (take m bs) r))))
    by_count m k bs h l (Err f) c = stopped
    by_count m k bs h l (Ok n) c =
        let few = (counted s most bs n c).1 in
        let w : e.wide * n ≤ e.wide * most = mul-le-mul_left e.wide few in
        let i : m - 2 ≤ length (drop 2 bs) = simp length-drop (omega arith) in
        let d = skip 2 m bs (omega arith) in
        let u : entries e n (drop 2 (take m bs)) ≡ entries e n (drop 2 bs) = ap (entries e n) d ∙ same_entries n (m - 2) (drop 2 bs) (omega arith) i in
        let v : Cut k (read_entries e s 0 None n (drop 2 bs)) (read_entries e s 0 None n (drop 2 (take m bs))) =
        subst (λ ys. Cut k (read_entries e s 0 None n (drop 2 bs)) (read_entries e s 0 None n ys)) (sym d) (cut_entries n 0 None (m - 2) k (drop 2 bs) (omega arith) i) in
        to_near k n bs (take m bs) _ _ u v

    near_itself : (k : ℕ) (o : Result (Read X) Fault) → Near k o o
    near_itself k (Err f) = stopped
    near_itself k (Ok z) =
        let t : take (length z.rest + k) z.rest ≡ z.rest = take_all (length z.rest + k) z.rest (omega arith) in
        subst (λ r. Near k (Ok z) (Ok (record { held = z.held; rest = r }))) t (read (omega arith))

    -- Cutting off what lies k bytes behind the largest section leaves the section, and k bytes of what follows it.
    pub near_section : (m k : ℕ) (bs : List ℕ) → 2 + (e.wide * most + k) ≤ m → Near k (read_section e s most bs) (read_section e s most (take m bs))
    near_section m k bs h = near_by (cases_lt m (length bs))
      where
        near_by : (m < length bs) ⊎ (length bs ≤ m) → Near k (read_section e s most bs) (read_section e s most (take m bs))
        near_by (inr l) = subst (λ ys. Near k (read_section e s most bs) (read_section e s most ys)) (sym (take_all m bs l)) (near_itself k (read_section e s most bs))
        near_by (inl l) =
            let c = same_count m bs (omega arith) (omega arith) in
            subst (λ o. Near k (read_section e s most bs) (and_then o (λ n. and_then (read_entries e s 0 None n (drop 2 (take m bs))) (λ r. Ok (holding e n (take m bs) r))))) (sym c)
            (by_count m k bs h (omega arith) (read_count s most bs) refl)
