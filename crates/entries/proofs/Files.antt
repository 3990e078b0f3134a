-- Reading a file of three sections, section by section.
use Rattle.std.proofs.Common.{◌≡◌, ℕ, suc, ◌+◌, ◌*◌, ◌<◌, ◌≤◌, Bool, true, false, cond, ◌&&◌, eqb, List, [], ◌∷◌, ◌++◌, length, get_or, take, drop, is_ok, Ok, Err, Result, sym, refl, ap, ◌∙◌, subst, append-nil, arith, length-take}
use Rattle.std.proofs.lemmas.Bool.{eqb-true, lt-ltb, and_parts}
use Rattle.std.proofs.lemmas.Bool.Decides.{nat_tests}
use Rattle.machine.specs.declared.fault.Fault.{Fault}
use Rattle.machine.specs.declared.fault.Rule.TheVariants.{Rest}
use Rattle.machine.specs.Faults.{fault}
use Rattle.machine.specs.Rows.{is_byte}
use Rattle.machine.specs.Lists.{all}
use Rattle.entries.specs.Sorts.{Laws}
use Rattle.entries.specs.Sections.{and_then, Read, read_section, holding, entries, joined, section_bytes}
use Rattle.entries.specs.Files.{Layout, Content, read_file, LawfulFile, encode_file, FileLaws, found, Holds}
use Rattle.entries.proofs.Sections.{length-entries, section_given, section_parts, Parts, parts_bytes}
use Rattle.entries.proofs.Prefixes.{Near, stopped, read, near_section}

-- A slice of bytes holds bytes.
pub typed : (bs : List ℕ) → ((i : ℕ) → get_or bs i 0 < 256) → all is_byte bs ≡ true
typed [] h = refl
typed (b ∷ bs) h = ap (λ x. x && all is_byte bs) (lt-ltb b 256 (h 0)) ∙ typed bs (λ i. h (suc i))

all_end : (ok : ℕ → Bool) (xs ys : List ℕ) → all ok (xs ++ ys) ≡ true → all ok ys ≡ true
all_end ok [] ys h = h
all_end ok (x ∷ xs) ys h = all_end ok xs ys (and_parts (ok x) (all ok (xs ++ ys)) h).1

then_ok : {U V : Type 0} (o : Result U Fault) (k : U → Result V Fault) (y : V) → and_then o k ≡ Ok y → (x : U) × (o ≡ Ok x) × (k x ≡ Ok y)
then_ok (Ok x) k y h = (x, refl, h)
then_ok (Err f) k y h = absurd (let z : ◌≡◌ {A = ℕ} 0 1 = cc in omega arith)

last_ok : {U : Type 0} (b : Bool) (m : U) (f : Fault) (n : U) → cond b (Ok m) (Err f) ≡ Ok n → (b ≡ true) × (m ≡ n)
last_ok true m f n h = let e : m ≡ n = cc in (refl, e)
last_ok false m f n h = absurd (let z : ◌≡◌ {A = ℕ} 0 1 = cc in omega arith)

none_left : (xs : List ℕ) → eqb (length xs) 0 ≡ true → xs ≡ []
none_left [] h = refl
none_left (x ∷ xs) h = absurd (let z = eqb-true (length (x ∷ xs)) 0 h in omega arith)

some_left : (j : ℕ) (r : List ℕ) → 1 ≤ j → eqb (length r) 0 ≡ eqb (length (take j r)) 0
some_left j r h = let e = length-take j r in grind (arith, nat_tests)

module _ {X Y Z : Type 0} (l : Layout X Y Z) where
  -- what is left to do after each section
  abbrev after_third : List X → List Y → Read Z → Result (Content X Y Z) Fault
  after_third xs ys c = cond (eqb (length c.rest) 0) (Ok (record { first = xs; second = ys; third = c.held })) (Err (fault Rest 3 (length c.held)))

  abbrev after_second : List X → Read Y → Result (Content X Y Z) Fault
  after_second xs b = and_then (read_section l.third 3 l.most_third b.rest) (after_third xs b.held)

  abbrev after_first : Read X → Result (Content X Y Z) Fault
  after_first a = and_then (read_section l.second 2 l.most_second a.rest) (after_second a.held)

  pub by_first : (bs : List ℕ) (o : Result (Read X) Fault) → read_section l.first 1 l.most_first bs ≡ o → read_file l bs ≡ and_then o after_first
  unfolding read_file
  by_first bs o e = ap (λ x. and_then x after_first) e

  module _ (bs : List ℕ) (a : Read X) (first : read_section l.first 1 l.most_first bs ≡ Ok a) where
    pub by_second : (o : Result (Read Y) Fault) → read_section l.second 2 l.most_second a.rest ≡ o → read_file l bs ≡ and_then o (after_second a.held)
    by_second o e = by_first bs (Ok a) first ∙ ap (λ x. and_then x (after_second a.held)) e

    module _ (b : Read Y) (second : read_section l.second 2 l.most_second a.rest ≡ Ok b) where
      pub by_third : (o : Result (Read Z) Fault) → read_section l.third 3 l.most_third b.rest ≡ o → read_file l bs ≡ and_then o (after_third a.held b.held)
      by_third o e = by_second (Ok b) second ∙ ap (λ x. and_then x (after_third a.held b.held)) e

  -- Three sections that were read one after the other.
  module _ (bs : List ℕ) (n₁ : ℕ) (r₁ : List ℕ) (first : read_section l.first 1 l.most_first bs ≡ Ok (holding l.first n₁ bs r₁))
      (n₂ : ℕ) (r₂ : List ℕ) (second : read_section l.second 2 l.most_second r₁ ≡ Ok (holding l.second n₂ r₁ r₂))
      (n₃ : ℕ) (r₃ : List ℕ) (third : read_section l.third 3 l.most_third r₂ ≡ Ok (holding l.third n₃ r₂ r₃)) where
    abbrev content : Content X Y Z
    content = record { first = entries l.first n₁ (drop 2 bs); second = entries l.second n₂ (drop 2 r₁); third = entries l.third n₃ (drop 2 r₂) }

    by_rest : (b : Bool) → eqb (length r₃) 0 ≡ b → read_file l bs ≡ cond b (Ok content) (Err (fault Rest 3 n₃))
    by_rest b e =
        by_third bs (holding l.first n₁ bs r₁) first (holding l.second n₂ r₁ r₂) second (Ok (holding l.third n₃ r₂ r₃)) third
        ∙ ap (λ x. cond x (Ok content) (Err (fault Rest 3 (length (entries l.third n₃ (drop 2 r₂)))))) e
        ∙ ap (λ k. cond b (Ok content) (Err (fault Rest 3 k))) (length-entries l.third n₃ (drop 2 r₂))

    pub remains : eqb (length r₃) 0 ≡ false → read_file l bs ≡ Err (fault Rest 3 n₃)
    remains e = by_rest false e

    pub held : eqb (length r₃) 0 ≡ true → (a b c : List ℕ) → a ≡ joined l.first.encode (entries l.first n₁ (drop 2 bs)) → b ≡ joined l.second.encode (entries l.second n₂ (drop 2 r₁))
        → c ≡ joined l.third.encode (entries l.third n₃ (drop 2 r₂)) → Holds l bs a b c
    held none a b c x y z =
        let e : read_file l bs ≡ Ok content = by_rest true none in
        let k : content ≡ found (read_file l bs) = ap found (sym e) in
        record {
          reads = ap is_ok e;
          first_bytes = x ∙ ap (λ (m : Content X Y Z). joined l.first.encode m.first) k;
          second_bytes = y ∙ ap (λ (m : Content X Y Z). joined l.second.encode m.second) k;
          third_bytes = z ∙ ap (λ (m : Content X Y Z). joined l.third.encode m.third) k;
        }

  read_by : (o : Result (Content X Y Z) Fault) → is_ok o ≡ true → o ≡ Ok (found o)
  read_by (Ok m) h = refl
  read_by (Err f) h = absurd (let z : ◌≡◌ {A = ℕ} 0 1 = cc in omega arith)

  pub reads : (bs a b c : List ℕ) → Holds l bs a b c → read_file l bs ≡ Ok (found (read_file l bs))
  reads bs a b c h = read_by (read_file l bs) h.reads

  module _ (p : Laws l.first) (q : Laws l.second) (r : Laws l.third) where
    pub record Sections (bs : List ℕ) (m : Content X Y Z) : Type 0 where
      pub after_first : List ℕ
      pub after_second : List ℕ
      pub first : Parts l.first p 1 l.most_first bs m.first after_first
      pub second : Parts l.second q 2 l.most_second after_first m.second after_second
      pub third : Parts l.third r 3 l.most_third after_second m.third []

    pub sections : (bs : List ℕ) (m : Content X Y Z) → read_file l bs ≡ Ok m → Sections bs m
    unfolding read_file
    sections bs m h =
        let (a, first, h₁) = then_ok (read_section l.first 1 l.most_first bs) _ m h in
        let (b, second, h₂) = then_ok (read_section l.second 2 l.most_second a.rest) _ m h₁ in
        let (c, third, h₃) = then_ok (read_section l.third 3 l.most_third b.rest) _ m h₂ in
        let k = last_ok (eqb (length c.rest) 0) _ _ m h₃ in
        let n : Content X Y Z = record { first = a.held; second = b.held; third = c.held } in
        let s : Sections bs n =
        record {
          after_first = a.rest;
          after_second = b.rest;
          first = section_parts l.first p 1 l.most_first bs a.held a.rest first;
          second = section_parts l.second q 2 l.most_second a.rest b.held b.rest second;
          third = subst (λ y. Parts l.third r 3 l.most_third b.rest c.held y) (none_left c.rest k.0) (section_parts l.third r 3 l.most_third b.rest c.held c.rest third);
        } in
        subst (λ y. Sections bs y) k.1 s

    pub lawful : (bs : List ℕ) (m : Content X Y Z) → read_file l bs ≡ Ok m → LawfulFile l m
    lawful bs m h = let s = sections bs m h in record { first = s.first.lawful; second = s.second.lawful; third = s.third.lawful }

    -- The encoding of lawful content is read as that content.
    reads_back : (m : Content X Y Z) → LawfulFile l m → read_file l (encode_file l m) ≡ Ok m
    reads_back m w =
        let s : List ℕ = section_bytes l.second m.second ++ section_bytes l.third m.third in
        by_third (encode_file l m) _ (section_given l.first p 1 l.most_first m.first s w.first) _ (section_given l.second q 2 l.most_second m.second (section_bytes l.third m.third) w.second)
        _ (ap (read_section l.third 3 l.most_third) (sym (append-nil (section_bytes l.third m.third))) ∙ section_given l.third r 3 l.most_third m.third [] w.third)

    -- Bytes that are read are the encoding of lawful content.
    encoded : (bs : List ℕ) (m : Content X Y Z) → all is_byte bs ≡ true → read_file l bs ≡ Ok m → LawfulFile l m × (bs ≡ encode_file l m)
    encoded bs m b o =
        let s = sections bs m o in
        let e = parts_bytes l.first p 1 l.most_first s.first b in
        let b₁ = all_end is_byte (section_bytes l.first m.first) s.after_first (ap (all is_byte) (sym e) ∙ b) in
        let f = parts_bytes l.second q 2 l.most_second s.second b₁ in
        let b₂ = all_end is_byte (section_bytes l.second m.second) s.after_second (ap (all is_byte) (sym f) ∙ b₁) in
        let g = parts_bytes l.third r 3 l.most_third s.third b₂ in (
          lawful bs m o,
          e ∙ ap (λ x. section_bytes l.first m.first ++ x) (f ∙ ap (λ x. section_bytes l.second m.second ++ x) (g ∙ append-nil (section_bytes l.third m.third))),
        )

    ok_same : (m n : Content X Y Z) → ◌≡◌ {A = Result (Content X Y Z) Fault} (Ok m) (Ok n) → m ≡ n
    ok_same m n h = cc

    pub laws : FileLaws l
    laws =
        record {
          exactly = λ bs m b. (encoded bs m b, λ h. ap (read_file l) h.1 ∙ reads_back m h.0);
          same = λ m n w k e. ok_same m n (sym (reads_back m w) ∙ ap (read_file l) e ∙ reads_back n k);
        }

    -- A byte more than the longest file decides.
    third_near : (xs : List X) (ys : List Y) (o s : Result (Read Z) Fault) → Near 1 o s → and_then o (after_third xs ys) ≡ and_then s (after_third xs ys)
    third_near xs ys o s stopped = refl
    third_near xs ys o s (read {xs = zs} {r = t} {j = j} h) = ap (λ b. cond b (Ok (record { first = xs; second = ys; third = zs })) (Err (fault Rest 3 (length zs)))) (some_left j t h)

    second_near : (xs : List X) (k : ℕ) → 2 + (l.third.wide * l.most_third + 1) ≤ k → (o s : Result (Read Y) Fault) → Near k o s → and_then o (after_second xs) ≡ and_then s (after_second xs)
    second_near xs k e o s stopped = refl
    second_near xs k e o s (read {xs = ys} {r = t} {j = j} h) = third_near xs ys _ _ (near_section l.third r 3 l.most_third j 1 t (omega arith))

    first_near : (k k' : ℕ) → 2 + (l.third.wide * l.most_third + 1) ≤ k' → 2 + (l.second.wide * l.most_second + k') ≤ k → (o s : Result (Read X) Fault) → Near k o s → and_then o after_first ≡ and_then s after_first
    first_near k k' e f o s stopped = refl
    first_near k k' e f o s (read {xs = xs} {r = t} {j = j} h) = second_near xs k' e _ _ (near_section l.second q 2 l.most_second j k' t (omega arith))

    pub enough : (bs : List ℕ) (n : ℕ) → 7 + l.first.wide * l.most_first + l.second.wide * l.most_second + l.third.wide * l.most_third ≤ n → read_file l (take n bs) ≡ read_file l bs
    unfolding read_file
    enough bs n h =
        let k' : ℕ = 2 + (l.third.wide * l.most_third + 1) in
        let k : ℕ = 2 + (l.second.wide * l.most_second + k') in
        sym (first_near k k' (omega arith) (omega arith) _ _ (near_section l.first p 1 l.most_first n k bs (omega arith)))
