-- Reading a section, entry by entry.
use Rattle.std.proofs.Common.{◌≡◌, ℕ, zero, suc, ◌+◌, ◌-◌, ◌*◌, ◌/◌, ◌%◌, ◌<◌, ◌≤◌, Bool, true, false, cond, ◌&&◌, ltb, List, [], ◌∷◌, ◌++◌, length, get_or, take, drop, Some, None, Ok, Err, Option, Result, unwrap_or, sym, refl, ap, ◌∙◌, subst, append_assoc, mul-zero, mul-suc, arith, length-append}
use Rattle.std.proofs.lemmas.List.{take_rest, take-append-drop, take_at, drop_at, drop-drop, length-drop}
use Rattle.std.proofs.lemmas.Bool.{ltb-true, ltb-false, lt-ltb, le-ltb, and_parts}
use Rattle.machine.specs.declared.fault.Fault.{Fault}
use Rattle.machine.specs.declared.fault.Rule.TheVariants.{Short, Order, Limits, Count}
use Rattle.machine.specs.Faults.{fault}
use Rattle.machine.specs.Lists.{all}
use Rattle.machine.specs.Rows.{is_byte}
use Rattle.entries.specs.Sorts.{Sort, Laws, entry_at}
use Rattle.entries.specs.Sections.{and_then, read_entry, follows, read_entries, entries, BelowAll, Ascending, joined, count_of, count_bytes, read_count, read_section, holding, section_bytes, Lawful, Read}
use Rattle.entries.proofs.Below.{lift}

module _ {X : Type 0} (e : Sort X) (s : ℕ) where
  -- what is left to do after the entry at a place
  abbrev onwards : ℕ → Option X → ℕ → List ℕ → X → Result (List ℕ) Fault
  onwards p before n bs x = cond (follows e before x) (read_entries e s (p + 1) (Some x) n (drop e.wide bs)) (Err (fault Order s p))

  one : (p : ℕ) (before : Option X) (n : ℕ) (bs : List ℕ) → 0 < n → read_entries e s p before n bs ≡ and_then (read_entry e s p bs) (onwards p before (n - 1) bs)
  one p before zero bs h = absurd (omega arith)
  one p before (suc n) bs h = let k : n ≡ suc n - 1 = omega arith in ap (λ m. and_then (read_entry e s p bs) (onwards p before m bs)) k

  module _ (p : ℕ) (before : Option X) (n : ℕ) (bs : List ℕ) (h : 0 < n) where
    pub stops : (f : Fault) → read_entry e s p bs ≡ Err f → read_entries e s p before n bs ≡ Err f
    stops f r = one p before n bs h ∙ ap (λ o. and_then o (onwards p before (n - 1) bs)) r

    pub breaks : (x : X) → read_entry e s p bs ≡ Ok x → follows e before x ≡ false → read_entries e s p before n bs ≡ Err (fault Order s p)
    breaks x r a =
        one p before n bs h ∙ ap (λ o. and_then o (onwards p before (n - 1) bs)) r
        ∙ ap (λ b. cond b (read_entries e s (p + 1) (Some x) (n - 1) (drop e.wide bs)) (Err (fault Order s p))) a

    goes : (x : X) → read_entry e s p bs ≡ Ok x → follows e before x ≡ true → read_entries e s p before n bs ≡ read_entries e s (p + 1) (Some x) (n - 1) (drop e.wide bs)
    goes x r a =
        one p before n bs h ∙ ap (λ o. and_then o (onwards p before (n - 1) bs)) r
        ∙ ap (λ b. cond b (read_entries e s (p + 1) (Some x) (n - 1) (drop e.wide bs)) (Err (fault Order s p))) a

  -- a turn of the loop, as the code cuts off what it has read
  pub next : (i count d : ℕ) (before : Option X) (bs : List ℕ) (x : X) (o : Result (List ℕ) Fault) → d ≡ e.wide → i < count → read_entry e s i bs ≡ Ok x → follows e before x ≡ true → read_entries e s i before (count - i) bs ≡ o → read_entries e s (i + 1) (Some x) (count - (i + 1)) (take (length bs - d) (drop d bs)) ≡ o
  next i count d before bs x o w h r a inv =
      let n : count - (i + 1) ≡ count - i - 1 = omega arith in
      let pos : 0 < count - i = omega arith in
      rw (w, n, take_rest) (sym (goes i before (count - i) bs pos x r a) ∙ inv)

-- Entries that were read are whole, within their limits and ascending, and their bytes are what was read.
module _ {X : Type 0} (e : Sort X) (laws : Laws e) (s : ℕ) where
  split : (p : ℕ) (bs : List ℕ) (a b : Bool) (n : X → Result (List ℕ) Fault) (rest : List ℕ) → ltb (length bs) e.wide ≡ a → e.lawful (e.decode bs) ≡ b
      → and_then (cond a (Err (fault Short s p)) (cond b (Ok (e.decode bs)) (Err (fault Limits s p)))) n ≡ Ok rest
      → (e.wide ≤ length bs) × (e.lawful (e.decode bs) ≡ true) × (n (e.decode bs) ≡ Ok rest)
  split p bs true b n rest l k h = absurd (let z : ◌≡◌ {A = ℕ} 0 1 = cc in omega arith)
  split p bs false false n rest l k h = absurd (let z : ◌≡◌ {A = ℕ} 0 1 = cc in omega arith)
  split p bs false true n rest l k h = (ltb-false (length bs) e.wide l, k, h)

  after : (b : Bool) (o : Result (List ℕ) Fault) (f : Fault) (rest : List ℕ) → cond b o (Err f) ≡ Ok rest → (b ≡ true) × (o ≡ Ok rest)
  after true o f rest h = (refl, h)
  after false o f rest h = absurd (let z : ◌≡◌ {A = ℕ} 0 1 = cc in omega arith)

  abbrev Above : Option X → List X → Type 0
  Above None xs = Unit {0}
  Above (Some x) xs = BelowAll e x xs

  onto : (before : Option X) (y : X) (ys : List X) → follows e before y ≡ true → BelowAll e y ys → Above before (y ∷ ys)
  onto None y ys h a = tt
  onto (Some x) y ys h a = (h, lift e laws x y h ys a)

  pub record Taken (before : Option X) (n : ℕ) (bs rest : List ℕ) : Type 0 where
    pub above : Above before (entries e n bs)
    pub ascending : Ascending e (entries e n bs)
    pub limits : all e.lawful (entries e n bs) ≡ true
    pub bytes : bs ≡ joined e.encode (entries e n bs) ++ rest

  pub taken : (n p : ℕ) (before : Option X) (bs rest : List ℕ) → read_entries e s p before n bs ≡ Ok rest → Taken before n bs rest
  taken zero p None bs rest h = record { above = tt; ascending = tt; limits = refl; bytes = cc }
  taken zero p (Some x) bs rest h = record { above = tt; ascending = tt; limits = refl; bytes = cc }
  taken (suc n) p before bs rest h =
      let x : X = e.decode bs in
      let k = split p bs (ltb (length bs) e.wide) (e.lawful x) (onwards e s p before n bs) rest refl refl h in
      let j = after (follows e before x) _ _ rest k.2 in
      let i = taken n (p + 1) (Some x) (drop e.wide bs) rest j.1 in
      let xs : List X = entries e n (drop e.wide bs) in
      record {
        above = onto before x xs j.0 i.above;
        ascending = (i.above, i.ascending);
        limits = ap (λ b. b && all e.lawful xs) k.1 ∙ i.limits;
        bytes =
            sym (take-append-drop e.wide bs)
            ∙ ap (λ ys. ys ++ drop e.wide bs) (sym (laws.encodes bs k.0))
            ∙ ap (λ ys. e.encode x ++ ys) i.bytes
            ∙ sym (append_assoc (e.encode x) (joined e.encode xs) rest);
      }

  next_follows : (before : Option X) (x : X) (xs : List X) → Above before (x ∷ xs) → follows e before x ≡ true
  next_follows None x xs a = refl
  next_follows (Some y) x xs a = a.0

  reads : (p : ℕ) (x : X) (ys : List ℕ) → e.lawful x ≡ true → read_entry e s p (e.encode x ++ ys) ≡ Ok x
  reads p x ys h =
      let n : e.wide ≤ length (e.encode x ++ ys) = simp length-append (omega (arith, laws.size x h)) in
      ap (λ b. cond b (Err (fault Short s p)) (cond (e.lawful (e.decode (e.encode x ++ ys))) (Ok (e.decode (e.encode x ++ ys))) (Err (fault Limits s p)))) (le-ltb (length (e.encode x ++ ys)) e.wide n)
      ∙ ap (λ y. cond (e.lawful y) (Ok y) (Err (fault Limits s p))) (laws.decodes x ys h)
      ∙ ap (λ b. cond b (Ok x) (Err (fault Limits s p))) h

  -- The bytes of lawful ascending entries are read as these entries.
  pub given : (xs : List X) (p : ℕ) (before : Option X) (rest : List ℕ) → Above before xs → Ascending e xs → all e.lawful xs ≡ true
      → (read_entries e s p before (length xs) (joined e.encode xs ++ rest) ≡ Ok rest) × (entries e (length xs) (joined e.encode xs ++ rest) ≡ xs)
  given [] p before rest a b l = (refl, refl)
  given (x ∷ xs) p before rest a b l =
      let k = and_parts (e.lawful x) (all e.lawful xs) l in
      let i = given xs (p + 1) (Some x) rest b.0 b.1 k.1 in
      let ys : List ℕ = joined e.encode xs ++ rest in
      let n : ℕ = length xs in
      let m : 0 < suc n = omega arith in
      let d : drop e.wide (e.encode x ++ ys) ≡ ys = drop_at (e.encode x) ys e.wide (laws.size x k.0) in
      let assoc = append_assoc (e.encode x) (joined e.encode xs) rest in
      let o : n ≡ suc n - 1 = omega arith in (
        ap (read_entries e s p before (suc n)) assoc
            ∙ goes e s p before (suc n) (e.encode x ++ ys) m x (reads p x ys k.0) (next_follows before x xs a)
            ∙ ap (λ j. read_entries e s (p + 1) (Some x) j (drop e.wide (e.encode x ++ ys))) (sym o)
            ∙ ap (read_entries e s (p + 1) (Some x) n) d
            ∙ i.0,
        ap (entries e (suc n)) assoc
            ∙ ap (λ y. y ∷ entries e n (drop e.wide (e.encode x ++ ys))) (laws.decodes x ys k.0)
            ∙ ap (λ zs. x ∷ entries e n zs) d
            ∙ ap (λ zs. x ∷ zs) i.1,
      )

pub length-entries : {X : Type 0} (e : Sort X) (n : ℕ) (bs : List ℕ) → length (entries e n bs) ≡ n
length-entries e zero bs = refl
length-entries e (suc n) bs = ap suc (length-entries e n (drop e.wide bs))

module _ (s most : ℕ) where
  count_split : (bs : List ℕ) (n : ℕ) (a b : Bool) → ltb (length bs) 2 ≡ a → ltb most (count_of bs) ≡ b → cond a (Err (fault Short s 0)) (cond b (Err (fault Count s 0)) (Ok (count_of bs))) ≡ Ok n
      → (2 ≤ length bs) × (n ≤ most) × (count_of bs ≡ n)
  count_split bs n true b l k h = absurd (let z : ◌≡◌ {A = ℕ} 0 1 = cc in omega arith)
  count_split bs n false true l k h = absurd (let z : ◌≡◌ {A = ℕ} 0 1 = cc in omega arith)
  count_split bs n false false l k h =
      let i : count_of bs ≡ n = cc in
      let j = ltb-false most (count_of bs) k in
      (ltb-false (length bs) 2 l, omega arith, i)

  -- What a count that was read says.
  pub counted : (bs : List ℕ) (n : ℕ) → read_count s most bs ≡ Ok n → (2 ≤ length bs) × (n ≤ most) × (count_of bs ≡ n)
  counted bs n h = count_split bs n (ltb (length bs) 2) (ltb most (count_of bs)) refl refl h

two : (bs : List ℕ) → 2 ≤ length bs → bs ≡ get_or bs 0 0 ∷ get_or bs 1 0 ∷ drop 2 bs
two [] h = absurd (omega arith)
two (a ∷ []) h = absurd (omega arith)
two (a ∷ b ∷ bs) h = refl

pub byte_at : (bs : List ℕ) (i : ℕ) → all is_byte bs ≡ true → get_or bs i 0 < 256
byte_at [] i h = omega arith
byte_at (b ∷ bs) zero h = ltb-true b 256 (and_parts (is_byte b) (all is_byte bs) h).0
byte_at (b ∷ bs) (suc i) h = byte_at bs i (and_parts (is_byte b) (all is_byte bs) h).1

-- The bytes of a count are those that it was read from.
count_back : (bs : List ℕ) (n : ℕ) → 2 ≤ length bs → count_of bs ≡ n → get_or bs 1 0 < 256 → bs ≡ count_bytes n ++ drop 2 bs
count_back bs n h c l =
    let hi : get_or bs 0 0 ≡ n / 256 = omega arith in
    let lo : get_or bs 1 0 ≡ n % 256 = omega arith in
    let t = two bs h in
    cc

-- A section whose count is known goes by its entries.
pub section_by : {X : Type 0} (e : Sort X) (s most n : ℕ) (bs : List ℕ) → read_count s most bs ≡ Ok n → (o : Result (List ℕ) Fault) → read_entries e s 0 None n (drop 2 bs) ≡ o
    → read_section e s most bs ≡ and_then o (λ rest. Ok (holding e n bs rest))
section_by e s most n bs c o r =
    ap (λ x. and_then x (λ m. and_then (read_entries e s 0 None m (drop 2 bs)) (λ rest. Ok (holding e m bs rest)))) c
    ∙ ap (λ x. and_then x (λ rest. Ok (holding e n bs rest))) r

module _ {X : Type 0} (e : Sort X) (laws : Laws e) (s most : ℕ) where
  -- A section that was read is lawful, and its bytes are what was read.
  pub section_taken : (bs rest : List ℕ) (n : ℕ) → get_or bs 1 0 < 256 → read_count s most bs ≡ Ok n → read_entries e s 0 None n (drop 2 bs) ≡ Ok rest
      → Lawful e most (entries e n (drop 2 bs)) × (bs ≡ section_bytes e (entries e n (drop 2 bs)) ++ rest)
  section_taken bs rest n low c r =
      let k = counted s most bs n c in
      let t = taken e laws s n 0 None (drop 2 bs) rest r in
      let xs : List X = entries e n (drop 2 bs) in
      let l : length xs ≡ n = length-entries e n (drop 2 bs) in (
        record { few = rw l k.1; limits = t.limits; ascending = t.ascending },
        count_back bs n k.0 k.2 low
            ∙ ap (λ zs. count_bytes n ++ zs) t.bytes
            ∙ ap (λ m. count_bytes m ++ (joined e.encode xs ++ rest)) (sym l),
      )

  -- The bytes of a lawful section are read as its entries.
  pub section_given : (xs : List X) (rest : List ℕ) → Lawful e most xs → read_section e s most (section_bytes e xs ++ rest) ≡ Ok (record { held = xs; rest = rest })
  section_given xs rest l =
      let n : ℕ = length xs in
      let bs : List ℕ = section_bytes e xs ++ rest in
      let g = given e laws s xs 0 None rest tt l.ascending l.limits in
      let c : count_of bs ≡ n = omega arith in
      let two : 2 ≤ length bs = omega arith in
      let few : count_of bs ≤ most = omega (arith, l.few) in
      let r : read_count s most bs ≡ Ok n =
      ap (λ b. cond b (Err (fault Short s 0)) (cond (ltb most (count_of bs)) (Err (fault Count s 0)) (Ok (count_of bs)))) (le-ltb (length bs) 2 two)
      ∙ ap (λ b. cond b (Err (fault Count s 0)) (Ok (count_of bs))) (le-ltb most (count_of bs) few)
      ∙ ap {B = Result ℕ Fault} (λ m. Ok m) c in
      section_by e s most n bs r (Ok rest) g.0 ∙ ap {B = Result (Read X) Fault} (λ ys. Ok (record { held = ys; rest = rest })) g.1

-- What stands in front of a list's end.
pub front : {X : Type 0} (bs xs ys : List X) → bs ≡ xs ++ ys → take (length bs - length ys) bs ≡ xs
front bs xs ys e =
    let n : length bs ≡ length xs + length ys = ap length e ∙ length-append xs ys in
    ap (take (length bs - length ys)) e ∙ take_at xs ys (length bs - length ys) (omega arith)

-- What came of a section that was read, as sections are told by their outcome.
module _ {X : Type 0} (e : Sort X) (laws : Laws e) (s most : ℕ) where
  entries_split : (bs : List ℕ) (n : ℕ) (o : Result (List ℕ) Fault) (xs : List X) (r : List ℕ) → and_then o (λ rest. Ok (holding e n bs rest)) ≡ Ok (record { held = xs; rest = r }) → (o ≡ Ok r) × (entries e n (drop 2 bs) ≡ xs)
  entries_split bs n (Err f) xs r h = absurd (let z : ◌≡◌ {A = ℕ} 0 1 = cc in omega arith)
  entries_split bs n (Ok rest) xs r h =
      let k : holding e n bs rest ≡ record { held = xs; rest = r } = cc in
      (ap {B = Result (List ℕ) Fault} (λ (z : Read X). Ok z.rest) k, ap (λ (z : Read X). z.held) k)

  pub record Parts (bs : List ℕ) (xs : List X) (r : List ℕ) : Type 0 where
    pub lawful : Lawful e most xs
    pub long : 2 ≤ length bs
    pub count : count_of bs ≡ length xs
    pub bytes : drop 2 bs ≡ joined e.encode xs ++ r

  parts_by : (bs : List ℕ) (c : Result ℕ Fault) (xs : List X) (r : List ℕ) → read_count s most bs ≡ c → and_then c (λ n. and_then (read_entries e s 0 None n (drop 2 bs)) (λ rest. Ok (holding e n bs rest))) ≡ Ok (record { held = xs; rest = r }) → Parts bs xs r
  parts_by bs (Err f) xs r c h = absurd (let z : ◌≡◌ {A = ℕ} 0 1 = cc in omega arith)
  parts_by bs (Ok n) xs r c h =
      let k = entries_split bs n (read_entries e s 0 None n (drop 2 bs)) xs r h in
      let t = taken e laws s n 0 None (drop 2 bs) r k.0 in
      let j = counted s most bs n c in
      let l : length (entries e n (drop 2 bs)) ≡ n = length-entries e n (drop 2 bs) in
      let w : Lawful e most (entries e n (drop 2 bs)) = record { few = rw l j.1; limits = t.limits; ascending = t.ascending } in
      record {
        lawful = subst (λ ys. Lawful e most ys) k.1 w;
        long = j.0;
        count = j.2 ∙ sym l ∙ ap length k.1;
        bytes = t.bytes ∙ ap (λ ys. joined e.encode ys ++ r) k.1;
      }

  pub section_parts : (bs : List ℕ) (xs : List X) (r : List ℕ) → read_section e s most bs ≡ Ok (record { held = xs; rest = r }) → Parts bs xs r
  section_parts bs xs r h = parts_by bs (read_count s most bs) xs r refl h

  -- Where all are bytes, what was read is the encoding of the section.
  pub parts_bytes : {bs : List ℕ} {xs : List X} {r : List ℕ} → Parts bs xs r → all is_byte bs ≡ true → bs ≡ section_bytes e xs ++ r
  parts_bytes {bs} {xs} {r} p b = count_back bs (length xs) p.long p.count (byte_at bs 1 b) ∙ ap (λ zs. count_bytes (length xs) ++ zs) p.bytes

-- An entry at a place of a section's bytes.
module _ {X : Type 0} (e : Sort X) (laws : Laws e) where
  pub past : (bs : List ℕ) (k : ℕ) → length bs ≤ k → None ≡ entry_at e (drop k bs)
  past bs k h =
      let l : length (drop k bs) < e.wide = simp length-drop (omega (arith, laws.nonempty)) in
      sym (ap (λ b. cond b None (Some (e.decode (drop k bs)))) (lt-ltb (length (drop k bs)) e.wide l))

  there : (x : X) (ys : List ℕ) → e.lawful x ≡ true → entry_at e (e.encode x ++ ys) ≡ Some x
  there x ys h =
      let n : e.wide ≤ length (e.encode x ++ ys) = simp length-append (omega (arith, laws.size x h)) in
      ap (λ b. cond b None (Some (e.decode (e.encode x ++ ys)))) (le-ltb (length (e.encode x ++ ys)) e.wide n)
      ∙ ap {B = Option X} (λ y. Some y) (laws.decodes x ys h)

  -- In the bytes of lawful entries, the entry at a place is that of the list.
  pub stands : (xs : List X) (i : ℕ) (d : X) → all e.lawful xs ≡ true → unwrap_or (entry_at e (drop (e.wide * i) (joined e.encode xs))) d ≡ get_or xs i d
  stands [] i d l = ap (λ o. unwrap_or o d) (sym (past [] (e.wide * i) (omega arith)))
  stands (x ∷ xs) zero d l =
      let k = and_parts (e.lawful x) (all e.lawful xs) l in
      ap (λ m. unwrap_or (entry_at e (drop m (e.encode x ++ joined e.encode xs))) d) (mul-zero e.wide)
      ∙ ap (λ o. unwrap_or o d) (there x (joined e.encode xs) k.0)
  stands (x ∷ xs) (suc i) d l =
      let k = and_parts (e.lawful x) (all e.lawful xs) l in
      let m : e.wide * suc i ≡ e.wide + e.wide * i = omega (arith, mul-suc e.wide i) in
      ap (λ j. unwrap_or (entry_at e (drop j (e.encode x ++ joined e.encode xs))) d) m
      ∙ ap (λ ys. unwrap_or (entry_at e ys) d) (sym (drop-drop (e.wide * i) e.wide (e.encode x ++ joined e.encode xs)))
      ∙ ap (λ ys. unwrap_or (entry_at e (drop (e.wide * i) ys)) d) (drop_at (e.encode x) (joined e.encode xs) e.wide (laws.size x k.0))
      ∙ stands xs i d k.1

  pub length-joined : (xs : List X) → all e.lawful xs ≡ true → length (joined e.encode xs) ≡ e.wide * length xs
  length-joined [] l = sym (mul-zero e.wide)
  length-joined (x ∷ xs) l =
      let k = and_parts (e.lawful x) (all e.lawful xs) l in
      simp length-append (omega (arith, laws.size x k.0, length-joined xs k.1, mul-suc e.wide (length xs)))
