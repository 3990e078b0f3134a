-- The text of a machine is read as the machine.
use Rattle.std.proofs.Common.{◌≡◌, ℕ, ◌+◌, ◌%◌, ◌^◌, ◌<◌, ◌≤◌, true, List, [], ◌∷◌, ◌++◌, length, Some, Ok, codes, decimal, refl, ap, ◌∙◌, append_assoc, arith}
use Rattle.std.proofs.lemmas.Bool.{and_parts, ltb-true, ne_eqb}
use Rattle.std.proofs.lemmas.Fmt.{decimal_by_steps}
use Rattle.machine.specs.declared.row.Row.{Row}
use Rattle.machine.specs.Rows.{is_byte, lawful_row}
use Rattle.machine.specs.Lists.{Lists, Few, Limits, all, ends, above, width_of}
use Rattle.reports.specs.Texts.{numbers_text, rows_text, machine_text}
use Rattle.texts.specs.Reading.{read, read_states, read_rows, read_lists, next_line, read_machine}
use Rattle.texts.specs.Laws.{ReadsBack}
use Rattle.texts.proofs.NumbersBack.{states_back}
use Rattle.machine.proofs.Largest.{above-append}
use Rattle.texts.proofs.RowsBack.{row_bytes, rows_back, length-rows}

-- No line ends in these bytes.
pub record OneLine (bs : List ℕ) : Type 0 where
  pub skips : (rest : List ℕ) → next_line (bs ++ rest) ≡ next_line rest

both : {xs ys : List ℕ} → OneLine xs → OneLine ys → OneLine (xs ++ ys)
both {xs} {ys} x y = record {
  skips = λ rest. ap next_line (append_assoc xs ys rest) ∙ x.skips (ys ++ rest) ∙ y.skips rest;
}

decimal_line : (n : ℕ) → n < 2 ^ 64 → OneLine (decimal n)
decimal_line = decimal_by_steps (λ _ ds. OneLine ds) (λ n h. one n) (λ n ds h x. both x (one (n % 10)))
  where
    one : (d : ℕ) → OneLine ((48 + d) ∷ [])
    one d = record { skips = λ rest. rw (ne_eqb (48 + d) 10 (λ e. omega arith)) }

-- The largest state is a byte, so the width is at most 256.
above_bytes : (ns : List ℕ) → all is_byte ns ≡ true → above ns ≤ 256
above_bytes [] h = omega arith
above_bytes (n ∷ ns) h =
    let k = and_parts (is_byte n) (all is_byte ns) h in
    omega (arith, ltb-true n 256 k.0, above_bytes ns k.1)

ends_bytes : (rs : List Row) → all lawful_row rs ≡ true → above (ends rs) ≤ 256
ends_bytes [] h = omega arith
ends_bytes (r ∷ rs) h = let p = and_parts (lawful_row r) (all lawful_row rs) h in omega (arith, row_bytes r p.0, ends_bytes rs p.1)

width_small : (m : Lists) → Limits m → width_of m ≤ 256
width_small m l =
    simp above-append (omega (arith, above_bytes m.starts l.starts, above_bytes m.accepts l.accepts, ends_bytes m.rows l.rows))

module _ (m : Lists) where
  -- The first line past its first word, and the lines past it.
  abbrev counts : List ℕ
  counts =
      decimal (length m.starts) ++ codes " accepting " ++ decimal (length m.accepts) ++ codes " rows "
      ++ decimal (length m.rows) ++ codes " width " ++ decimal (width_of m)

  abbrev lines : List ℕ
  lines =
      codes "start" ++ (numbers_text m.starts ++ (codes "\n"
      ++ (codes "accept" ++ (numbers_text m.accepts ++ (codes "\n" ++ rows_text 0 m.rows)))))

  regrouped : machine_text m ≡ codes "starts " ++ (counts ++ (codes "\n" ++ lines))
  regrouped =
      by (codes "starts ") (decimal (length m.starts)) (codes " accepting ") (decimal (length m.accepts)) (codes " rows ")
      (decimal (length m.rows)) (codes " width ") (decimal (width_of m)) (codes "\n")
      (codes "start") (numbers_text m.starts) (codes "accept") (numbers_text m.accepts) (rows_text 0 m.rows)
    where
      by : (a b c d e f g h n i j k l o : List ℕ)
          → (a ++ b ++ c ++ d ++ e ++ f ++ g ++ h ++ n) ++ i ++ j ++ n ++ k ++ l ++ n ++ o
          ≡ a ++ ((b ++ c ++ d ++ e ++ f ++ g ++ h) ++ (n ++ (i ++ (j ++ (n ++ (k ++ (l ++ (n ++ o))))))))
      by a b c d e f g h n i j k l o = simp append_assoc

  counts_line : Few m → Limits m → OneLine counts
  counts_line f l =
      both (both (both (both (both (both
      (decimal_line (length m.starts) (omega (arith, f.starts)))
      (record { skips = λ rest. refl }))
      (decimal_line (length m.accepts) (omega (arith, f.accepts))))
      (record { skips = λ rest. refl }))
      (decimal_line (length m.rows) (omega (arith, f.rows))))
      (record { skips = λ rest. refl }))
      (decimal_line (width_of m) (omega (arith, width_small m l)))

  lists_back : Few m → Limits m → read_lists 2 lines ≡ Ok m
  lists_back f l =
      let rows : List ℕ = rows_text 0 m.rows in
      let rest : List ℕ = codes "accept" ++ (numbers_text m.accepts ++ (codes "\n" ++ rows)) in
      let s : read_states (codes "start") lines ≡ Some (read m.starts rest) = states_back (codes "start") m.starts rest l.starts in
      let a : read_states (codes "accept") rest ≡ Some (read m.accepts rows) = states_back (codes "accept") m.accepts rows l.accepts in
      let r : read_rows (length rows) 4 rows ≡ Ok m.rows =
      rows_back m.rows (length rows) 4 0 l.rows (length-rows 0 m.rows) (omega (arith, f.rows)) in
      rw (s, a, r)

pub reads_back : ReadsBack
reads_back m f l =
    ap read_machine (regrouped m)
    ∙ ap (read_lists 2) ((counts_line m f l).skips (codes "\n" ++ lines m))
    ∙ lists_back m f l
