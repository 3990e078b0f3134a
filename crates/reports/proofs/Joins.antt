-- What the calls write one after the other, brought into the shape that the definitions have.
use Rattle.std.proofs.Common.{◌≡◌, ℕ, List, [], ◌++◌, length, codes, decimal, ◌∙◌, append_assoc}
use Rattle.machine.specs.declared.row.Row.{Row}
use Rattle.machine.specs.Rows.{pops, pushes}
use Rattle.machine.specs.Lists.{Lists, width_of}
use Rattle.reports.specs.Texts.{numbers_text, row_text, rows_text, machine_text}

pub row_joined : (place : ℕ) (r : Row) {pop push : List ℕ} → pop ≡ pops r → push ≡ pushes r
    → (codes "row " ++ (decimal place ++ (codes " from " ++ (decimal r.from ++ (codes " letter " ++ (decimal r.letter
    ++ (codes " to " ++ (decimal r.to ++ (codes " pop" ++ (numbers_text pop ++ (codes " push"
    ++ numbers_text push))))))))))) ++ codes "\n"
    ≡ row_text place r
row_joined place r e d = rw (e, d)
    (joined (codes "row ") (decimal place) (codes " from ") (decimal r.from) (codes " letter ") (decimal r.letter)
    (codes " to ") (decimal r.to) (codes " pop") (numbers_text (pops r)) (codes " push") (numbers_text (pushes r)) (codes "\n"))
  where
    joined : (a b c d e f g h i j k l m : List ℕ)
        → (a ++ (b ++ (c ++ (d ++ (e ++ (f ++ (g ++ (h ++ (i ++ (j ++ (k ++ l))))))))))) ++ m
        ≡ a ++ b ++ c ++ d ++ e ++ f ++ g ++ h ++ i ++ j ++ k ++ l ++ m
    joined a b c d e f g h i j k l m = simp append_assoc

-- The first line, the two lines of states and the lines of the rows are the text of the machine.
pub machine_joined : (m : Lists) {h i rows width : ℕ} {starts accepts empty a b c d : List ℕ}
    → h ≡ length m.starts → i ≡ length m.accepts → rows ≡ length m.rows → width ≡ width_of m → starts ≡ m.starts → accepts ≡ m.accepts → empty ≡ []
    → a ≡ empty ++ (codes "starts " ++ (decimal h ++ (codes " accepting " ++ (decimal i ++ (codes " rows " ++ (decimal rows
    ++ (codes " width " ++ (decimal width ++ codes "\n"))))))))
    → b ≡ a ++ (codes "start" ++ (numbers_text starts ++ codes "\n"))
    → c ≡ b ++ (codes "accept" ++ (numbers_text accepts ++ codes "\n"))
    → d ≡ c ++ rows_text 0 m.rows → d ≡ machine_text m
machine_joined m n o p q s t z e f g k =
    k ∙ rw (g, f, e, z, n, o, p, q, s, t)
    (joined (codes "starts ") (decimal (length m.starts)) (codes " accepting ") (decimal (length m.accepts)) (codes " rows ") (decimal (length m.rows))
    (codes " width ") (decimal (width_of m)) (codes "\n") (codes "start") (numbers_text m.starts) (codes "accept") (numbers_text m.accepts)
    (rows_text 0 m.rows))
  where
    joined : (a b c d e f g h i j k l m n : List ℕ)
        → (a ++ (b ++ (c ++ (d ++ (e ++ (f ++ (g ++ (h ++ i)))))))) ++ (j ++ (k ++ i)) ++ (l ++ (m ++ i)) ++ n
        ≡ a ++ b ++ c ++ d ++ e ++ f ++ g ++ h ++ i ++ j ++ k ++ i ++ l ++ m ++ i ++ n
    joined a b c d e f g h i j k l m n = simp append_assoc
