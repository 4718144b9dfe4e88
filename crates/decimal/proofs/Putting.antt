-- Laws of what is printed into a buffer piece by piece.
use Rattle.std.proofs.Common.{◌≡◌, [], ◌∷◌, ◌++◌, ℕ, ◌+◌, ◌/◌, ◌%◌, ◌≤◌, ◌<◌, List, length, length-append, refl, ap, ◌∙◌, arith}
use borrow.Rule.Slice.PartMut.{put_mid}
use lib.Seq.{drop-drop}
use Rattle.rows.specs.Buffers.{written}
use Rattle.decimal.specs.Lines.{numeral}
use Rattle.decimal.specs.Printing.{Put}
use Rattle.decimal.specs.declared.Printer.{Printer}
use Rattle.decimal.proofs.Numerals.{numeral_more}
use Rattle.decimal.proofs.Writing.{printed_none, printed_more}

-- nothing was printed
pub put_none : (p : Printer) → Put p [] p
put_none p = record { lent = refl; size = refl; printed = printed_none p.out.now p.at }

-- a text was printed, and then another behind it
pub put_more : {p : Printer} {u : List ℕ} {q : Printer} {v : List ℕ} {r : Printer} → q.at ≤ length p.out.now → Put p u q → Put q v r → Put p (u ++ v) r
put_more h s t =
    record {
      lent = t.lent ∙ s.lent;
      size = t.size ∙ s.size;
      printed = printed_more h s.printed t.printed;
    }

-- all digits but the last are one fewer
pub numeral_tenth : (n : ℕ) → 9 < n → length (numeral n) ≡ length (numeral (n / 10)) + 1
numeral_tenth n h = ap length (numeral_more n (omega arith)) ∙ length-append (numeral (n / 10)) ((48 + n % 10) ∷ [])

-- the part of a buffer that a text takes is overwritten
pub written_part : (b : List ℕ) (at n : ℕ) (v w : List ℕ) → w ≡ v → n ≡ length v → put_mid at n b w ≡ written b at v
unfolding written
written_part b at n v w e k = rw (e, k, drop-drop (length v) at b)
