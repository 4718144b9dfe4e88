-- Copies of what is lent are refused exactly as it is.
-- Assumes nothing.
use Rattle.std.specs.Prelude.{Result, Ok, Err, ⊤}
use Prim.Native.Nat.{ℕ, ◌≤◌}
use mathlib.Core.Path.{◌≡◌, sym, ap, ap₂, ◌∙◌}
use mathlib.Core.List.{List}
use native.Mathlib.Omega.{arith}
use lib.ListN.{length, take, length-take}
use lib.Seq.{length-take-le, take-take, take-length}
use Rattle.rows.specs.Limits.{row_most}
use Rattle.rows.specs.Programme.{Alphabet, Programme, alphabet_of, programme, room}
use Rattle.rows.specs.Refusals.{◌then◌, symbols, fresh, classed, given}
use Rattle.rows.specs.declared.Refusal.{Refusal}
use Rattle.rows.specs.declared.Refusal.TheVariants.{Row}
use Rattle.rows.proofs.Passing.{Fits, clash}
use Rattle.c_lent.specs.Reading.{sizes_check}
use Rattle.c_copied.specs.Copies.{Copied, Read}
use Rattle.c_copied.proofs.Checks.{sizes_left, given_fits_lem, given_goes_on, sizes_again}
use Rattle.c_copied.proofs.Cut.{lists_cut}

-- a refusal
pub read_refused : (A : List ℕ) (P : Programme) (x : Refusal) → given (alphabet_of A) P (length P.row) ≡ Err x → (r : Result ⊤ Refusal) → r ≡ Err x → (a w t c : List ℕ) → Read A P r a w t c
read_refused A P x e r z a w t c =
    record {
      answer = z ∙ sym e;
      alphabet = λ f. absurd (clash r x f z);
      copied = λ f. absurd (clash r x f z);
      again = λ f. absurd (clash r x f z);
    }

-- the pass over copies of the first n numbers finds what is found of the whole
pub copies_find : (a : Alphabet) (P : Programme) (n : ℕ) (w t c : List ℕ) → sizes_check a n (room P) ≡ Ok tt → Copied P n w t c
    → given a P n ≡ symbols Row a.arities (take n w) then fresh Row a.arities (take n w) (take n t) then classed Row a.arities (take n w) (take n c)
copies_find a P n w t c sized k =
    given_goes_on a P n (Ok tt) sized
    ∙ sym (lists_cut a.arities P w (take n t) (take n c) n k.row (take-take n n t (omega arith) ∙ k.table) (take-take n n c (omega arith) ∙ k.classes))

module _ (A : List ℕ) (P : Programme) (w t c : List ℕ) (sized : sizes_check (alphabet_of A) (length P.row) (room P) ≡ Ok tt)
    (k : Copied P (length P.row) w t c) (long_t : length P.row ≤ length t) (long_c : length P.row ≤ length c) where
  abbrev n : ℕ
  n = length P.row

  -- what the pass over the copies finds
  abbrev pub found : Result ⊤ Refusal
  found = symbols Row A (take n w) then fresh Row A (take n w) (take n t) then classed Row A (take n w) (take n c)

  -- is what is found of the whole
  pub whole_found : given (alphabet_of A) P n ≡ found
  whole_found = copies_find (alphabet_of A) P n w t c sized k

  -- and of the row with the copies beside it
  pub copies_found : given (alphabet_of A) (programme P.row (take n t) (take n c)) n ≡ found
  copies_found =
      let Q : Programme = programme P.row (take n t) (take n c) in
      let f = sizes_left (alphabet_of A) P n sized in
      let fits : Fits n (room Q) =
      record { some = f.some; most = f.most; room = omega (arith, length-take-le n t long_t, length-take-le n c long_c) } in
      given_goes_on (alphabet_of A) Q n (Ok tt) (sizes_again (alphabet_of A) P n sized (room Q) fits)
      ∙ ap (λ (l : List ℕ). symbols Row A l then fresh Row A l (take n t) then classed Row A l (take n c)) (sym k.row)

  pub read_fine : (a : List ℕ) → take (length A) a ≡ A → found ≡ Ok tt → Read A P (Ok tt) a w t c
  read_fine a e f =
      record {
        answer = sym (whole_found ∙ f);
        alphabet = λ z. e;
        copied = λ z. k;
        again = λ z. copies_found ∙ f;
      }

  pub read_told : (a : List ℕ) → take (length A) a ≡ A → (r : Result ⊤ Refusal) → r ≡ found → Read A P r a w t c
  read_told a e (Ok _) f = read_fine a e (sym f)
  read_told a e (Err x) f = read_refused A P x (whole_found ∙ sym f) (Err x) (λ i. Err x) a w t c

-- What was read and not refused, with the lengths k of the alphabet and n of the row as a call counts them: the alphabet, the row, that
-- neither the whole nor the copies are refused, and that the copies are as long.
pub record Copies (A : List ℕ) (P : Programme) (k n : ℕ) (a w t c : List ℕ) : Type 0 where
  pub alphabet : take k a ≡ A
  pub row : take n w ≡ P.row
  pub whole : given (alphabet_of A) P (length P.row) ≡ Ok tt
  pub fine : given (alphabet_of (take k a)) (programme (take n w) (take n t) (take n c)) (length (take n w)) ≡ Ok tt
  pub most : length P.row ≤ row_most
  pub long_a : k ≤ length a
  pub long_w : n ≤ length w
  pub long_t : n ≤ length t
  pub long_c : n ≤ length c

pub copies_read : (A : List ℕ) (P : Programme) (k n : ℕ) (a w t c : List ℕ) → k ≡ length A → n ≡ length P.row → (r : Result ⊤ Refusal) → r ≡ Ok tt → Read A P r a w t c → Copies A P k n a w t c
copies_read A P k n a w t c k-is n-is r e d =
    let alphabet-is : take k a ≡ A = ap (λ (i : ℕ). take i a) k-is ∙ d.alphabet e in
    let row_is : take n w ≡ P.row = ap (λ (i : ℕ). take i w) n-is ∙ (d.copied e).row ∙ take-length P.row in
    let fine : given (alphabet_of A) (programme P.row (take n t) (take n c)) (length P.row) ≡ (Ok tt) =
    ap (λ (i : ℕ). given (alphabet_of A) (programme P.row (take i t) (take i c)) (length P.row)) n-is ∙ d.again e in
    let fits = given_fits_lem (alphabet_of A) (programme P.row (take n t) (take n c)) (length P.row) fine in
    record {
      alphabet = alphabet-is;
      row = row_is;
      whole = sym d.answer ∙ e;
      fine = ap₂ (λ (l m : List ℕ). given (alphabet_of l) (programme m (take n t) (take n c)) (length m)) alphabet-is row_is ∙ fine;
      most = fits.most;
      long_a = omega (arith, k-is, ap length alphabet-is, length-take k a);
      long_w = omega (arith, n-is, ap length row_is, length-take n w);
      long_t = omega (arith, n-is, fits.room, length-take n t);
      long_c = omega (arith, n-is, fits.room, length-take n c);
    }
