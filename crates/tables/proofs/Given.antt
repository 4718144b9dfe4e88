-- What checks that find nothing to refuse tell.
-- Assumes nothing.
use Rattle.std.specs.Prelude.{Ok}
use Prim.Native.Nat.{ℕ, ◌≤◌, ◌<◌}
use mathlib.Core.Path.{◌≡◌, sym, ap, ◌∙◌, subst}
use mathlib.Core.List.{List}
use native.Mathlib.Omega.{arith}
use lib.ListN.{length, get_or, take}
use lib.Seq.{get_or-take, length-take-le, take_all}
use Rattle.rows.specs.Limits.{row_most}
use Rattle.rows.specs.Programme.{Alphabet, Programme, room, front}
use Rattle.rows.specs.Parse.{table}
use Rattle.rows.specs.Classes.{classes}
use Rattle.rows.specs.Row.{verdict, allowed}
use Rattle.rows.specs.Refusals.{◌then◌, alphabet, sizes, symbols, fresh, classed, kept, given}
use Rattle.rows.specs.declared.Leaves.TheVariants.{Symbols}
use Rattle.rows.specs.declared.Kept.{Kept}
use Rattle.rows.specs.declared.Kept.TheVariants.{Stale, Misclassed}
use Rattle.rows.specs.declared.Refusal.{Refusal}
use Rattle.rows.specs.declared.Refusal.TheVariants.{Row}
use Rattle.rows.proofs.Passing.{both_fine, row_fine, sizes_fits}
use Rattle.rows.proofs.Entry.{length-table, entry_bounds}
use Rattle.rows.proofs.Classes.{class_of_row}
use Rattle.rows.proofs.Differ.{differs_whole}
use Rattle.tables.specs.Given.{Sized, Right, InOrder}

-- refusals 7 to 10 leave an accepted row with its table
fine_right : (whose : Kept → Refusal) (A w t : List ℕ) → Sized w t → symbols whose A w ≡ Ok tt → fresh whose A w t ≡ Ok tt → Right A w t
unfolding symbols fresh
fine_right whose A w t s row entries =
    record {
      accepted = row_fine whose (verdict A (allowed Symbols A) 1 0 w) row;
      sized = s;
      right = ap (λ (n : ℕ). take n t) (sym (length-table A w)) ∙ differs_whole (λ k. whose (Stale k)) 0 (table A w) t entries;
    }

pub check_right : (whose : Kept → Refusal) (A w t : List ℕ) → Sized w t → symbols whose A w then fresh whose A w t ≡ Ok tt → Right A w t
check_right whose A w t s e =
    let both = both_fine (symbols whose A w) (fresh whose A w t) e in
    fine_right whose A w t s both.0 both.1

-- a programme in order, whose row is the first n places of its buffer
pub record Held (a : Alphabet) (P : Programme) (n : ℕ) : Type 0 where
  pub some : 0 < n
  pub most : n ≤ row_most
  pub fits : n ≤ room P
  pub order : InOrder a (front n P)

-- refusals 4 to 10 and 62 leave a programme in order, at the front of its buffer
pub kept_right : (whose : Kept → Refusal) (a : Alphabet) (P : Programme) (n : ℕ) → kept whose a P n ≡ Ok tt → Held a P n
unfolding kept fresh classed
kept_right whose a P n e =
    let w = take n P.row in
    let one = both_fine (sizes whose n (room P)) (symbols whose a.arities w then fresh whose a.arities w P.table then classed whose a.arities w P.classes) e in
    let two = both_fine (symbols whose a.arities w) (fresh whose a.arities w P.table then classed whose a.arities w P.classes) one.1 in
    let three = both_fine (fresh whose a.arities w P.table) (classed whose a.arities w P.classes) two.1 in
    let fits = sizes_fits whose n (room P) one.0 in
    let long = length-take-le n P.row (omega (arith, fits.room)) in
    record {
      some = fits.some;
      most = fits.most;
      fits = fits.room;
      order =
          record {
            row = fine_right whose a.arities w P.table (record { most = omega (arith, fits.most); fits = omega (arith, fits.room) }) two.0 three.0;
            classed =
                record {
                  fits = omega (arith, fits.room);
                  right =
                      ap (λ (m : ℕ). take m P.classes) (sym (class_of_row a.arities w).0)
                      ∙ differs_whole (λ k. whose (Misclassed k)) 0 (classes a.arities w) P.classes three.1;
                };
          };
    }

-- where the buffer is the row itself
pub kept_whole : (whose : Kept → Refusal) (a : Alphabet) (P : Programme) → kept whose a P (length P.row) ≡ Ok tt → InOrder a P
kept_whole whose a P e =
    subst (λ (w : List ℕ). InOrder a (record { row = w; table = P.table; classes = P.classes })) (take_all (length P.row) P.row (omega arith))
    (kept_right whose a P (length P.row) e).order

-- and so do refusals 1 to 10 and 62
pub given_right : (a : Alphabet) (P : Programme) → given a P (length P.row) ≡ Ok tt → InOrder a P
unfolding given
given_right a P e = kept_whole Row a P (both_fine (alphabet a) (kept Row a P (length P.row)) e).1

-- an entry of a right table is the row's, and lies behind its position, within the row
pub right_entry : (A w t : List ℕ) → Right A w t → (p : ℕ) → p < length w → get_or t p 0 ≡ get_or (table A w) p 0
right_entry A w t r p h = sym (get_or-take (length w) t p 0 h) ∙ ap (λ (l : List ℕ). get_or l p 0) r.right

pub right_bounds : (A w t : List ℕ) → Right A w t → (p : ℕ) → p < length w → (p < get_or t p 0) × (get_or t p 0 ≤ length w)
right_bounds A w t r p h =
    let b = entry_bounds A w p h in
    let e = right_entry A w t r p h in
    (omega arith, omega arith)
