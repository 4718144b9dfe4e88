-- Laws of checks: what one that refuses nothing tells, and one that does.
-- Assumes nothing.
use Rattle.std.specs.Prelude.{Result, Ok, Err, ⊤}
use Prim.Native.Nat.{ℕ, ◌<◌, ◌≤◌}
use mathlib.Core.Path.{◌≡◌, refl}
use mathlib.Core.List.{List}
use mathlib.Core.Bool.{Bool, true, false}
use native.Mathlib.Omega.{arith}
use native.Mathlib.Decide.{dec_lt}
use borrow.Author.Tests.{ltb-false, lt-ltb, le-ltb, leb-false, eqb-true}
use lib.Dec.{ltb, leb, eqb}
use lib.ListN.{length}
use Rattle.rows.specs.Limits.{alphabet_most, row_most, sheet_most}
use Rattle.rows.specs.Programme.{alphabet_of}
use Rattle.rows.specs.Row.{pick, sized, or_else}
use Rattle.rows.specs.Sheet.{begin_of}
use Rattle.rows.specs.Refusals.{◌then◌, refuse_if, alphabet_size, alphabet, as_kept, as_pattern, as_replacement, sizes, sheet_size, sheet_sum, sheet, position, output}
use Rattle.rows.specs.declared.Arities.TheVariants.{Count}
use Rattle.rows.specs.declared.Kept.{Kept}
use Rattle.rows.specs.declared.Kept.TheVariants.{Short}
use Rattle.rows.specs.declared.Refusal.{Refusal}
use Rattle.rows.specs.declared.Refusal.TheVariants.{Arities, Position, OutputShort, SheetSize, SheetSum}
use Rattle.rows.proofs.Scan.{sized_fits}
use Rattle.rows.specs.declared.Fault.{Fault}

-- by cases: below, or not
pub below : (a b : ℕ) {G : Type 0} → (a < b → G) → (b ≤ a → G) → G
below a b y n = elim (dec_lt a b) [ yes h ↦ y h | no h ↦ n (omega arith) ]

-- a check that is fine does not refuse
pub clash : (c : Result ⊤ Refusal) (y : Refusal) → c ≡ Ok tt → c ≡ Err y → ⊥
clash c y f r = let z : ◌≡◌ {A = ℕ} 0 1 = cc in omega arith

pub both_fine : (a b : Result ⊤ Refusal) → ◌then◌ a b ≡ Ok tt → (a ≡ Ok tt) × (b ≡ Ok tt)
both_fine (Ok _) b e = (refl, e)
both_fine (Err r) b e = absurd (clash (Err r) r e refl)

-- three checks in their order
pub then_assoc : (a b c : Result ⊤ Refusal) → (a then b) then c ≡ a then (b then c)
then_assoc (Ok _) b c = refl
then_assoc (Err r) b c = refl

-- a check that is not fine is the first to refuse
pub refused-first : (a b : Result ⊤ Refusal) → (a ≡ Ok tt → ⊥) → a then b ≡ a
refused-first (Ok _) b n = absurd (n refl)
refused-first (Err r) b n = refl

-- THE BOUND THAT A PASSED CHECK GIVES: its test does not hold
pub refuse_fine : (b : Bool) (r : Refusal) → refuse_if b r ≡ Ok tt → b ≡ false
refuse_fine true r e = absurd (clash (Err r) r e refl)
refuse_fine false r e = refl

-- nor does it where other checks come behind it, and these are fine
pub not-refused : (b : Bool) (r : Refusal) (c : Result ⊤ Refusal) → pick b (Err r) c ≡ Ok tt → (b ≡ false) × (c ≡ Ok tt)
not-refused true r c e = absurd (clash (Err r) r e refl)
not-refused false r c e = (refl, e)

-- where the first fault of two verdicts is none, both find none
pub both_whole : (a b : Result ⊤ Fault) → or_else a b ≡ Ok tt → (a ≡ Ok tt) × (b ≡ Ok tt)
both_whole (Ok _) b e = (refl, e)
both_whole (Err f) b e = let z : ◌≡◌ {A = ℕ} 0 1 = cc in absurd (omega arith)

-- a verdict that is fine as a check is that the list is whole
pub row_fine : (whose : Kept → Refusal) (v : Result ⊤ Fault) → as_kept whose v ≡ Ok tt → v ≡ Ok tt
row_fine whose (Ok _) e = refl
row_fine whose (Err f) e = absurd (clash _ _ e refl)

pub pattern_fine : (v : Result ⊤ Fault) → as_pattern v ≡ Ok tt → v ≡ Ok tt
pattern_fine (Ok _) e = refl
pattern_fine (Err f) e = absurd (clash _ _ e refl)

pub replacement_whole : (v : Result ⊤ Fault) → as_replacement v ≡ Ok tt → v ≡ Ok tt
replacement_whole (Ok _) e = refl
replacement_whole (Err f) e = absurd (clash _ _ e refl)

-- at most 1,024 symbols
pub few : (n : ℕ) → alphabet_size n ≡ Ok tt → n ≤ alphabet_most
unfolding alphabet_size
few n e =
    ltb-false alphabet_most n
    (refuse_fine (ltb alphabet_most n) (Arities (Count n)) (both_fine (refuse_if (ltb n 1) (Arities (Count n))) (refuse_if (ltb alphabet_most n) (Arities (Count n))) e).1)

-- an alphabet of more is refused, whatever is in it
pub alphabet_long : (A : List ℕ) → alphabet_most < length A → alphabet (alphabet_of A) ≡ Err (Arities (Count (length A)))
unfolding alphabet alphabet_size
alphabet_long A h = simp (le-ltb (length A) 1 (omega arith), lt-ltb alphabet_most (length A) h)

-- a row length that is accepted is from 1 to the most, and the lists have room for it
pub record Fits (n m : ℕ) : Type 0 where
  pub some : 0 < n
  pub most : n ≤ row_most
  pub room : n ≤ m

pub sizes_fits : (whose : Kept → Refusal) (n m : ℕ) → sizes whose n m ≡ Ok tt → Fits n m
unfolding sizes
sizes_fits whose n m e =
    let both = both_fine (as_kept whose (sized n row_most)) (refuse_if (ltb m n) (whose (Short n))) e in
    let fits = sized_fits n row_most (row_fine whose (sized n row_most) both.0) in
    record { some = fits.0; most = fits.1; room = ltb-false m n (refuse_fine (ltb m n) (whose (Short n)) both.1) }

pub position_fine : (n p : ℕ) → position n p ≡ Ok tt → p < n
unfolding position
position_fine n p e = leb-false n p (refuse_fine (leb n p) (Position p) e)

pub output_fine : (n m : ℕ) → output n m ≡ Ok tt → n ≤ m
unfolding output
output_fine n m e = ltb-false m n (refuse_fine (ltb m n) (OutputShort n) e)

-- a sheet that is accepted has 1 to 64 patterns, and their lengths add up to the numbers that are lent
pub record Laid (ls : List ℕ) (m : ℕ) : Type 0 where
  pub some : 0 < length ls
  pub most : length ls ≤ sheet_most
  pub sum : begin_of ls (length ls) ≡ m

pub sheet-laid : (ls : List ℕ) (m : ℕ) → sheet ls m ≡ Ok tt → Laid ls m
unfolding sheet sheet_size sheet_sum
sheet-laid ls m e =
    let n : ℕ = length ls in
    let both = both_fine (sheet_size n) (sheet_sum ls m) e in
    let size = both_fine (refuse_if (ltb n 1) (SheetSize n)) (refuse_if (ltb sheet_most n) (SheetSize n)) both.0 in
    record {
      some = ltb-false n 1 (refuse_fine (ltb n 1) (SheetSize n) size.0);
      most = ltb-false sheet_most n (refuse_fine (ltb sheet_most n) (SheetSize n) size.1);
      sum = go (eqb (begin_of ls n) m) refl both.1;
    }
  where
    go : (b : Bool) → eqb (begin_of ls (length ls)) m ≡ b → pick {X = Result ⊤ Refusal} b (Ok tt) (Err (SheetSum m)) ≡ Ok tt → begin_of ls (length ls) ≡ m
    go true e f = eqb-true (begin_of ls (length ls)) m e
    go false e f = absurd (clash _ _ f refl)
