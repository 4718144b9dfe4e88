-- What the checks of sizes leave, and the checks that come after them.
-- Assumes nothing.
use Rattle.std.specs.Prelude.{Result, Ok, Err, ⊤}
use Prim.Native.Nat.{ℕ, ◌<◌}
use mathlib.Core.Path.{◌≡◌, sym, ap, ◌∙◌}
use mathlib.Core.List.{List}
use native.Mathlib.Decide.{dec_lt}
use native.Mathlib.Omega.{arith}
use borrow.Author.Tests.{lt-ltb, le-ltb}
use lib.ListN.{length}
use Rattle.rows.specs.Limits.{pattern_most, row_most}
use Rattle.rows.specs.Programme.{Alphabet, Programme, room, front}
use Rattle.rows.specs.Row.{sized, reading}
use Rattle.rows.specs.Refusals.{◌then◌, alphabet, sizes, symbols, fresh, classed, kept, given, pattern, replacement, output}
use Rattle.rows.specs.declared.Fault.TheVariants.{Long}
use Rattle.rows.specs.declared.Refusal.TheVariants.{Row, Pattern, Replacement, OutputShort}
use Rattle.rows.proofs.Passing.{Fits, both_fine, then_assoc, sizes_fits}
use Rattle.c_lent.specs.Reading.{sizes_check}
use Rattle.rows.specs.declared.Refusal.{Refusal}

-- Refusals 1 to 6, and 7 to 10 and 62 after them.
module _ (a : Alphabet) (P : Programme) (n : ℕ) where
  abbrev rest : Result ⊤ Refusal
  rest =
      symbols Row a.arities (front n P).row
      then fresh Row a.arities (front n P).row P.table
      then classed Row a.arities (front n P).row P.classes

  sizes-alphabet : sizes_check a n (room P) ≡ Ok tt → alphabet a ≡ Ok tt
  sizes-alphabet e = (both_fine (alphabet a) (sizes Row n (room P)) e).0

  pub sizes_left : sizes_check a n (room P) ≡ Ok tt → Fits n (room P)
  sizes_left e = sizes_fits Row n (room P) (both_fine (alphabet a) (sizes Row n (room P)) e).1

  pub given_fits_lem : given a P n ≡ Ok tt → Fits n (room P)
  unfolding given kept
  given_fits_lem e = sizes_fits Row n (room P) (both_fine (sizes Row n (room P)) rest (both_fine (alphabet a) (kept Row a P n) e).1).0

  pub given_goes_on : (r : Result ⊤ Refusal) → sizes_check a n (room P) ≡ r → given a P n ≡ r then rest
  unfolding given kept
  given_goes_on r e = sym (then_assoc (alphabet a) (sizes Row n (room P)) rest) ∙ ap (λ (c : Result ⊤ Refusal). c then rest) e

-- nothing is refused of sizes that fit
sizes_fine : (n m : ℕ) → Fits n m → sizes Row n m ≡ Ok tt
unfolding sizes sized
sizes_fine n m f = simp (le-ltb n 1 (omega (arith, f.some)), le-ltb row_most n f.most, le-ltb m n f.room)

-- and under the same alphabet refusals 1 to 6 leave other sizes that fit
pub sizes_again : (a : Alphabet) (P : Programme) (n : ℕ) → sizes_check a n (room P) ≡ Ok tt → (m : ℕ) → Fits n m → sizes_check a n m ≡ Ok tt
sizes_again a P n e m f = ap (λ (c : Result ⊤ Refusal). c then sizes Row n m) (sizes-alphabet a P n e) ∙ sizes_fine n m f

-- a pattern or a replacement over its limit
pub pattern_long : (A q : List ℕ) → pattern_most < length q → pattern A q ≡ Err (Pattern (Long (length q)))
unfolding pattern reading sized
pattern_long A q h = simp (le-ltb (length q) 1 (omega arith), lt-ltb pattern_most (length q) h)

pub replacement_long : (A v : List ℕ) → row_most < length v → replacement A v ≡ Err (Replacement (Long (length v)))
unfolding replacement reading sized
replacement_long A v h = simp (le-ltb (length v) 1 (omega arith), lt-ltb row_most (length v) h)

-- where n numbers are refused in m places, they have no room
pub output_refused : (n m : ℕ) (x : Refusal) → output n m ≡ Err x → (m < n) × (x ≡ OutputShort n)
unfolding output
output_refused n m x e = go (dec_lt m n)
  where
    go : Dec (m < n) → (m < n) × (x ≡ OutputShort n)
    go (yes h) = (h, let told : Err x ≡ Err (OutputShort n) = sym e ∙ rw (lt-ltb m n h) (λ i. Err (OutputShort n)) in cc)
    go (no h) = absurd (let told : Err x ≡ Ok tt = sym e ∙ rw (le-ltb m n (omega arith)) (λ i. Ok tt) in cc)
