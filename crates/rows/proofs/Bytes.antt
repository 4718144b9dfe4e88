-- Laws of numbers as bytes: what is read, what a store changes, and the numbers of a part.
-- Assumes nothing.
use Prim.Native.Nat.{ℕ, zero, suc, ◌+◌, ◌*◌, ◌/◌, ◌%◌, ◌<◌}
use mathlib.Core.Path.{◌≡◌, refl, ap, ◌∙◌}
use mathlib.Core.List.{List, [], ◌∷◌}
use native.Mathlib.Omega.{arith}
use lib.ListN.{length, get_or, set, take, drop, length-set}
use lib.Seq.{drop-set-lt}
use Rattle.rows.specs.Bytes.{numbers}

-- one place more is two bytes more
pub twice : (j : ℕ) → 2 * suc j ≡ suc (suc (2 * j))
twice j = omega arith

pub twice_and_one : (j : ℕ) → 2 * suc j + 1 ≡ suc (suc (2 * j + 1))
twice_and_one j = omega arith

-- the number of a pair of bytes
pub pair_is : (v : ℕ) → v % 256 + 256 * (v / 256) ≡ v
pair_is v = omega arith

-- there are half as many numbers as bytes
pub numbers-length : (bs : List ℕ) → length (numbers bs) ≡ length bs / 2
unfolding numbers
numbers-length [] = refl
numbers-length (a ∷ []) = refl
numbers-length (a ∷ (b ∷ rest)) = omega (arith, numbers-length rest)

-- both bytes of a number are there
pub pair_within : (bs : List ℕ) (i : ℕ) → i < length (numbers bs) → 2 * i + 1 < length bs
pair_within bs i h = omega (arith, numbers-length bs)

-- what the check needs for the places of the two bytes
pub ruleset pairs = (numbers-length, pair_within)

-- the number at place i
pub number_at : (bs : List ℕ) (i : ℕ) → 2 * i + 1 < length bs → get_or (numbers bs) i 0 ≡ get_or bs (2 * i) 0 + 256 * get_or bs (2 * i + 1) 0
unfolding numbers
number_at [] i h = absurd (omega arith)
number_at (a ∷ []) i h = absurd (omega arith)
number_at (a ∷ (b ∷ rest)) zero h = refl
number_at (a ∷ (b ∷ rest)) (suc j) h = rw (twice_and_one, twice) (number_at rest j (omega arith))

-- a store of the bytes x and y sets the number
pub put_numbers : (bs : List ℕ) (i x y : ℕ) → i < length (numbers bs) → numbers (set (set bs (2 * i) x) (2 * i + 1) y) ≡ set (numbers bs) i (x + 256 * y)
unfolding numbers
put_numbers [] i x y h = absurd (omega arith)
put_numbers (a ∷ []) i x y h = absurd (omega arith)
put_numbers (a ∷ (b ∷ rest)) zero x y h = refl
put_numbers (a ∷ (b ∷ rest)) (suc j) x y h =
    rw (twice_and_one, twice) (ap (λ (l : List ℕ). (a + 256 * b) ∷ l) (put_numbers rest j x y (omega arith)))

-- and leaves an odd last byte
pub put_odd : (bs : List ℕ) (i x y : ℕ) → i < length (numbers bs)
    → drop (2 * length (numbers (set (set bs (2 * i) x) (2 * i + 1) y))) (set (set bs (2 * i) x) (2 * i + 1) y) ≡ drop (2 * length (numbers bs)) bs
put_odd bs i x y h =
    let n : ℕ = 2 * length (numbers bs) in
    let same : 2 * length (numbers (set (set bs (2 * i) x) (2 * i + 1) y)) ≡ n = omega (arith, ap length (put_numbers bs i x y h), length-set (numbers bs) i (x + 256 * y)) in
    ap (λ (k : ℕ). drop k (set (set bs (2 * i) x) (2 * i + 1) y)) same
    ∙ drop-set-lt n (set bs (2 * i) x) (2 * i + 1) y (omega arith)
    ∙ drop-set-lt n bs (2 * i) x (omega arith)

-- the numbers of a part, which begins behind b numbers and has m
numbers-drop : (bs : List ℕ) (b : ℕ) → numbers (drop (2 * b) bs) ≡ drop b (numbers bs)
unfolding numbers
numbers-drop bs zero = refl
numbers-drop [] (suc b) = rw (twice b) refl
numbers-drop (x ∷ []) (suc b) = rw (twice b) refl
numbers-drop (x ∷ (y ∷ rest)) (suc b) = rw (twice b) (numbers-drop rest b)

numbers-take : (bs : List ℕ) (m : ℕ) → numbers (take (2 * m) bs) ≡ take m (numbers bs)
unfolding numbers
numbers-take bs zero = refl
numbers-take [] (suc m) = rw (twice m) refl
numbers-take (x ∷ []) (suc m) = rw (twice m) refl
numbers-take (x ∷ (y ∷ rest)) (suc m) = rw (twice m) (ap (λ (l : List ℕ). (x + 256 * y) ∷ l) (numbers-take rest m))

pub numbers_part : (bs : List ℕ) (b m : ℕ) → numbers (take (2 * m) (drop (2 * b) bs)) ≡ take m (drop b (numbers bs))
numbers_part bs b m = numbers-take (drop (2 * b) bs) m ∙ ap (take m) (numbers-drop bs b)
