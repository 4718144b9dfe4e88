-- Laws of a sheet: where its patterns begin, and lists laid end to end.
-- Assumes nothing.
use Prim.Native.Nat.{ℕ, zero, suc, ◌+◌, ◌*◌, ◌-◌, ◌≤◌, ◌<◌}
use mathlib.Core.Path.{◌≡◌, refl, ap, ap₂, ◌∙◌, subst}
use mathlib.Core.List.{List, ◌++◌}
use native.Mathlib.Nat.{add-zero}
use native.Mathlib.Omega.{arith}
use native.Mathlib.Numerals.{add-one}
use lib.ListN.{length, get_or, length-append}
use Rattle.rows.specs.Sheet.{begin_of, laid}

-- WHERE A PATTERN BEGINS
pub begin_none : (ls : List ℕ) → begin_of ls 0 ≡ 0
unfolding begin_of
begin_none ls = refl

pub begin_more : (ls : List ℕ) (i : ℕ) → begin_of ls (i + 1) ≡ begin_of ls i + get_or ls i 0
unfolding begin_of
begin_more ls i = rw add-one refl

-- no further than that of a later one
pub begin_rises : (ls : List ℕ) (i k : ℕ) → begin_of ls i ≤ begin_of ls (i + k)
begin_rises ls i zero = simp add-zero (omega arith)
begin_rises ls i (suc k) =
    let on : i + k + 1 ≡ i + suc k = omega arith in
    subst (λ (j : ℕ). begin_of ls i ≤ begin_of ls j) on (omega (arith, begin_more ls (i + k), begin_rises ls i k))

-- it lies in the numbers that are lent
pub pattern_within : (ls : List ℕ) (m i : ℕ) → begin_of ls (length ls) ≡ m → i < length ls → begin_of ls i + get_or ls i 0 ≤ m
pattern_within ls m i e h =
    let on : i + 1 + (length ls - (i + 1)) ≡ length ls = omega arith in
    let rises : begin_of ls (i + 1) ≤ begin_of ls (length ls) = subst (λ (j : ℕ). begin_of ls (i + 1) ≤ begin_of ls j) on (begin_rises ls (i + 1) (length ls - (i + 1))) in
    omega (arith, begin_more ls i)

-- where each length is at most b
pub begin_most : (ls : List ℕ) (b : ℕ) → ((k : ℕ) → get_or ls k 0 ≤ b) → (i : ℕ) → begin_of ls i ≤ b * i
unfolding begin_of
begin_most ls b h zero = omega arith
begin_most ls b h (suc i) = omega (arith, begin_most ls b h i, h i)

-- LISTS LAID END TO END
pub laid_none : (l : ℕ → List ℕ) → length (laid l 0) ≡ 0
unfolding laid
laid_none l = refl

pub laid_more : (l : ℕ → List ℕ) (i : ℕ) → laid l (i + 1) ≡ laid l i ++ l i
unfolding laid
laid_more l i = rw add-one refl

pub laid-length : (l : ℕ → List ℕ) (i : ℕ) → length (laid l (i + 1)) ≡ length (laid l i) + length (l i)
laid-length l i = ap length (laid_more l i) ∙ length-append (laid l i) (l i)

-- where each list has at most b numbers
pub laid_most : (l : ℕ → List ℕ) (b n : ℕ) → ((i : ℕ) → i < n → length (l i) ≤ b) → length (laid l n) ≤ b * n
unfolding laid
laid_most l b zero h = omega arith
laid_most l b (suc n) h = rw (length-append (laid l n) (l n)) (omega (arith, laid_most l b n (λ i k. h i (omega arith)), h n (omega arith)))

-- where each has b numbers
pub laid_each : (l : ℕ → List ℕ) (b n : ℕ) → ((i : ℕ) → length (l i) ≡ b) → length (laid l n) ≡ b * n
unfolding laid
laid_each l b zero h = omega arith
laid_each l b (suc n) h = length-append (laid l n) (l n) ∙ omega (arith, laid_each l b n h, h n)

-- the same lists
pub laid_same : (l m : ℕ → List ℕ) (n : ℕ) → ((i : ℕ) → i < n → l i ≡ m i) → laid l n ≡ laid m n
unfolding laid
laid_same l m zero h = refl
laid_same l m (suc n) h = ap₂ ◌++◌ (laid_same l m n (λ i k. h i (omega arith))) (h n (omega arith))
