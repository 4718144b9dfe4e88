-- Laws of numerals: one digit more, all digits, no leading zero, and the value that they make.
-- Assumes nothing.
use Prim.Native.Nat.{ℕ, zero, suc, ◌+◌, ◌*◌, ◌-◌, ◌/◌, ◌%◌, ◌^◌, ◌≤◌, ◌<◌}
use mathlib.Core.Path.{◌≡◌, refl, ◌∙◌}
use mathlib.Core.List.{List, [], ◌∷◌, ◌++◌}
use mathlib.Core.Bool.{Bool, true, false}
use native.Mathlib.Omega.{arith}
use lib.Dec.{ltb}
use lib.ListN.{length, get_or, length-append, get_or-append}
use borrow.Author.Tests.{lt-ltb, le-ltb, le-leb, ltb-true, ltb-false, leb-true}
use Rattle.decimal.specs.Lines.{spelled, numeral}
use Rattle.decimal.specs.Promises.{is_digit, Digits, value}

pub digit_is : (d : ℕ) → 48 ≤ d → d ≤ 57 → is_digit d ≡ true
digit_is d lo hi = rw (le-ltb d 48 lo, le-leb d 57 hi)

pub digit_bounds : (d : ℕ) → is_digit d ≡ true → (48 ≤ d) × (d ≤ 57)
digit_bounds d h = go (ltb d 48) refl h
  where
    go : (b : Bool) → ltb d 48 ≡ b → is_digit d ≡ true → (48 ≤ d) × (d ≤ 57)
    go true e k = let z : ◌≡◌ {A = ℕ} 0 1 = cc in absurd (omega arith)
    go false e k = (ltb-false d 48 e, leb-true d 57 (rw e at k))

-- what holds of the digits below 10, and with one digit more, holds of all that are spelled
cases : (k n : ℕ) → n ≤ suc k → (P : List ℕ → Type 0) → (n < 10 → P ((48 + n) ∷ []))
    → (10 ≤ n → P (spelled k (n / 10) ++ ((48 + n % 10) ∷ []))) → P (spelled (suc k) n)
unfolding spelled
cases k n h P one more = go (ltb n 10) refl
  where
    go : (b : Bool) → ltb n 10 ≡ b → P (spelled (suc k) n)
    go true e = rw e (one (ltb-true n 10 e))
    go false e = rw e (more (ltb-false n 10 e))

-- any bound that is large enough gives the same digits
spelled_same : (k j n : ℕ) → n ≤ k → n ≤ j → spelled k n ≡ spelled j n
unfolding spelled
spelled_same zero zero n h i = refl
spelled_same zero (suc j) n h i = rw (lt-ltb n 10 (omega arith))
spelled_same (suc k) zero n h i = rw (lt-ltb n 10 (omega arith))
spelled_same (suc k) (suc j) n h i =
    cases k n h (λ w. w ≡ spelled (suc j) n) (λ l. rw (lt-ltb n 10 l))
    (λ l. rw (le-ltb n 10 l, spelled_same k j (n / 10) (omega arith) (omega arith)))

pub numeral_one : (n : ℕ) → n < 10 → numeral n ≡ (48 + n) ∷ []
unfolding numeral spelled
numeral_one zero h = refl
numeral_one (suc n) h = rw (lt-ltb (suc n) 10 h)

pub numeral_more : (n : ℕ) → 10 ≤ n → numeral n ≡ numeral (n / 10) ++ ((48 + n % 10) ∷ [])
unfolding numeral spelled
numeral_more zero h = absurd (omega arith)
numeral_more (suc n) h = rw (le-ltb (suc n) 10 h, spelled_same n (suc n / 10) (suc n / 10) (omega arith) (omega arith))

-- a digit behind a number that is not 0
pub numeral_grows : (n d : ℕ) → 0 < n → 48 ≤ d → d ≤ 57 → numeral (n * 10 + (d - 48)) ≡ numeral n ++ (d ∷ [])
numeral_grows n d h lo hi =
    let q : (n * 10 + (d - 48)) / 10 ≡ n = omega arith in
    let r : 48 + (n * 10 + (d - 48)) % 10 ≡ d = omega arith in
    numeral_more (n * 10 + (d - 48)) (omega arith) ∙ rw (q, r)

-- a numeral has a first byte
spelled_some : (k n : ℕ) → n ≤ k → 0 < length (spelled k n)
unfolding spelled
spelled_some zero n h = omega arith
spelled_some (suc k) n h =
    cases k n h (λ w. 0 < length w) (λ l. omega arith) (λ l. rw length-append (omega arith))

-- its bytes are digits
pub digits_append : (w v : List ℕ) → Digits w → Digits v → Digits (w ++ v)
unfolding Digits
digits_append [] v h k = k
digits_append (d ∷ w) v h k = (h.0, digits_append w v h.1 k)

spelled_digits : (k n : ℕ) → n ≤ k → Digits (spelled k n)
unfolding spelled Digits
spelled_digits zero n h = (digit_is (48 + n) (omega arith) (omega arith), tt)
spelled_digits (suc k) n h =
    cases k n h (λ w. Digits w) (λ l. (digit_is (48 + n) (omega arith) (omega arith), tt))
    (λ l. digits_append (spelled k (n / 10)) ((48 + n % 10) ∷ []) (spelled_digits k (n / 10) (omega arith)) (digit_is (48 + n % 10) (omega arith) (omega arith), tt))

-- they make the number
pub value-append : (m : ℕ) (w v : List ℕ) → value m (w ++ v) ≡ value (value m w) v
unfolding value
value-append m [] v = refl
value-append m (d ∷ w) v = value-append (m * 10 + (d - 48)) w v

pub value_grows : (m : ℕ) (w : List ℕ) → m ≤ value m w
unfolding value
value_grows m [] = omega arith
value_grows m (d ∷ w) = omega (arith, value_grows (m * 10 + (d - 48)) w)

spelled-value : (k n : ℕ) → n ≤ k → value 0 (spelled k n) ≡ n
unfolding spelled value
spelled-value zero n h = omega arith
spelled-value (suc k) n h =
    cases k n h (λ w. value 0 w ≡ n) (λ l. omega arith)
    (λ l. let v = spelled-value k (n / 10) (omega arith) in value-append 0 (spelled k (n / 10)) ((48 + n % 10) ∷ []) ∙ rw v (omega arith))

-- only 0 begins with a 0
spelled_head : (k n : ℕ) → n ≤ k → 0 < n → 48 < get_or (spelled k n) 0 0
unfolding spelled
spelled_head zero n h i = absurd (omega arith)
spelled_head (suc k) n h i =
    cases k n h (λ w. 48 < get_or w 0 0) (λ l. omega arith)
    (λ l. rw (get_or-append (spelled k (n / 10)) ((48 + n % 10) ∷ []) 0 0 (spelled_some k (n / 10) (omega arith))) (spelled_head k (n / 10) (omega arith) (omega arith)))

module _ (n : ℕ) where
  pub numeral_some : 0 < length (numeral n)
  unfolding numeral
  numeral_some = spelled_some n n (omega arith)

  pub numeral_digits : Digits (numeral n)
  unfolding numeral
  numeral_digits = spelled_digits n n (omega arith)

  pub numeral-value : value 0 (numeral n) ≡ n
  unfolding numeral
  numeral-value = spelled-value n n (omega arith)

  pub numeral_head : 0 < n → 48 < get_or (numeral n) 0 0
  unfolding numeral
  numeral_head h = spelled_head n n (omega arith) h

-- a number below 10^k has at most k digits
pub numeral_fits : (k n : ℕ) → n < 10 ^ suc k → length (numeral n) ≤ suc k
numeral_fits zero n h = rw (numeral_one n h) (omega arith)
numeral_fits (suc k) n h = go (ltb n 10) refl (λ l. numeral_fits k (n / 10) l)
  where
    go : (b : Bool) → ltb n 10 ≡ b → (n / 10 < 10 ^ suc k → length (numeral (n / 10)) ≤ suc k) → length (numeral n) ≤ suc (suc k)
    go true e r = rw (numeral_one n (ltb-true n 10 e)) (omega arith)
    go false e r =
        let i = r (omega arith) in
        rw (numeral_more n (ltb-false n 10 e), length-append) (omega arith)

-- a machine word has at most 20 digits
pub numeral_word : (n : ℕ) → n < 2 ^ 64 → length (numeral n) ≤ 20
numeral_word n h = numeral_fits 19 n (omega arith)
