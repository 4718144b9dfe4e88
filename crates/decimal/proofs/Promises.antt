-- The promises of specs/Promises, proved.
-- Assumes nothing.
use Prim.Native.Nat.{ℕ, zero, suc, ◌+◌, ◌*◌, ◌-◌, ◌≤◌, ◌<◌}
use mathlib.Core.Path.{◌≡◌, refl, sym, ap, ◌∙◌}
use mathlib.Core.List.{List, [], ◌∷◌, ◌++◌, append_assoc, append-nil}
use mathlib.Core.Bool.{Bool, true, false}
use native.Mathlib.Omega.{arith}
use lib.Dec.{eqb}
use lib.ListN.{length, get_or}
use borrow.Author.Tests.{eqb-true, eqb-false}
use Rattle.decimal.specs.Lines.{numeral, following, line}
use Rattle.decimal.specs.Promises.{is_digit, Digits, value, Decimal, NumeralDecimal, OneLine}
use Rattle.decimal.proofs.Numerals.{numeral_one, numeral_grows, numeral_some, numeral_digits, numeral-value, numeral_head, digit_bounds}
use Rattle.decimal.proofs.Runs.{numeral-alone}

-- digits behind a number that is not 0
numeral_on : (m : ℕ) (w : List ℕ) → 0 < m → Digits w → numeral (value m w) ≡ numeral m ++ w
unfolding Digits value
numeral_on m [] h d = sym (append-nil (numeral m))
numeral_on m (x ∷ w) h d =
    let k = digit_bounds x d.0 in
    numeral_on (m * 10 + (x - 48)) w (omega arith) d.1 ∙ rw (numeral_grows m x h k.0 k.1, append_assoc)

only : (w : List ℕ) (n : ℕ) → Decimal w n → w ≡ numeral n
unfolding Digits value
only [] n s = absurd (omega (arith, s.some))
only (d ∷ w) n s = go (eqb d 48) refl
  where
    k : (48 ≤ d) × (d ≤ 57)
    k = digit_bounds d s.digits.0

    begin : 0 * 10 + (d - 48) ≡ d - 48
    begin = omega arith

    made : value (d - 48) w ≡ n
    made = ap (λ m. value m w) (sym begin) ∙ s.makes

    last : (v : List ℕ) → length v ≡ 0 → v ≡ []
    last [] h = refl
    last (x ∷ v) h = absurd (omega arith)

    back : 48 + (d - 48) ≡ d
    back = omega (arith, k)

    go : (t : Bool) → eqb d 48 ≡ t → d ∷ w ≡ numeral n
    go true e =
        let z : d ≡ 48 = eqb-true d 48 e in
        let v : w ≡ [] = last w (omega (arith, s.plain z)) in
        let m : 0 ≡ n = rw (z, v) at made in
        rw (v, z, ← m) (sym (numeral_one 0 (omega arith)))
    go false e =
        let p : 0 < d - 48 = let f = eqb-false d 48 e in omega (arith, k) in
        sym (ap numeral (sym made) ∙ numeral_on (d - 48) w p s.digits.1 ∙ rw (numeral_one (d - 48) (omega (arith, k)), back))

-- a numeral has no leading zero
plain : (n : ℕ) → get_or (numeral n) 0 0 ≡ 48 → length (numeral n) ≡ 1
plain zero h = ap length (numeral_one 0 (omega arith))
plain (suc n) h = absurd (omega (arith, numeral_head (suc n) (omega arith)))

spells : (n : ℕ) → Decimal (numeral n) n
spells n = record { some = numeral_some n; digits = numeral_digits n; plain = plain n; makes = numeral-value n }

pub numeral_decimal : NumeralDecimal
numeral_decimal w n = (only w n, λ e. rw e (spells n))

-- what comes after a number begins with no digit
record Opens (w : List ℕ) : Type 0 where
  byte : ℕ
  rest : List ℕ
  is : w ≡ byte ∷ rest
  other : is_digit byte ≡ false

opens : (ns y : List ℕ) → Opens (following ns ++ y)
unfolding following
opens [] y = record { byte = 10; rest = y; is = refl; other = refl }
opens (n ∷ ns) y = record { byte = 32; rest = (numeral n ++ following ns) ++ y; is = refl; other = refl }

number-alone : (n m : ℕ) (ns ms y z : List ℕ) → (numeral n ++ following ns) ++ y ≡ (numeral m ++ following ms) ++ z
    → (n ≡ m) × (following ns ++ y ≡ following ms ++ z)
number-alone n m ns ms y z e =
    let o = opens ns y in
    let p = opens ms z in
    let f : numeral n ++ (o.byte ∷ o.rest) ≡ numeral m ++ (p.byte ∷ p.rest)
    = ap (λ l. numeral n ++ l) (sym o.is) ∙ sym (append_assoc (numeral n) (following ns) y) ∙ e ∙ append_assoc (numeral m) (following ms) z ∙ ap (λ l. numeral m ++ l) p.is in
    let q = numeral-alone n m o.byte p.byte o.rest p.rest o.other p.other f in
    (q.number, o.is ∙ ap (λ s. s ∷ o.rest) q.byte ∙ ap (λ l. p.byte ∷ l) q.rest ∙ sym p.is)

following-alone : (ns ms y z : List ℕ) → following ns ++ y ≡ following ms ++ z → (ns ≡ ms) × (y ≡ z)
unfolding following
following-alone [] [] y z e = (refl, cc)
following-alone [] (m ∷ ms) y z e = let q : ◌≡◌ {A = ℕ} 10 32 = cc in absurd (omega arith)
following-alone (n ∷ ns) [] y z e = let q : ◌≡◌ {A = ℕ} 32 10 = cc in absurd (omega arith)
following-alone (n ∷ ns) (m ∷ ms) y z e =
    let q = number-alone n m ns ms y z (cc) in
    let r = following-alone ns ms y z q.1 in
    (ap (λ k. k ∷ ns) q.0 ∙ ap (λ l. m ∷ l) r.0, r.1)

-- no numeral begins with a newline
newline_digit : (n : ℕ) (v w z : List ℕ) → 10 ∷ z ≡ (numeral n ++ v) ++ w → ⊥
unfolding Digits
newline_digit n v w z e = go (numeral n) (numeral_some n) (numeral_digits n) (e ∙ append_assoc (numeral n) v w)
  where
    go : (u : List ℕ) → 0 < length u → Digits u → 10 ∷ z ≡ u ++ (v ++ w) → ⊥
    go [] h d f = omega arith
    go (x ∷ u) h d f =
        let g : 10 ≡ x = cc in
        omega (arith, digit_bounds x d.0)

pub one_line : OneLine
unfolding line
one_line [] [] y z e = (refl, cc)
one_line [] (m ∷ ms) y z e = absurd (newline_digit m (following ms) z y e)
one_line (n ∷ ns) [] y z e = absurd (newline_digit n (following ns) y z (sym e))
one_line (n ∷ ns) (m ∷ ms) y z e =
    let q = number-alone n m ns ms y z e in
    let r = following-alone ns ms y z q.1 in
    (ap (λ k. k ∷ ns) q.0 ∙ ap (λ l. m ∷ l) r.0, r.1)
