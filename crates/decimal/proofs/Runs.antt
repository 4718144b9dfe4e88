-- A number in a text: how far its digits reach is settled, and so is the number.
-- Assumes nothing.
use Prim.Native.Nat.{ℕ}
use mathlib.Core.Path.{◌≡◌, refl, sym, ap, ◌∙◌}
use mathlib.Core.List.{List, [], ◌∷◌, ◌++◌, append-nil}
use mathlib.Core.Bool.{Bool, true, false}
use native.Mathlib.Omega.{arith}
use lib.Dec.{eqb}
use borrow.Author.Tests.{eqb-true}
use Rattle.decimal.specs.Lines.{numeral}
use Rattle.decimal.specs.Promises.{is_digit, Digits, value}
use Rattle.decimal.specs.Inside.{ends_number}
use Rattle.decimal.proofs.Numerals.{numeral_digits, numeral-value}

-- the digits w, which end before s, begin with the digits u
pub record Run (w u : List ℕ) (s : ℕ) (z y : List ℕ) : Type 0 where
  pub more : List ℕ
  pub digits : Digits more
  pub word : w ≡ u ++ more
  pub left : y ≡ more ++ (s ∷ z)

pub run : (w u : List ℕ) (s : ℕ) (z y : List ℕ) → Digits w → Digits u → is_digit s ≡ false → w ++ (s ∷ z) ≡ u ++ y → Run w u s z y
unfolding Digits
run w [] s z y dw du ds e = record { more = w; digits = dw; word = refl; left = sym e }
run [] (d ∷ u) s z y dw du ds e =
    let f : s ≡ d = cc in
    let g : is_digit d ≡ true = du.0 in
    let t : false ≡ true = sym ds ∙ ap is_digit f ∙ g in
    let q : ◌≡◌ {A = ℕ} 0 1 = cc in absurd (omega arith)
run (a ∷ w) (d ∷ u) s z y dw du ds e =
    let f : a ≡ d = cc in
    let r = run w u s z y dw.1 du.1 ds (cc) in
    record { more = r.more; digits = r.digits; word = ap (λ k. k ∷ w) f ∙ ap (λ l. d ∷ l) r.word; left = r.left }

-- a space or a newline is no digit, and neither is what stands past the end
pub ends_no_digit : (s : ℕ) → ends_number s ≡ true → is_digit s ≡ false
ends_no_digit s h = go (eqb s 32) refl h
  where
    go : (b : Bool) → eqb s 32 ≡ b → ends_number s ≡ true → is_digit s ≡ false
    go true e k = rw (eqb-true s 32 e)
    go false e k = rw (eqb-true s 10 (rw e at k))

-- Two numbers that stand at the same place, before no digit, are the same.
pub record Same (m n s t : ℕ) (x y : List ℕ) : Type 0 where
  pub number : m ≡ n
  pub byte : s ≡ t
  pub rest : x ≡ y

pub numeral-alone : (m n s t : ℕ) (x y : List ℕ) → is_digit s ≡ false → is_digit t ≡ false
    → numeral m ++ (s ∷ x) ≡ numeral n ++ (t ∷ y) → Same m n s t x y
unfolding Digits
numeral-alone m n s t x y hs ht e = go r.more r.digits r.word r.left
  where
    r : Run (numeral m) (numeral n) s x (t ∷ y)
    r = run (numeral m) (numeral n) s x (t ∷ y) (numeral_digits m) (numeral_digits n) hs e

    go : (more : List ℕ) → Digits more → numeral m ≡ numeral n ++ more → t ∷ y ≡ more ++ (s ∷ x) → Same m n s t x y
    go [] d w l =
        let k : numeral m ≡ numeral n = w ∙ append-nil (numeral n) in
        record {
          number = sym (numeral-value m) ∙ ap (value 0) k ∙ numeral-value n;
          byte = cc;
          rest = cc;
        }
    go (a ∷ more) d w l =
        let f : t ≡ a = cc in
        let g : false ≡ true = sym ht ∙ ap is_digit f ∙ d.0 in
        let q : ◌≡◌ {A = ℕ} 0 1 = cc in absurd (omega arith)
