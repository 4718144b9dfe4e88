-- The promises on numbers and lines as text: what the definitions of this folder mean. Each is proved in proofs/Promises,
-- under the same name in small letters.
use Rattle.std.specs.Prelude.{ℕ, ◌+◌, ◌*◌, ◌-◌, ◌<◌, ◌≡◌, List, [], ◌∷◌, ◌++◌, Bool, true, false, ◌↔◌, ltb, leb, length, get_or}
use Rattle.rows.specs.Row.{pick}
use Rattle.decimal.specs.Lines.{numeral, line}

-- a digit
abbrev pub is_digit : ℕ → Bool
is_digit d = pick (ltb d 48) false (leb d 57)

-- each byte is a digit
unfoldable pub Digits : List ℕ → Type 0
Digits [] = Unit {0}
Digits (d ∷ w) = (is_digit d ≡ true) × Digits w

-- the number that digits make behind those that make n
unfoldable pub value : ℕ → List ℕ → ℕ
value n [] = n
value n (d ∷ w) = value (n * 10 + (d - 48)) w

-- the text w is the number n in decimal, without leading zeros
pub record Decimal (w : List ℕ) (n : ℕ) : Type 0 where
  pub some : 0 < length w
  pub digits : Digits w
  pub plain : get_or w 0 0 ≡ 48 → length w ≡ 1
  pub makes : value 0 w ≡ n

-- A numeral is the number in decimal without leading zeros, and no other text is. So a printed number reads back.
abbrev pub NumeralDecimal : Type 0
NumeralDecimal = (w : List ℕ) (n : ℕ) → Decimal w n ↔ (w ≡ numeral n)

-- A text begins with the line of one list only.
abbrev pub OneLine : Type 0
OneLine = (ns ms y z : List ℕ) → line ns ++ y ≡ line ms ++ z → (ns ≡ ms) × (y ≡ z)
