-- Numbers and lines of numbers as decimal text. A text is a list of bytes: 48 is `0` and 57 is `9`, 32 is a space and 10 a
-- newline.
use Rattle.std.specs.Prelude.{ℕ, zero, suc, ◌+◌, ◌/◌, ◌%◌, ◌≤◌, List, [], ◌∷◌, ◌++◌, ltb}
use Rattle.rows.specs.Row.{pick}

-- The digits of n, the most significant first. The number k only bounds how often one is taken off; n is bound enough.
unfoldable pub spelled : ℕ → ℕ → List ℕ
spelled zero n = (48 + n) ∷ []
spelled (suc k) n = pick (ltb n 10) ((48 + n) ∷ []) (spelled k (n / 10) ++ ((48 + n % 10) ∷ []))

-- the number as text: decimal, without leading zeros; 0 itself is `0`
unfoldable pub numeral : ℕ → List ℕ
numeral n = spelled n n

-- the largest number of a line
abbrev pub number_most : ℕ
number_most = 65535

-- each number may stand in a line
unfoldable pub Small : List ℕ → Type 0
Small [] = Unit {0}
Small (n ∷ ns) = (n ≤ number_most) × Small ns

-- what comes after a number in a line: the newline; or a space, the next number and what comes after that
unfoldable pub following : List ℕ → List ℕ
following [] = 10 ∷ []
following (n ∷ ns) = 32 ∷ (numeral n ++ following ns)

-- a list as a line: its numbers, one space between, none at the ends, and the newline
unfoldable pub line : List ℕ → List ℕ
line [] = 10 ∷ []
line (n ∷ ns) = numeral n ++ following ns
