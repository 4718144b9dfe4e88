-- Inside: no public contract cites what stands in this file, and no reader has to believe it.
-- Numbers that give way to others, and numbers shifted along, each of which keeps its distance.
use Rattle.std.specs.Prelude.{ℕ, ◌+◌, ◌-◌, ◌≤◌, ◌<◌, List, ◌++◌, length, get_or, take, drop}

-- the list `w` with the numbers from place `p` to place `e` replaced by `v`
unfoldable pub spliced : List ℕ → ℕ → ℕ → List ℕ → List ℕ
spliced w p e v = take p w ++ (v ++ drop e w)

-- the number as far behind `to` as `x` is behind `from`
abbrev pub shifted : ℕ → ℕ → ℕ → ℕ
shifted from to x = x - from + to

-- the `len` numbers of the buffer from place `at` on can be shifted, and stay 16-bit numbers
pub record Shiftable (b : List ℕ) (at len from to : ℕ) : Type 0 where
  pub fits : at + len ≤ length b
  pub behind : (k : ℕ) → k < len → from ≤ get_or b (at + k) 0
  pub small : (k : ℕ) → k < len → shifted from to (get_or b (at + k) 0) < 65536
