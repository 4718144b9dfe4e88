-- Numbers as lent bytes: two bytes each, the low one first.
use Rattle.std.specs.Prelude.{ℕ, ◌+◌, ◌*◌, List, [], ◌∷◌}

-- the numbers that bytes hold; an odd last byte is not counted
unfoldable pub numbers : List ℕ → List ℕ
numbers [] = []
numbers (a ∷ []) = []
numbers (a ∷ (b ∷ rest)) = (a + 256 * b) ∷ numbers rest
