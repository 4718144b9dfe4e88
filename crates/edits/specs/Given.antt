-- Inside: no public contract cites what stands in this file, and no reader has to believe it.
-- What the parts of a replacement ask for.
use Rattle.std.specs.Prelude.{ℕ, ◌+◌, ◌-◌, ◌≤◌, ◌<◌, List, length, get_or}
use Rattle.rows.specs.Limits.{row_most}

-- in a buffer of `room` places, whose first n are in use, the part from p to e can give way to one that ends at `to`
pub record Room (n p e to room : ℕ) : Type 0 where
  pub starts : p < e
  pub stops : e ≤ n
  pub most : n ≤ row_most
  pub old : n ≤ room
  pub new_most : to + (n - e) ≤ row_most
  pub new : to + (n - e) ≤ room

-- a table whose first n entries are ends as those of a row, each behind its position and within the row; and room in it for the
-- entries of a subtree from p to `to` in place of those of one from p to e
pub record Movable (t : List ℕ) (n p e to : ℕ) : Type 0 where
  pub behind : (k : ℕ) → k < n → k < get_or t k 0
  pub within : (k : ℕ) → k < n → get_or t k 0 ≤ n
  pub room : Room n p e to (length t)
