-- Inside: no public contract cites what stands in this file, and no reader has to believe it.
-- What the code sees of a forest: a row of its symbols and a table of its ends.
use Rattle.std.specs.Prelude.{ℕ, ◌+◌, ◌*◌, ◌/◌, ◌%◌, ◌≤◌, ◌<◌, ◌≡◌, List, [], ◌∷◌, Bool, true, false, length, get_or}
use Rattle.rows.specs.Tree.{Forest, Forest.none, Forest.grow, count, size, subtree_at}
use Rattle.rows.specs.Classes.{kids}

-- the symbol at position p, as it is compared: the one place where the code's symbols get their meaning
abbrev pub look : List ℕ → ℕ → ℕ
look w p = get_or w p 0

-- the row w has the forest's symbols and the table t its ends, within the sizes; as many children stand below equal symbols
pub record Shown (f : Forest) (w t : List ℕ) : Type 0 where
  pub most : length w ≤ 16384
  pub fits : length w ≤ length t
  pub many : size f ≡ length w
  pub symbols : (p : ℕ) → p < length w → look w p ≡ (subtree_at f p).symbol
  pub ends : (p : ℕ) → p < length w → get_or t p 0 ≡ p + 1 + size (subtree_at f p).children
  pub arities : (p q : ℕ) → p < length w → q < length w → look w p ≡ look w q
      → count (subtree_at f p).children ≡ count (subtree_at f q).children

-- some forest is shown, and the list c has a place for each position
pub record Seen (w t c : List ℕ) : Type 0 where
  pub forest : Forest
  pub shown : Shown forest w t
  pub room : length w ≤ length c

-- the answer to a question
abbrev pub Says : Bool → Type 0 → Type 0
Says true X = X
Says false X = X → ⊥

-- one number mixed into another, below 2 ^ 32; a list of them, one after the other
unfoldable pub mixed : ℕ → ℕ → ℕ
mixed h x = (h + x) * 2654435761 % 4294967296

unfoldable pub mixed_all : ℕ → List ℕ → ℕ
mixed_all h [] = h
mixed_all h (x ∷ l) = mixed_all (mixed h x) l

-- what the symbol at p, and what the list c says of its children, are mixed to
unfoldable pub sign_of : Forest → List ℕ → ℕ → ℕ
sign_of f c p = mixed_all (mixed 0 (subtree_at f p).symbol) (kids f c p)

-- The drawer, of m, for what was mixed. It is mixed once more, by what is no sum: else numbers at the same distance from one to
-- the next, as symbols or positions often are, could share a drawer.
unfoldable pub shelf : ℕ → ℕ → ℕ
shelf m h = (h + h / 32768) * 739982445 % 4294967296 * m / 4294967296

-- the list c names no position below p for itself
abbrev pub Bare : Forest → List ℕ → ℕ → Type 0
Bare f c p = (x : ℕ) → p < x → x < p + 1 + size (subtree_at f p).children → get_or c x 0 ≡ x → ⊥

-- a statement holds of none of the trees, side by side, of a forest that starts at position a
unfoldable pub Nowhere : (ℕ → Type 0) → ℕ → Forest → Type 0
Nowhere P a none = Unit {0}
Nowhere P a (grow s cs g) = (P a → ⊥) × Nowhere P (a + size cs + 1) g
