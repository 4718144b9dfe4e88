-- More promises on rows: reading, the checksum rule of the literature, what no row is, and the limits written out. Each is proved in
-- proofs/Promises, under the same name in small letters.
use Rattle.std.specs.Prelude.{ℕ, ◌+◌, ◌<◌, ◌≡◌, List, [], ◌∷◌, ◌++◌, Bool, ◌↔◌, T, get_or, length, take, Ok}
use Rattle.rows.specs.Limits.{alphabet_most, arity_most, row_most, pattern_most, sheet_most, blank, first_variable, variables, span_places, result_places, freed_symbol, freed_entry, freed_class}
use Rattle.rows.specs.Tree.{IsRow, single, ends}
use Rattle.rows.specs.Parse.{table}
use Rattle.rows.specs.Row.{verdict}

-- reading from left to right accepts exactly the prefix notations of ranked trees, whichever numbers may stand
abbrev pub ReadsRows : Type 0
ReadsRows = (A : List ℕ) (ok : ℕ → Bool) (w : List ℕ) → (verdict A ok 1 0 w ≡ Ok tt) ↔ IsRow A ok w

-- sum of the arities
unfoldable pub arities : List ℕ → List ℕ → ℕ
arities A [] = 0
arities A (s ∷ w) = get_or A s 0 + arities A w

-- The checksum is 0, and of each shorter beginning at least 1. No number here is below 0, so "sum of the arities, minus
-- the length, plus 1" is told as the sum plus 1, held against the length.
pub record Checks (A : List ℕ) (w : List ℕ) : Type 0 where
  pub zero_at_end : arities A w + 1 ≡ length w
  pub positive_before : (k : ℕ) → k < length w → k < arities A (take k w) + 1

-- each number of the list passes the test
abbrev pub Every : (ℕ → Bool) → List ℕ → Type 0
Every ok w = (k : ℕ) → k < length w → T (ok (get_or w k 0))

-- the checksum rule says the same: the numbers may stand, the checksum is 0, and that of each shorter beginning is at least 1
abbrev pub ChecksumRule : Type 0
ChecksumRule = (A : List ℕ) (ok : ℕ → Bool) (w : List ℕ) → IsRow A ok w ↔ (Every ok w × Checks A w)

-- no row is a proper beginning of another
abbrev pub NoBeginning : Type 0
NoBeginning = (A : List ℕ) (ok : ℕ → Bool) (w v : List ℕ) → IsRow A ok w → IsRow A ok (w ++ v) → v ≡ []

-- the table of a row holds the ends of its tree's subtrees
abbrev pub TableOfRow : Type 0
TableOfRow = (A : List ℕ) (ok : ℕ → Bool) (w : List ℕ) (r : IsRow A ok w) → table A w ≡ ends 0 (single r.tree)

-- the sizes and the numbers with a meaning of their own, written out
pub record TheLimits : Type 0 where
  pub of_alphabet : alphabet_most ≡ 1024
  pub of_arity : arity_most ≡ 15
  pub of_row : row_most ≡ 16384
  pub of_pattern : pattern_most ≡ 256
  pub of_sheet : sheet_most ≡ 64
  pub S : blank ≡ 65535
  pub X0 : first_variable ≡ 65280
  pub to_X15 : variables ≡ 16
  pub two_each : span_places ≡ 32
  pub three_each : result_places ≡ 3
  pub freed_in_row : freed_symbol ≡ 65535
  pub freed_in_table : freed_entry ≡ 0
  pub freed_in_classes : freed_class ≡ 0
