-- How long the lists of the matches are, and the list with its number.
-- Assumes nothing.
use Prim.Native.Nat.{ℕ, zero, suc, ◌+◌, ◌≤◌}
use mathlib.Core.Path.{◌≡◌, refl, ◌∙◌}
use mathlib.Core.List.{List, [], ◌∷◌, ◌++◌}
use mathlib.Core.Bool.{Bool, true, false}
use native.Mathlib.Omega.{arith}
use native.Mathlib.Numerals.{add-one}
use lib.ListN.{length, get_or, length-append}
use Rattle.rows.specs.Programme.{Alphabet, Programme}
use Rattle.rows.specs.Row.{pick}
use Rattle.patterns.specs.Pattern.{leaf}
use Rattle.patterns.specs.Answers.{Listed}
use Rattle.patterns.specs.Searchable.{Checked}
use Rattle.patterns.specs.Walk.{comes_through, below}
use Rattle.patterns.specs.declared.Leaf.TheVariants.{Plain}
use Rattle.patterns.proofs.Matching.{checked_pattern}
use Rattle.patterns.proofs.Listing.{listed_none, listed_here, listed_once, listing}
use Rattle.searches.specs.Searches.{positions_below}
use Rattle.searches.proofs.Searching.{bare_matches}

-- the list of the numbers that pass a test is at most as long as the bound
below_length : (f : ℕ → Bool) (n : ℕ) → length (below f n) ≤ n
unfolding below
below_length f zero = omega arith
below_length f (suc n) = go (f n) (below_length f n)
  where
    go : (b : Bool) → length (below f n) ≤ n → length (below f n ++ pick b (n ∷ []) []) ≤ suc n
    go true h = simp length-append (omega arith)
    go false h = simp length-append (omega arith)

module _ (a : Alphabet) (P : Programme) (q : List ℕ) (c : Checked a P q) where
  pub listed_length : (n : ℕ) (ps : List ℕ) → n ≤ length P.row → Listed a P.row q n ps → length ps ≤ n
  listed_length n ps h l = rw (listed_once a P.row q n ps _ l (listing a P q c n h)) (below_length (comes_through P.row P.table q) n)

-- BARE PATTERNS match everywhere
pub positions_length : (n : ℕ) → length (positions_below n) ≡ n
unfolding below
positions_length zero = refl
positions_length (suc n) = length-append (positions_below n) (n ∷ []) ∙ omega (arith, positions_length n)

pub positions_more : (n : ℕ) → positions_below n ++ (n ∷ []) ≡ positions_below (n + 1)
unfolding below
positions_more n = rw add-one refl

module _ (a : Alphabet) (P : Programme) (q : List ℕ) (c : Checked a P q) (bare : leaf (get_or q 0 0) ≡ Plain → ⊥) where
  pub listed_everywhere : (n : ℕ) → Listed a P.row q n (positions_below n)
  unfolding below
  listed_everywhere zero = listed_none a P.row q
  listed_everywhere (suc n) =
      rw (← add-one) (listed_here a P.row q n (positions_below n) (listed_everywhere n) (bare_matches a P.row q (checked_pattern a P q c) bare n))
