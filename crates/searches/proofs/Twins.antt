-- A pattern that is a root over one variable, twice: it matches where the root stands over two equal subtrees.
-- Assumes nothing.
use Prim.Native.Nat.{ℕ, ◌+◌, ◌-◌, ◌≤◌, ◌<◌}
use mathlib.Core.Path.{◌≡◌, refl, sym, ap, ◌∙◌}
use mathlib.Core.List.{List}
use mathlib.Core.Bool.{Bool, true, false}
use native.Mathlib.Omega.{arith}
use borrow.Author.Tests.{ne_eqb, ltb-true}
use lib.Dec.{ltb}
use lib.ListN.{get_or, length, set}
use lib.Seq.{get_or-set_same}
use Rattle.rows.specs.Limits.{first_variable, variables}
use Rattle.rows.specs.Programme.{Programme}
use Rattle.rows.specs.Row.{pick, is_variable}
use Rattle.patterns.specs.Pattern.{leaf}
use Rattle.patterns.specs.Searchable.{Searchable}
use Rattle.patterns.specs.Walk.{same_symbol, agreeing, twice, Outcome.misses, Outcome.reaches, steps, unmarked, through, comes_through}
use Rattle.patterns.specs.declared.Leaf.TheVariants.{Variable}
use Rattle.patterns.proofs.Facing.{small}
use Rattle.patterns.proofs.Leaves.{variable_from, leaf_variable}
use Rattle.patterns.proofs.Marks.{marks_none}
use Rattle.patterns.proofs.Matching.{checked_ends, checked_classes}
use Rattle.patterns.proofs.Steps.{meets-first, meets_later, steps_variable}
use Rattle.searches.specs.Searches.{Twin, twins}
use Rattle.searches.proofs.Going.{lent-ends, Walking, walking_inside, walking_to, walking_end, walking_stops}
use Rattle.searches.proofs.Searching.{root_same}

variable_to : (s : ℕ) → is_variable s ≡ true → s < first_variable + variables
variable_to s e = go (ltb s first_variable) (ltb s (first_variable + variables)) refl e
  where
    go : (b c : Bool) → ltb s (first_variable + variables) ≡ c → pick b false c ≡ true → s < first_variable + variables
    go true c p e = let z : ◌≡◌ {A = ℕ} 0 1 = cc in absurd (omega arith)
    go false c p e = ltb-true s (first_variable + variables) (p ∙ e)

module _ (P : Programme) (q : List ℕ) (s : Searchable P q) (t : Twin q) (p : ℕ) (within : p < length P.row) (root : same_symbol (get_or P.row p 0) (get_or q 0 0) ≡ true) where
  abbrev w : List ℕ
  w = P.row

  abbrev e : List ℕ
  e = P.table

  -- the variable
  abbrev x : ℕ
  x = get_or q 1 0

  abbrev i : ℕ
  i = x - first_variable

  large : first_variable ≤ x
  large = variable_from x t.variable

  few : i < variables
  few = omega (arith, variable_to x t.variable, large)

  is_leaf : leaf x ≡ Variable i
  is_leaf = sym (leaf_variable x (λ z. omega (arith, variable_to x t.variable, z)) t.variable)

  other : (j : ℕ) → same_symbol (get_or w j 0) x ≡ false
  other j = ne_eqb (get_or w j 0) x (λ z. omega (arith, small s.0 P q s.1 p within j, large, z))

  -- its first place
  abbrev a : ℕ
  a = p + 1

  abbrev b : ℕ
  b = get_or e a 0

  at_first : Walking P q p unmarked a 1
  at_first = root_same P q s p within root

  pub first_in : a < length w
  first_in = walking_inside P q p s unmarked a 1 at_first (omega (arith, t.long))

  abbrev marked : List ℕ
  marked = set unmarked i (a + 1)

  first_step : steps w e 1 x a unmarked ≡ reaches b marked
  first_step = steps_variable w e 1 x a unmarked (other a) i is_leaf ∙ meets-first w b 1 a unmarked i (omega (arith, (marks_none 0).all i))

  -- its second
  at_second : Walking P q p marked b 2
  at_second = walking_to P q p s unmarked a 1 at_first (omega (arith, t.long)) b marked first_step

  pub second_in : b < length w
  second_in = walking_inside P q p s marked b 2 at_second (omega (arith, t.long))

  abbrev n : ℕ
  n = get_or e b 0 - b

  mark : get_or marked i 0 ≡ a + 1
  mark = get_or-set_same unmarked i (a + 1) 0 (omega (arith, few, (marks_none 0).many))

  second_step : (c : Bool) → twice w a b n ≡ c → steps w e 2 (get_or q 2 0) b marked ≡ pick c (reaches (get_or e b 0) marked) (misses 2 (b + agreeing w a b n))
  second_step c z =
      ap (λ (y : ℕ). steps w e 2 y b marked) t.same
      ∙ steps_variable w e 2 x b marked (other b) i is_leaf
      ∙ meets_later w (get_or e b 0) 2 b marked i a (omega (arith, mark)) c z

  pub twins-walk : twins e P.classes p ≡ comes_through w e q p
  unfolding twins
  twins-walk =
      sym ((checked_classes s.0 P q s.1).same a b ((checked_ends s.0 P q s.1).past a first_in) second_in)
      ∙ go (twice w a b n) refl
    where
      go : (c : Bool) → twice w a b n ≡ c → c ≡ comes_through w e q p
      go true z =
          sym (ap through (walking_end P q p s marked (get_or e b 0) 3 (walking_to P q p s marked b 2 at_second (omega (arith, t.long)) (get_or e b 0) marked (second_step true z)) (omega (arith, t.long))))
      go false z =
          sym (ap through (walking_stops P q p s marked b 2 at_second (omega (arith, t.long)) 2 (b + agreeing w a b n) (second_step false z) e (lent-ends P)))
