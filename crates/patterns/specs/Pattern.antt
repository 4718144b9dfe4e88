-- Patterns: trees whose leaves may be the blank S or a variable, and what it is to match.
use Rattle.std.specs.Prelude.{ℕ, ◌+◌, ◌-◌, ◌≡◌, eqb}
use Rattle.rows.specs.Tree.{Forest, Forest.none, Forest.grow, Tree, single, size}
use Rattle.rows.specs.Limits.{blank, first_variable}
use Rattle.rows.specs.Row.{pick, is_variable}
use Rattle.patterns.specs.declared.Leaf.{Leaf}
use Rattle.patterns.specs.declared.Leaf.TheVariants.{Plain, Blank, Variable}

-- what a number of a pattern stands for: `blank` is S, `first_variable` is X0 and the next are X1 to X15, any other stands for itself
unfoldable pub leaf : ℕ → Leaf
leaf s = pick (eqb s blank) Blank (pick (is_variable s) (Variable (s - first_variable)) Plain)

-- a tree for each S, by the position of that S in the pattern, and a tree for each variable, by its number
pub record Choice : Type 0 where
  pub for_blank : ℕ → Tree
  pub for_variable : ℕ → Tree

-- a tree, and a forest to its right
abbrev pub before : Tree → Forest → Forest
before t f = grow t.symbol t.children f

-- the number s at position b of the pattern, over its children cs and before the forest f, with the choice put in
abbrev pub plug : Choice → ℕ → ℕ → Leaf → Forest → Forest → Forest
plug ch b s Plain cs f = grow s cs f
plug ch b s Blank cs f = before (ch.for_blank b) f
plug ch b s (Variable i) cs f = before (ch.for_variable i) f

-- the pattern's forest, which starts at position b of the pattern, with the choice put in
unfoldable pub filled : Choice → ℕ → Forest → Forest
filled ch b none = none
filled ch b (grow s cs f) = plug ch b s (leaf s) (filled ch (b + 1) cs) (filled ch (b + size cs + 1) f)

-- some choice turns the pattern into the tree
pub record Match (P t : Tree) : Type 0 where
  pub choice : Choice
  pub turns : filled choice 0 (single P) ≡ single t
