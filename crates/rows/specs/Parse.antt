-- The forest that a list of symbols spells; the tree of a row, and its table.
use Rattle.std.specs.Prelude.{ℕ, zero, suc, List, [], ◌∷◌, get_or, drop}
use Rattle.rows.specs.Tree.{Forest, Forest.none, Forest.grow, Tree, ends, subtree_at}

-- the first k trees of a forest, and the others
unfoldable pub first : ℕ → Forest → Forest
first zero g = none
first (suc k) none = none
first (suc k) (grow s cs f) = grow s cs (first k f)

unfoldable pub rest : ℕ → Forest → Forest
rest zero g = g
rest (suc k) none = none
rest (suc k) (grow s cs f) = rest k f

-- the symbol s over the first a trees of g, before the others
unfoldable pub over : ℕ → ℕ → Forest → Forest
over s a g = grow s (first a g) (rest a g)

-- Read from the list's end: each symbol takes as many of the trees to its right as its arity says (or all, where there
-- are fewer). So every list spells some forest; that of a row is the one tree whose prefix notation the row is
-- (`TreeOfRow` in Promises).
unfoldable pub parse : List ℕ → List ℕ → Forest
parse A [] = none
parse A (s ∷ w) = over s (get_or A s 0) (parse A w)

-- the forest that a list spells from position p on
unfoldable pub behind : List ℕ → List ℕ → ℕ → Forest
behind A w p = parse A (drop p w)

-- the tree of a row: the first that the list spells
abbrev pub tree_of : List ℕ → List ℕ → Tree
tree_of A w = subtree_at (parse A w) 0

-- the table of a row: entry p is the position just after the last symbol of the subtree at p
unfoldable pub table : List ℕ → List ℕ → List ℕ
table A w = ends 0 (parse A w)
