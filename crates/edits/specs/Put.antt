-- A tree with one subtree replaced.
use Rattle.std.specs.Prelude.{ℕ, zero, suc, ◌-◌, List, ltb}
use Rattle.rows.specs.Tree.{Forest, Forest.none, Forest.grow, Tree, single, size, subtree_at}
use Rattle.rows.specs.Parse.{parse, tree_of}
use Rattle.rows.specs.Row.{pick}

-- the forest with the subtree at position p replaced by the tree u (itself, where it has no position p)
unfoldable pub put : Forest → ℕ → Tree → Forest
put none p u = none
put (grow s cs f) zero u = grow u.symbol u.children f
put (grow s cs f) (suc p) u = pick (ltb p (size cs)) (grow s (put cs p u) f) (grow s cs (put f (p - size cs) u))

-- how many nodes the subtree at position p has
abbrev pub extent : Forest → ℕ → ℕ
extent f p = size (single (subtree_at f p))

-- the tree of the row w once the subtree at p has given way to that of the row v
abbrev pub changed : List ℕ → List ℕ → ℕ → List ℕ → Forest
changed A w p v = put (parse A w) p (tree_of A v)
