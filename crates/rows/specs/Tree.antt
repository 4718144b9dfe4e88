-- Ordered ranked trees, and their rows. A forest is a row of trees side by side: nothing, or a tree (its symbol over
-- the forest of its children) and then the forest to its right. A tree is its symbol and the forest of its children.
use Rattle.std.specs.Prelude.{ℕ, ◌+◌, ◌≡◌, List, [], ◌∷◌, ◌++◌, Bool, T, get_or}

pub data Forest : Type 0 where
  none : Forest
  grow : ℕ → Forest → Forest → Forest

pub record Tree : Type 0 where
  pub symbol : ℕ
  pub children : Forest

-- the forest of one tree
abbrev pub single : Tree → Forest
single t = grow t.symbol t.children none

-- how many trees stand side by side
unfoldable pub count : Forest → ℕ
count none = 0
count (grow s cs f) = count f + 1

-- how many nodes
unfoldable pub size : Forest → ℕ
size none = 0
size (grow s cs f) = size cs + size f + 1

-- prefix notation: a tree's symbol, then the rows of its children from left to right
unfoldable pub prefix : Forest → List ℕ
prefix none = []
prefix (grow s cs f) = s ∷ (prefix cs ++ prefix f)

-- each symbol is one that `ok` takes, and has as many children as the alphabet says
unfoldable pub Ranked : List ℕ → (ℕ → Bool) → Forest → Type 0
Ranked A ok none = Unit {0}
Ranked A ok (grow s cs f) = T (ok s) × (count cs ≡ get_or A s 0) × Ranked A ok cs × Ranked A ok f

-- `w` is the prefix notation of a ranked tree
pub record IsRow (A : List ℕ) (ok : ℕ → Bool) (w : List ℕ) : Type 0 where
  pub tree : Tree
  pub ranked : Ranked A ok (single tree)
  pub reads : prefix (single tree) ≡ w

-- the end of each subtree, in prefix order, of a forest that starts at position `b`
unfoldable pub ends : ℕ → Forest → List ℕ
ends b none = []
ends b (grow s cs f) = (b + size cs + 1) ∷ (ends (b + 1) cs ++ ends (b + size cs + 1) f)

-- all subtrees, in prefix order: the one at position p is at place p
unfoldable pub subtrees : Forest → List Tree
subtrees none = []
subtrees (grow s cs f) = (record { symbol = s; children = cs }) ∷ (subtrees cs ++ subtrees f)

-- the subtree at position p (past the forest's end: the single node 0)
abbrev pub subtree_at : Forest → ℕ → Tree
subtree_at f p = get_or (subtrees f) p (record { symbol = 0; children = none })
