-- The classes of a row: that of a position is the first position in the row whose subtree is equal to the one there. Two positions
-- have one class exactly if their subtrees are equal (`SameClass` in Promises).
use Rattle.std.specs.Prelude.{ℕ, suc, ◌+◌, ◌≤◌, ◌<◌, ◌≡◌, List, [], ◌∷◌, map, Bool, true, false, eqb, get_or}
use Rattle.rows.specs.Tree.{Forest, Forest.none, Forest.grow, Tree, single, size, subtrees, subtree_at}
use Rattle.rows.specs.Parse.{parse}
use Rattle.rows.specs.Row.{pick}

-- q is the first position of the forest whose subtree is equal to the one at p
pub record FirstEqual (f : Forest) (p q : ℕ) : Type 0 where
  pub upto : q ≤ p
  pub equal : subtree_at f q ≡ subtree_at f p
  pub first : (r : ℕ) → r < q → subtree_at f r ≡ subtree_at f p → ⊥

-- two forests have the same symbols in the same shape
unfoldable pub alike : Forest → Forest → Bool
alike none none = true
alike none (grow s cs f) = false
alike (grow s cs f) none = false
alike (grow s cs f) (grow s' cs' f') = pick (eqb s s') (pick (alike cs cs') (alike f f') false) false

-- the place of the first tree of a list that is equal to t, the list's length if there is none
unfoldable pub place_of : Tree → List Tree → ℕ
place_of t [] = 0
place_of t (u ∷ l) = pick (alike (single t) (single u)) 0 (suc (place_of t l))

-- for each subtree of a forest, in prefix order, the first place among them where it stands
unfoldable pub classes_of : Forest → List ℕ
classes_of f = map (λ (t : Tree). place_of t (subtrees f)) (subtrees f)

-- the classes of a row: entry p is that of position p
unfoldable pub classes : List ℕ → List ℕ → List ℕ
classes A w = classes_of (parse A w)

-- what the list c says of the trees, side by side, of a forest that starts at position b
unfoldable pub said : List ℕ → ℕ → Forest → List ℕ
said c b none = []
said c b (grow s cs f) = get_or c b 0 ∷ said c (b + size cs + 1) f

-- what it says of the children of the subtree at p
abbrev pub kids : Forest → List ℕ → ℕ → List ℕ
kids f c p = said c (p + 1) (subtree_at f p).children

-- positions p and q have the same symbol, and the list says the same of their children, one by one
pub record SameSign (f : Forest) (c : List ℕ) (p q : ℕ) : Type 0 where
  pub symbol : (subtree_at f p).symbol ≡ (subtree_at f q).symbol
  pub children : kids f c p ≡ kids f c q
