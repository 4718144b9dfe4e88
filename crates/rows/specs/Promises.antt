-- The promises on rows, tables and classes: what the definitions of this folder mean. Each is proved in proofs/Promises, under
-- the same name in small letters.
use Rattle.std.specs.Prelude.{ℕ, ◌-◌, ◌≤◌, ◌<◌, ◌≡◌, List, Bool, ◌↔◌, length, get_or, take, drop}
use Rattle.rows.specs.Tree.{Tree, single, prefix, Ranked, IsRow, subtree_at}
use Rattle.rows.specs.Parse.{parse, tree_of, table}
use Rattle.rows.specs.Classes.{FirstEqual, classes, SameSign}

-- a row is the prefix notation of one tree only
abbrev pub OneTree : Type 0
OneTree = (A : List ℕ) (ok : ℕ → Bool) (t u : Tree) → Ranked A ok (single t) → Ranked A ok (single u)
    → prefix (single t) ≡ prefix (single u) → t ≡ u

-- `parse` and `tree_of` find a row's tree
abbrev pub TreeOfRow : Type 0
TreeOfRow = (A : List ℕ) (ok : ℕ → Bool) (w : List ℕ) (r : IsRow A ok w) → (parse A w ≡ single r.tree) × (tree_of A w ≡ r.tree)

-- p < entry p ≤ length; the symbols from p up to it are the row of the subtree at p; and no other end makes them a row
pub record Entry (A : List ℕ) (ok : ℕ → Bool) (w : List ℕ) (t : Tree) (p e : ℕ) : Type 0 where
  pub behind : p < e
  pub within : e ≤ length w
  pub subtree : prefix (single (subtree_at (single t) p)) ≡ take (e - p) (drop p w)
  pub only : (d : ℕ) → p ≤ d → d ≤ length w → IsRow A ok (take (d - p) (drop p w)) → d ≡ e

abbrev pub EntryOfTable : Type 0
EntryOfTable = (A : List ℕ) (ok : ℕ → Bool) (w : List ℕ) (r : IsRow A ok w) (p : ℕ) → p < length w
    → Entry A ok w r.tree p (get_or (table A w) p 0)

-- a class for each position: the first position whose subtree is equal to the one at p, and no other number is
abbrev pub ClassOfRow : Type 0
ClassOfRow = (A w : List ℕ) → (length (classes A w) ≡ length w)
    × ((p : ℕ) → p < length w → FirstEqual (parse A w) p (get_or (classes A w) p 0)
    × ((q : ℕ) → FirstEqual (parse A w) p q → q ≡ get_or (classes A w) p 0))

-- two positions have one class exactly if their subtrees are equal
abbrev pub SameClass : Type 0
SameClass = (A w : List ℕ) (p q : ℕ) → p < length w → q < length w
    → (get_or (classes A w) p 0 ≡ get_or (classes A w) q 0) ↔ (subtree_at (parse A w) p ≡ subtree_at (parse A w) q)

-- the law that classes rest on: two subtrees are equal exactly if their symbols are the same and their children have pairwise
-- the same classes
abbrev pub EqualSubtrees : Type 0
EqualSubtrees = (A w : List ℕ) (p q : ℕ) → p < length w → q < length w
    → (subtree_at (parse A w) p ≡ subtree_at (parse A w) q) ↔ SameSign (parse A w) (classes A w) p q
