-- What a search answers, by what it is to match: the list of the matches, and the spans of the variables at one.
use Rattle.std.specs.Prelude.{ℕ, zero, suc, ◌+◌, ◌-◌, ◌≤◌, ◌<◌, ◌≡◌, Bool, false, ◌↔◌, eqb, length, get_or, take, drop}
use mathlib.Core.List.{List, [], ◌∷◌, ◌++◌, Memᴰ}
use Rattle.rows.specs.Limits.{variables}
use Rattle.rows.specs.Programme.{Alphabet}
use Rattle.rows.specs.Tree.{Forest, Forest.none, Forest.grow, single, size, prefix, subtree_at}
use Rattle.rows.specs.Parse.{parse, tree_of, table}
use Rattle.rows.specs.Row.{pick}
use Rattle.patterns.specs.Pattern.{leaf, Match}
use Rattle.patterns.specs.declared.Leaf.{Leaf}
use Rattle.patterns.specs.declared.Leaf.TheVariants.{Plain, Blank, Variable}

-- the pattern q matches the subtree at position p of the row w
abbrev pub MatchesAt : Alphabet → List ℕ → List ℕ → ℕ → Type 0
MatchesAt a w q p = Match (tree_of a.arities q) (subtree_at (parse a.arities w) p)

-- `ps` lists the matches below position n: it rises strictly, and p stands in it exactly if p is below n and the pattern
-- matches there
pub record Listed (a : Alphabet) (w q : List ℕ) (n : ℕ) (ps : List ℕ) : Type 0 where
  pub rises : (i : ℕ) → i + 1 < length ps → get_or ps i 0 < get_or ps (i + 1) 0
  pub exactly : (p : ℕ) → Memᴰ p ps ↔ ((p < n) × MatchesAt a w q p)

-- The positions that the numbers of a pattern face, in the pattern's order, when it is laid over a forest of the row
-- that starts at position j: a root over a root, its children over the children, the next trees over the next.
unfoldable pub faced : ℕ → Forest → Forest → List ℕ
faced j none g = []
faced j (grow s cs f) none = []
faced j (grow s cs f) (grow r ds g) = j ∷ (faced (j + 1) cs ds ++ faced (j + size ds + 1) f g)

-- where the pattern q is laid over the subtree at position p of the row w
abbrev pub facing : List ℕ → List ℕ → List ℕ → ℕ → List ℕ
facing A w q p = faced p (single (tree_of A q)) (single (subtree_at (parse A w) p))

-- it is variable i
abbrev pub isLeaf : ℕ → Leaf → Bool
isLeaf i Plain = false
isLeaf i Blank = false
isLeaf i (Variable k) = eqb k i

-- Begin and end of variable i, for a pattern q whose numbers face the positions ps of a row with the table t: those of
-- the subtree at the variable's first place; 0 and 0 if the pattern lacks it.
unfoldable pub span : List ℕ → ℕ → List ℕ → List ℕ → List ℕ
span t i [] ps = 0 ∷ 0 ∷ []
span t i (s ∷ q) [] = 0 ∷ 0 ∷ []
span t i (s ∷ q) (p ∷ ps) = pick (isLeaf i (leaf s)) (p ∷ get_or t p 0 ∷ []) (span t i q ps)

-- those of the variables below n, one after the other
unfoldable pub spansBelow : List ℕ → ℕ → List ℕ → List ℕ → List ℕ
spansBelow t zero q ps = []
spansBelow t (suc i) q ps = spansBelow t i q ps ++ span t i q ps

-- begin, then end, of X0, then of X1 and so on to X15, where the pattern q matches at position p of the row w
abbrev pub spans : List ℕ → List ℕ → List ℕ → ℕ → List ℕ
spans A w q p = spansBelow (table A w) variables q (facing A w q p)

-- the pattern q has variable i at place k
abbrev pub Has : List ℕ → ℕ → ℕ → Type 0
Has q i k = (k < length q) × (leaf (get_or q k 0) ≡ Variable i)

-- A span from b to e of variable i at a match at p: it is not empty and lies in the row; the symbols in it are the row of
-- the subtree at b; and whatever choice turns the pattern into the subtree at p, it gives the variable that tree: no other
-- would do.
pub record Spanned (a : Alphabet) (w q : List ℕ) (p i b e : ℕ) : Type 0 where
  pub some : b < e
  pub within : e ≤ length w
  pub row : prefix (single (subtree_at (parse a.arities w) b)) ≡ take (e - b) (drop b w)
  pub only : (m : MatchesAt a w q p) → m.choice.for_variable i ≡ subtree_at (parse a.arities w) b
