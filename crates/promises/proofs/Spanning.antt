-- The variables of a pattern that is laid over the same subtree at another position.
-- Assumes nothing.
use Prim.Native.Nat.{ℕ, zero, suc, ◌+◌, ◌≤◌, ◌<◌}
use mathlib.Core.Path.{◌≡◌, refl, sym, ap, ap₂, ◌∙◌}
use mathlib.Core.List.{List, [], ◌∷◌, ◌++◌, map, map-append}
use mathlib.Core.Bool.{Bool, true, false}
use native.Mathlib.Omega.{arith}
use lib.ListN.{get_or}
use Rattle.rows.specs.Limits.{variables}
use Rattle.rows.specs.Tree.{Forest, Forest.none, Forest.grow, Tree, single, size, subtree_at}
use Rattle.rows.specs.Parse.{parse, tree_of, table}
use Rattle.rows.specs.Row.{pick}
use Rattle.patterns.specs.Pattern.{leaf}
use Rattle.patterns.specs.Answers.{faced, isLeaf, span, spansBelow, spans}
use Rattle.edits.specs.Put.{extent}

-- each number of the list has the property
abbrev All : (ℕ → Type 0) → List ℕ → Type 0
All P [] = Unit {0}
All P (x ∷ l) = P x × All P l

all_append : (P : ℕ → Type 0) (a b : List ℕ) → All P a → All P b → All P (a ++ b)
all_append P [] b x y = y
all_append P (k ∷ a) b x y = (x.0, all_append P a b x.1 y)

-- the positions faced lie in the forest
faced_in : (P : ℕ → Type 0) (j : ℕ) (f g : Forest) → ((k : ℕ) → j ≤ k → k < j + size g → P k) → All P (faced j f g)
unfolding faced size
faced_in P j none g h = tt
faced_in P j (grow s cs f) none h = tt
faced_in P j (grow s cs f) (grow r ds g) h = (
  h j (omega arith) (omega arith),
  all_append P (faced (j + 1) cs ds) (faced (j + size ds + 1) f g)
      (faced_in P (j + 1) cs ds (λ k o i. h k (omega arith) (omega arith)))
      (faced_in P (j + size ds + 1) f g (λ k o i. h k (omega arith) (omega arith))),
)

-- laid over the same forest from another position on, they keep their distance
faced_shift : (m : ℕ → ℕ) (f g : Forest) (j j' : ℕ) → ((k : ℕ) → j ≤ k → m k + j ≡ k + j') → faced j' f g ≡ map m (faced j f g)
unfolding faced size
faced_shift m none g j j' h = refl
faced_shift m (grow s cs f) none j j' h = refl
faced_shift m (grow s cs f) (grow r ds g) j j' h =
    let here : j' ≡ m j = omega (arith, h j (omega arith)) in
    ap₂ (λ (x : ℕ) (l : List ℕ). x ∷ l) here
    (ap₂ (λ (a b : List ℕ). a ++ b)
    (faced_shift m cs ds (j + 1) (j' + 1) (λ k o. omega (arith, h k (omega arith))))
    (faced_shift m f g (j + size ds + 1) (j' + size ds + 1) (λ k o. omega (arith, h k (omega arith))))
    ∙ sym (map-append m (faced (j + 1) cs ds) (faced (j + size ds + 1) f g)))

-- The positions of ps move by m and the ends of the subtrees there too; x moves the numbers of a span alike, and keeps 0.
module _ (t t' : List ℕ) (m x : ℕ → ℕ) (zero-stays : x 0 ≡ 0) where
  abbrev pub Moves : ℕ → Type 0
  Moves k = (x k ≡ m k) × (get_or t' (m k) 0 ≡ x (get_or t k 0))

  span_moves : (i : ℕ) (q ps : List ℕ) → All Moves ps → span t' i q (map m ps) ≡ map x (span t i q ps)
  unfolding span
  span_moves i [] ps a = ap₂ (λ (y z : ℕ). y ∷ z ∷ []) (sym zero-stays) (sym zero-stays)
  span_moves i (s ∷ q) [] a = ap₂ (λ (y z : ℕ). y ∷ z ∷ []) (sym zero-stays) (sym zero-stays)
  span_moves i (s ∷ q) (k ∷ ps) a = go (isLeaf i (leaf s)) (span_moves i q ps a.1)
    where
      go : (b : Bool) → span t' i q (map m ps) ≡ map x (span t i q ps)
          → pick b (m k ∷ get_or t' (m k) 0 ∷ []) (span t' i q (map m ps)) ≡ map x (pick b (k ∷ get_or t k 0 ∷ []) (span t i q ps))
      go true e = ap₂ (λ (y z : ℕ). y ∷ z ∷ []) (sym a.0.0) a.0.1
      go false e = e

  spans_move : (n : ℕ) (q ps : List ℕ) → All Moves ps → spansBelow t' n q (map m ps) ≡ map x (spansBelow t n q ps)
  unfolding spansBelow
  spans_move zero q ps a = refl
  spans_move (suc i) q ps a =
      ap₂ (λ (y z : List ℕ). y ++ z) (spans_move i q ps a) (span_moves i q ps a)
      ∙ sym (map-append x (spansBelow t i q ps) (span t i q ps))

-- so the spans at q', where the same subtree stands, are those at q, moved
pub spans_stay : (A w w' : List ℕ) (m x : ℕ → ℕ) (zero-stays : x 0 ≡ 0) (Q : List ℕ) (q q' : ℕ)
    → subtree_at (parse A w') q' ≡ subtree_at (parse A w) q
    → ((k : ℕ) → q ≤ k → m k + q ≡ k + q')
    → ((k : ℕ) → q ≤ k → k < q + extent (parse A w) q → Moves (table A w) (table A w') m x zero-stays k)
    → spans A w' Q q' ≡ map x (spans A w Q q)
spans_stay A w w' m x zero-stays Q q q' e shift all =
    let P : Forest = single (tree_of A Q) in
    let T : Forest = single (subtree_at (parse A w) q) in
    ap (λ (y : Tree). spansBelow (table A w') variables Q (faced q' P (single y))) e
    ∙ ap (spansBelow (table A w') variables Q) (faced_shift m P T q q' shift)
    ∙ spans_move (table A w) (table A w') m x zero-stays variables Q (faced q P T) (faced_in _ q P T all)

pub map_same : (x : ℕ → ℕ) (l : List ℕ) → ((k : ℕ) → x k ≡ k) → map x l ≡ l
map_same x [] h = refl
map_same x (k ∷ l) h = ap₂ (λ (y : ℕ) (z : List ℕ). y ∷ z) (h k) (map_same x l h)
