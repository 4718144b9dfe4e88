-- The subtrees of a row, by their positions: the one at p is the first tree behind p.
-- Assumes nothing.
use Prim.Native.Nat.{ℕ, zero, suc, ◌+◌, ◌-◌, ◌≤◌, ◌<◌}
use mathlib.Core.Path.{◌≡◌, refl, sym, ap, ap₂, ◌∙◌}
use mathlib.Core.List.{List, ◌∷◌, ◌++◌, append_assoc, append-nil}
use native.Mathlib.Nat.{add-zero}
use native.Mathlib.Numerals.{add-one}
use native.Mathlib.Omega.{arith}
use lib.ListN.{length, get_or, take, drop, length-append}
use lib.Seq.{drop-drop, get_or-drop, take_at}
use Rattle.rows.specs.Tree.{Forest, Forest.none, Forest.grow, Tree, single, count, size, prefix, subtrees, subtree_at}
use Rattle.rows.specs.Parse.{first, rest, over, parse, table, behind}
use Rattle.rows.proofs.Tree.{beside, split, length-prefix}
use Rattle.rows.proofs.Parse.{prefix-parse}
use Rattle.rows.proofs.Scan.{drop_more}
use Rattle.rows.proofs.Entry.{behind_some, entry_first}

pub length-subtrees : (g : Forest) → length (subtrees g) ≡ size g
unfolding subtrees size
length-subtrees none = refl
length-subtrees (grow s cs f) =
    let c = length-subtrees cs in
    let d = length-subtrees f in
    let e = length-append (subtrees cs) (subtrees f) in
    omega arith

pub subtrees-beside : (f g : Forest) → subtrees (beside f g) ≡ subtrees f ++ subtrees g
unfolding beside subtrees
subtrees-beside none g = refl
subtrees-beside (grow s cs f) g =
    ap (λ (l : List Tree). (record { symbol = s; children = cs }) ∷ l)
    (ap (λ (l : List Tree). subtrees cs ++ l) (subtrees-beside f g) ∙ sym (append_assoc (subtrees cs) (subtrees f) (subtrees g)))

-- the tree of a symbol over the first a trees of g, then the subtrees of g
subtrees-over : (s a : ℕ) (g : Forest) → subtrees (over s a g) ≡ (record { symbol = s; children = first a g }) ∷ subtrees g
unfolding over subtrees
subtrees-over s a g =
    ap (λ (l : List Tree). (record { symbol = s; children = first a g }) ∷ l) (sym (subtrees-beside (first a g) (rest a g)) ∙ ap subtrees (split a g))

pub drop-subtrees : (A w : List ℕ) (p : ℕ) → p ≤ length w → drop p (subtrees (parse A w)) ≡ subtrees (behind A w p)
unfolding behind parse
drop-subtrees A w zero h = refl
drop-subtrees A w (suc p) h =
    ap (λ (n : ℕ). drop n (subtrees (parse A w))) (sym (add-one p))
    ∙ sym (drop-drop 1 p (subtrees (parse A w)))
    ∙ ap (drop 1)
    (drop-subtrees A w p (omega arith)
    ∙ ap (λ (l : List ℕ). subtrees (parse A l)) (drop_more w p (omega arith))
    ∙ subtrees-over (get_or w p 0) (get_or A (get_or w p 0) 0) (parse A (drop (p + 1) w)))
    ∙ ap (λ (n : ℕ). subtrees (parse A (drop n w))) (add-one p)

-- the first tree of a forest that has one
head_tree : (g : Forest) → 0 < count g → first 1 g ≡ single (subtree_at g 0)
unfolding count first subtrees
head_tree none h = absurd (omega arith)
head_tree (grow s cs f) h = refl

-- the subtree at p is the first tree behind p
pub subtree_first : (A w : List ℕ) (p : ℕ) → p < length w → first 1 (behind A w p) ≡ single (subtree_at (parse A w) p)
subtree_first A w p h =
    let bud : Tree = record { symbol = 0; children = none } in
    head_tree (behind A w p) (behind_some A w p h)
    ∙ ap (λ (l : List Tree). single (get_or l 0 bud)) (sym (drop-subtrees A w p (omega arith)))
    ∙ ap single (get_or-drop p (subtrees (parse A w)) 0 bud ∙ ap (λ (n : ℕ). get_or (subtrees (parse A w)) n bud) (add-zero p))

head_prefix : (g : Forest) → 0 < count g → prefix (first 1 g) ≡ take (size (first 1 g)) (prefix g)
unfolding count first prefix size
head_prefix none h = absurd (omega arith)
head_prefix (grow s cs f) h =
    ap (λ (l : List ℕ). s ∷ l) (append-nil (prefix cs)) ∙ sym (take_at (s ∷ prefix cs) (prefix f) (size cs + 0 + 1) (omega (arith, length-prefix cs)))

-- its row lies between p and the entry at p
pub subtree_row : (A w : List ℕ) (p : ℕ) → p < length w
    → prefix (single (subtree_at (parse A w) p)) ≡ take (get_or (table A w) p 0 - p) (drop p w)
unfolding behind
subtree_row A w p h =
    let long : size (first 1 (behind A w p)) ≡ get_or (table A w) p 0 - p = omega (arith, entry_first A w p h) in
    ap prefix (sym (subtree_first A w p h))
    ∙ head_prefix (behind A w p) (behind_some A w p h)
    ∙ ap₂ take long (prefix-parse A (drop p w))
