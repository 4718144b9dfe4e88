-- What stands within a subtree: equal subtrees have equal ones at equal offsets.
-- Assumes nothing.
use Prim.Native.Nat.{ℕ, ◌+◌, ◌≤◌, ◌<◌}
use mathlib.Core.Path.{◌≡◌, sym, ap, ◌∙◌}
use mathlib.Core.List.{List}
use native.Mathlib.Omega.{arith}
use lib.ListN.{length, get_or, drop, length-drop, length-append, get_or-append}
use lib.Seq.{get_or-drop}
use Rattle.rows.specs.Tree.{Forest, Tree, single, size, subtrees, subtree_at}
use Rattle.rows.proofs.Subtrees.{length-subtrees}
use Rattle.rows.proofs.Alike.{bud}
use Rattle.rows.proofs.Children.{from}

size-single : (t : Tree) → size (single t) ≡ size t.children + 1
unfolding size
size-single t = omega arith

-- a subtree ends within the forest
pub fits_within : (f : Forest) (p : ℕ) → p < size f → p + 1 + size (subtree_at f p).children ≤ size f
fits_within f p h =
    let r = from f p h in
    let S = subtrees (single (subtree_at f p)) in
    let len : length (drop p (subtrees f)) ≡ length S + length r.0 = ap length r.1 ∙ length-append S r.0 in
    omega (arith, len, length-drop p (subtrees f), length-subtrees f, length-subtrees (single (subtree_at f p)), size-single (subtree_at f p))

-- the subtree at offset i of the one at p
pub within : (f : Forest) (p i : ℕ) → p < size f → i < 1 + size (subtree_at f p).children → subtree_at f (p + i) ≡ subtree_at (single (subtree_at f p)) i
within f p i h m =
    let r = from f p h in
    let S = subtrees (single (subtree_at f p)) in
    let low : i < length S = omega (arith, length-subtrees (single (subtree_at f p)), size-single (subtree_at f p)) in
    sym (get_or-drop p (subtrees f) i bud) ∙ ap (λ (l : List Tree). get_or l i bud) r.1 ∙ get_or-append S r.0 bud i low

pub within_equal : (f : Forest) (p q i : ℕ) → p < size f → q < size f → subtree_at f p ≡ subtree_at f q → i < 1 + size (subtree_at f p).children
    → subtree_at f (p + i) ≡ subtree_at f (q + i)
within_equal f p q i h m e k =
    let d : size (subtree_at f p).children ≡ size (subtree_at f q).children = ap (λ (t : Tree). size t.children) e in
    within f p i h k ∙ ap (λ (t : Tree). subtree_at (single t) i) e ∙ sym (within f q i m (omega arith))

-- and ends where that does, or before
pub within_ends : (f : Forest) (p i : ℕ) → p < size f → i < 1 + size (subtree_at f p).children
    → i + size (subtree_at f (p + i)).children ≤ size (subtree_at f p).children
within_ends f p i h k =
    let t = subtree_at f p in
    let low : i < size (single t) = omega (arith, size-single t) in
    let d : size (subtree_at f (p + i)).children ≡ size (subtree_at (single t) i).children = ap (λ (u : Tree). size u.children) (within f p i h k) in
    omega (arith, fits_within (single t) i low, size-single t)
