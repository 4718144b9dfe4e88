-- The subtrees of a forest once a subtree is replaced, by their positions; and a second replacement, at the same position or in
-- a disjoint subtree.
-- Assumes nothing.
use Prim.Native.Nat.{ℕ, zero, suc, ◌+◌, ◌-◌, ◌≤◌, ◌<◌}
use mathlib.Core.Path.{◌≡◌, ◌∙◌}
use native.Mathlib.Omega.{arith}
use Rattle.rows.specs.Tree.{Forest, Forest.grow, Tree, single, size, subtree_at}
use Rattle.edits.specs.Put.{put, extent}
use Rattle.edits.proofs.Put.{put_ind, put_in, put_right, put_root, put-size, put-below, at_root, at_in, at_right, at_fits, extent_in, extent_right, extent_root, size-single}
use Rattle.rows.proofs.Passing.{below}

-- ---- one position, again

-- a second replacement at the same position takes the first one's place
pub put-put : (u v : Tree) (f : Forest) (p : ℕ) → p < size f → put (put f p u) p v ≡ put f p v
put-put u v =
    put_ind (λ f p. put (put f p u) p v ≡ put f p v)
    (λ s cs f. rw (put_root s cs f u, put_root s cs f v, put_root u.symbol u.children f v))
    (λ s cs f p i ih. rw (put_in s cs f p u i, put_in s (put cs p u) f p v (put-below u cs p i), put_in s cs f p v i, ih))
    (λ s cs f p i h ih. rw (put_right s cs f p u i, put_right s cs (put f (p - size cs) u) p v i, put_right s cs f p v i, ih))

-- what stands there, put there, changes nothing
pub put_same : (f : Forest) (p : ℕ) → p < size f → put f p (subtree_at f p) ≡ f
put_same =
    put_ind (λ f p. put f p (subtree_at f p) ≡ f)
    (λ s cs f. rw (at_root s cs f, put_root s cs f (record { symbol = s; children = cs })))
    (λ s cs f p i ih. rw (at_in s cs f p i, put_in s cs f p (subtree_at cs p) i, ih))
    (λ s cs f p i h ih. rw (at_right s cs f p i, put_right s cs f p (subtree_at f (p - size cs)) i, ih))

-- the old subtree put back gives the old forest
pub put_back : (u : Tree) (f : Forest) (p : ℕ) → p < size f → put (put f p u) p (subtree_at f p) ≡ f
put_back u f p h = put-put u (subtree_at f p) f p h ∙ put_same f p h

-- ---- a position p to the right of q

-- a subtree that ends before the position is the same
abbrev Left : Tree → Forest → ℕ → Type 0
Left u f q = (p : ℕ) → q + extent f q ≤ p → p < size f → subtree_at (put f p u) q ≡ subtree_at f q

module _ (u : Tree) (s : ℕ) (cs f : Forest) where
  left_here : Left u (grow s cs f) zero
  left_here zero o h = absurd (omega (arith, extent_root s cs f))
  left_here (suc p) o h =
      rw (put_right s cs f p u (omega (arith, extent_root s cs f)), at_root s cs f, at_root s cs (put f (p - size cs) u))

  left_in : (q : ℕ) → q < size cs → Left u cs q → Left u (grow s cs f) (suc q)
  left_in q i ih zero o h = absurd (omega arith)
  left_in q i ih (suc p) o h =
      let x = extent_in s cs f q i in
      below p (size cs)
      (λ j.
      let k : q < size (put cs p u) = omega (arith, put-below u cs p j) in
      rw (put_in s cs f p u j, at_in s (put cs p u) f q k, at_in s cs f q i) (ih p (omega arith) j))
      (λ j. rw (put_right s cs f p u j, at_in s cs (put f (p - size cs) u) q i, at_in s cs f q i))

  left_right : (q : ℕ) → size cs ≤ q → q - size cs < size f → Left u f (q - size cs) → Left u (grow s cs f) (suc q)
  unfolding size
  left_right q i k ih zero o h = absurd (omega arith)
  left_right q i k ih (suc p) o h =
      let x = extent_right s cs f q i in
      rw (put_right s cs f p u (omega arith), at_right s cs (put f (p - size cs) u) q i, at_right s cs f q i)
      (ih (p - size cs) (omega arith) (omega arith))

pub at_left : (u : Tree) (f : Forest) (q : ℕ) → q < size f → Left u f q
at_left u = put_ind (Left u) (left_here u) (left_in u) (left_right u)

-- ---- a position p to the left of q

-- q stands behind the subtree at p, and at q' once that has given way to u
abbrev Moves : Tree → Forest → ℕ → ℕ → ℕ → Type 0
Moves u f p q q' = (p + extent f p ≤ q) × (q < size f) × (q' + extent f p ≡ q + size (single u))

-- what is to be shown of such positions, by cases: p at the root; both among the children; p among them and q to the right of
-- them; both to the right
module _
    (u : Tree)
    (P : Forest → ℕ → ℕ → ℕ → Type 0)
    (here : (s : ℕ) (cs f : Forest) (q q' : ℕ) → size cs ≤ q → size u.children ≤ q' → q' - size u.children ≡ q - size cs
    → P (grow s cs f) zero (suc q) (suc q'))
    (inside : (s : ℕ) (cs f : Forest) (p q q' : ℕ) → p < q → q < size cs → q' < size (put cs p u) → P cs p q q'
    → P (grow s cs f) (suc p) (suc q) (suc q'))
    (past : (s : ℕ) (cs f : Forest) (p q q' : ℕ) → p < size cs → size cs ≤ q → size (put cs p u) ≤ q' → q' - size (put cs p u) ≡ q - size cs
    → P (grow s cs f) (suc p) (suc q) (suc q'))
    (right : (s : ℕ) (cs f : Forest) (p q q' : ℕ) → size cs ≤ p → size cs ≤ q → size cs ≤ q' → P f (p - size cs) (q - size cs) (q' - size cs)
    → P (grow s cs f) (suc p) (suc q) (suc q'))
  where
    abbrev Move : Forest → ℕ → Type 0
    Move f p = (q q' : ℕ) → Moves u f p q q' → P f p q q'

    move_here : (s : ℕ) (cs f : Forest) → Move (grow s cs f) zero
    move_here s cs f zero q' m = absurd (omega (arith, extent_root s cs f))
    move_here s cs f (suc q) zero m = absurd (omega (arith, extent_root s cs f, size-single u))
    move_here s cs f (suc q) (suc q') m =
        let x = extent_root s cs f in
        let y = size-single u in
        here s cs f q q' (omega arith) (omega arith) (omega arith)

    move_in : (s : ℕ) (cs f : Forest) (p : ℕ) → p < size cs → Move cs p → Move (grow s cs f) (suc p)
    move_in s cs f p i ih zero q' m = absurd (omega arith)
    move_in s cs f p i ih (suc q) zero m = absurd (omega (arith, size-single u))
    move_in s cs f p i ih (suc q) (suc q') m =
        let x = extent_in s cs f p i in
        let z = put-size u cs p i in
        let y = size-single (subtree_at cs p) in
        below q (size cs)
        (λ j. inside s cs f p q q' (omega arith) j (omega arith) (ih q q' (omega arith, j, omega arith)))
        (λ j. past s cs f p q q' i j (omega arith) (omega arith))

    move_right : (s : ℕ) (cs f : Forest) (p : ℕ) → size cs ≤ p → p - size cs < size f → Move f (p - size cs) → Move (grow s cs f) (suc p)
    unfolding size
    move_right s cs f p i h ih zero q' m = absurd (omega arith)
    move_right s cs f p i h ih (suc q) zero m = absurd (omega (arith, extent_right s cs f p i, at_fits f (p - size cs) h))
    move_right s cs f p i h ih (suc q) (suc q') m =
        let x = extent_right s cs f p i in
        let y = size-single u in
        right s cs f p q q' i (omega arith) (omega arith)
        (ih (q - size cs) (q' - size cs) (omega arith, omega arith, omega arith))

    move_ind : (f : Forest) (p : ℕ) → p < size f → Move f p
    move_ind = put_ind Move move_here move_in move_right

-- a subtree behind the replaced one is the same, at its new position
pub at_behind : (u : Tree) (f : Forest) (p : ℕ) → p < size f → (q q' : ℕ) → Moves u f p q q' → subtree_at (put f p u) q' ≡ subtree_at f q
at_behind u =
    move_ind u (λ f p q q'. subtree_at (put f p u) q' ≡ subtree_at f q)
    (λ s cs f q q' i j e. rw (put_root s cs f u, at_right u.symbol u.children f q' j, at_right s cs f q i, e))
    (λ s cs f p q q' o i j ih. rw (put_in s cs f p u (omega arith), at_in s (put cs p u) f q' j, at_in s cs f q i) ih)
    (λ s cs f p q q' k i j e. rw (put_in s cs f p u k, at_right s (put cs p u) f q' j, at_right s cs f q i, e))
    (λ s cs f p q q' k i j ih. rw (put_right s cs f p u k, at_right s cs (put f (p - size cs) u) q' j, at_right s cs f q i) ih)

-- replacements in two disjoint subtrees, in either order
pub put_swap : (u v : Tree) (f : Forest) (p : ℕ) → p < size f → (q q' : ℕ) → Moves u f p q q' → put (put f p u) q' v ≡ put (put f q v) p u
put_swap u v =
    move_ind u (λ f p q q'. put (put f p u) q' v ≡ put (put f q v) p u)
    (λ s cs f q q' i j e.
    rw (put_root s cs f u, put_right s cs f q v i, put_root s cs (put f (q - size cs) v) u, put_right u.symbol u.children f q' v j, e))
    (λ s cs f p q q' o i j ih.
    let k : p < size (put cs q v) = omega (arith, put-below v cs q i) in
    rw (put_in s cs f p u (omega arith), put_in s (put cs p u) f q' v j, put_in s cs f q v i, put_in s (put cs q v) f p u k, ih))
    (λ s cs f p q q' k i j e.
    rw (put_in s cs f p u k, put_right s (put cs p u) f q' v j, put_right s cs f q v i, put_in s cs (put f (q - size cs) v) p u k, e))
    (λ s cs f p q q' k i j ih.
    rw (put_right s cs f p u k, put_right s cs (put f (p - size cs) u) q' v j, put_right s cs f q v i, put_right s cs (put f (q - size cs) v) p u k, ih))
