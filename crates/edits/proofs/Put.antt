-- Laws of `put`: how many nodes and trees, and which row, the forest has once a subtree is replaced; ranked forests stay ranked.
-- Assumes nothing.
use Prim.Native.Nat.{ℕ, zero, suc, ◌+◌, ◌-◌, ◌≤◌, ◌<◌}
use mathlib.Core.Path.{◌≡◌, refl, sym, ap, ◌∙◌}
use mathlib.Core.List.{List, ◌∷◌, ◌++◌, append_assoc, append-nil}
use mathlib.Core.Bool.{Bool}
use native.Mathlib.Nat.{add-zero, suc-add, not-suc-le-zero}
use native.Mathlib.Omega.{arith}
use lib.ListN.{length, take, drop, get_or, get_or-append}
use lib.Seq.{take-append-le, drop-append-le, take-append-add, drop-append-add, drop_at, get_or-append-add}
use borrow.Author.Tests.{lt-ltb, le-ltb}
use Rattle.rows.proofs.Passing.{below}
use Rattle.rows.specs.Tree.{Forest, Forest.none, Forest.grow, Tree, single, size, count, prefix, subtrees, subtree_at, Ranked}
use Rattle.rows.proofs.Tree.{length-prefix}
use Rattle.rows.proofs.Subtrees.{length-subtrees}
use Rattle.buffers.specs.Shift.{spliced}
use Rattle.edits.specs.Put.{put, extent}

-- `put` and `subtree_at` at the root, and at a position past it: among the children, or to the right
pub put_root : (s : ℕ) (cs f : Forest) (u : Tree) → put (grow s cs f) zero u ≡ grow u.symbol u.children f
unfolding put
put_root s cs f u = refl

pub at_root : (s : ℕ) (cs f : Forest) → subtree_at (grow s cs f) zero ≡ record { symbol = s; children = cs }
unfolding subtrees
at_root s cs f = refl

module _ (s : ℕ) (cs f : Forest) (p : ℕ) where
  pub put_in : (u : Tree) → p < size cs → put (grow s cs f) (suc p) u ≡ grow s (put cs p u) f
  unfolding put
  put_in u h = rw (lt-ltb p (size cs) h)

  pub put_right : (u : Tree) → size cs ≤ p → put (grow s cs f) (suc p) u ≡ grow s cs (put f (p - size cs) u)
  unfolding put
  put_right u h = rw (le-ltb p (size cs) h)

  pub at_in : p < size cs → subtree_at (grow s cs f) (suc p) ≡ subtree_at cs p
  unfolding subtrees
  at_in h = get_or-append (subtrees cs) (subtrees f) (record { symbol = 0; children = none }) p (omega (arith, length-subtrees cs))

  pub at_right : size cs ≤ p → subtree_at (grow s cs f) (suc p) ≡ subtree_at f (p - size cs)
  unfolding subtrees
  at_right h =
      let bud : Tree = record { symbol = 0; children = none } in
      let e : p ≡ length (subtrees cs) + (p - size cs) = omega (arith, length-subtrees cs) in
      ap (λ (k : ℕ). get_or (subtrees cs ++ subtrees f) k bud) e ∙ get_or-append-add (subtrees cs) (subtrees f) (p - size cs) bud

  -- so the subtree at such a position is as long there
  pub extent_in : p < size cs → extent (grow s cs f) (suc p) ≡ extent cs p
  extent_in h = ap (λ (t : Tree). size (single t)) (at_in h)

  pub extent_right : size cs ≤ p → extent (grow s cs f) (suc p) ≡ extent f (p - size cs)
  extent_right h = ap (λ (t : Tree). size (single t)) (at_right h)

-- a property of forests and their positions, given at the root, among the children and to the right
pub put_ind : (P : Forest → ℕ → Type 0)
    → ((s : ℕ) (cs f : Forest) → P (grow s cs f) zero)
    → ((s : ℕ) (cs f : Forest) (p : ℕ) → p < size cs → P cs p → P (grow s cs f) (suc p))
    → ((s : ℕ) (cs f : Forest) (p : ℕ) → size cs ≤ p → p - size cs < size f → P f (p - size cs) → P (grow s cs f) (suc p))
    → (f : Forest) (p : ℕ) → p < size f → P f p
unfolding size
put_ind P a b c none p h = absurd (not-suc-le-zero h)
put_ind P a b c (grow s cs f) zero h = a s cs f
put_ind P a b c (grow s cs f) (suc p) h =
    below p (size cs)
    (λ i. b s cs f p i (put_ind P a b c cs p i))
    (λ i. c s cs f p i (omega arith) (put_ind P a b c f (p - size cs) (omega arith)))

pub size-single : (t : Tree) → size (single t) ≡ size t.children + 1
unfolding size
size-single t = rw add-zero

pub extent_root : (s : ℕ) (cs f : Forest) → extent (grow s cs f) zero ≡ size cs + 1
extent_root s cs f = ap (λ (t : Tree). size (single t)) (at_root s cs f) ∙ size-single (record { symbol = s; children = cs })

-- the subtree at a position ends within the forest
pub at_fits : (f : Forest) (p : ℕ) → p < size f → p + extent f p ≤ size f
unfolding size
at_fits =
    put_ind (λ f p. p + extent f p ≤ size f)
    (λ s cs f. omega (arith, extent_root s cs f))
    (λ s cs f p i ih. omega (arith, extent_in s cs f p i))
    (λ s cs f p i h ih. omega (arith, extent_right s cs f p i))

-- the new size: the old subtree's nodes are gone, those of u are there
pub put-size : (u : Tree) (f : Forest) (p : ℕ) → p < size f → size (put f p u) + extent f p ≡ size f + size (single u)
unfolding size
put-size u =
    put_ind (λ f p. size (put f p u) + extent f p ≡ size f + size (single u))
    (λ s cs f. rw (put_root s cs f u) (omega (arith, extent_root s cs f)))
    (λ s cs f p i ih. rw (put_in s cs f p u i, at_in s cs f p i) (omega arith))
    (λ s cs f p i h ih. rw (put_right s cs f p u i, at_right s cs f p i) (omega arith))

-- the position is still there
pub put-below : (u : Tree) (f : Forest) (p : ℕ) → p < size f → p < size (put f p u)
put-below u f p h = omega (arith, put-size u f p h, at_fits f p h, size-single u)

-- ---- the row

pub prefix-single : (u : Tree) → prefix (single u) ≡ u.symbol ∷ prefix u.children
unfolding prefix
prefix-single u = ap (λ (l : List ℕ). u.symbol ∷ l) (append-nil (prefix u.children))

abbrev Prefix : Tree → List ℕ → Forest → ℕ → Type 0
Prefix u v f p = prefix (put f p u) ≡ take p (prefix f) ++ (v ++ drop (p + extent f p) (prefix f))

module _ (u : Tree) (s : ℕ) (cs f : Forest) where
  prefix_here : Prefix u (u.symbol ∷ prefix u.children) (grow s cs f) zero
  unfolding prefix put
  prefix_here =
      let e : 0 + extent (grow s cs f) zero ≡ suc (length (prefix cs)) = omega (arith, extent_root s cs f, length-prefix cs) in
      rw (e, drop_at (prefix cs) (prefix f) (length (prefix cs)) refl)

  prefix_inside : (v : List ℕ) (p : ℕ) → p < size cs → Prefix u v cs p → Prefix u v (grow s cs f) (suc p)
  unfolding prefix
  prefix_inside v p i ih =
      let a : p ≤ length (prefix cs) = omega (arith, length-prefix cs) in
      let g : p + extent cs p ≤ length (prefix cs) = omega (arith, at_fits cs p i, length-prefix cs) in
      rw (
        put_in s cs f p u i,
        at_in s cs f p i,
        ih,
        suc-add,
        take-append-le p (prefix cs) (prefix f) a,
        drop-append-le (p + extent cs p) (prefix cs) (prefix f) g,
      )
      (simp append_assoc)

  prefix-beside : (v : List ℕ) (p : ℕ) → size cs ≤ p → p - size cs < size f → Prefix u v f (p - size cs) → Prefix u v (grow s cs f) (suc p)
  unfolding prefix
  prefix-beside v p i h ih =
      let q = p - size cs in
      let x = extent f q in
      let e : p ≡ length (prefix cs) + q = omega (arith, length-prefix cs) in
      let e' : p + x ≡ length (prefix cs) + (q + x) = omega arith in
      let t : take p (prefix cs ++ prefix f) ≡ prefix cs ++ take q (prefix f) =
      ap (λ (k : ℕ). take k (prefix cs ++ prefix f)) e ∙ take-append-add (prefix cs) (prefix f) q in
      let d : drop (p + x) (prefix cs ++ prefix f) ≡ drop (q + x) (prefix f) =
      ap (λ (k : ℕ). drop k (prefix cs ++ prefix f)) e' ∙ drop-append-add (prefix cs) (prefix f) (q + x) in
      rw (put_right s cs f p u i, at_right s cs f p i, ih, suc-add, t, d)
      (ap (λ (l : List ℕ). s ∷ l) (sym (append_assoc (prefix cs) (take q (prefix f)) (v ++ drop (q + x) (prefix f)))))

-- the row of the new forest is the old row with the subtree's symbols replaced
pub put-prefix : (u : Tree) (f : Forest) (p : ℕ) → p < size f
    → prefix (put f p u) ≡ spliced (prefix f) p (p + extent f p) (prefix (single u))
unfolding spliced
put-prefix u f p h =
    let v = u.symbol ∷ prefix u.children in
    rw (prefix-single u)
    (put_ind (Prefix u v) (prefix_here u) (λ s cs f. prefix_inside u s cs f v) (λ s cs f. prefix-beside u s cs f v) f p h)

-- ---- ranks

pub put_count : (u : Tree) (f : Forest) (p : ℕ) → count (put f p u) ≡ count f
unfolding count put
put_count u none p = refl
put_count u (grow s cs f) zero = refl
put_count u (grow s cs f) (suc p) =
    below p (size cs)
    (λ i. rw (lt-ltb p (size cs) i))
    (λ i. rw (le-ltb p (size cs) i) (omega (arith, put_count u f (p - size cs))))

-- a ranked forest stays ranked
pub put_ranked : (A : List ℕ) (ok : ℕ → Bool) (u : Tree) → Ranked A ok (single u) → (f : Forest) (p : ℕ) → Ranked A ok f → Ranked A ok (put f p u)
unfolding Ranked put
put_ranked A ok u ru none p r = r
put_ranked A ok u ru (grow s cs f) zero r = (ru.0, ru.1, ru.2, r.3)
put_ranked A ok u ru (grow s cs f) (suc p) r =
    below p (size cs)
    (λ i. rw (lt-ltb p (size cs) i) (r.0, put_count u cs p ∙ r.1, put_ranked A ok u ru cs p r.2, r.3))
    (λ i. rw (le-ltb p (size cs) i) (r.0, r.1, r.2, put_ranked A ok u ru f (p - size cs) r.3))

-- and so is each of its subtrees
pub at_ranked : (A : List ℕ) (ok : ℕ → Bool) (f : Forest) (p : ℕ) → p < size f → Ranked A ok f → Ranked A ok (single (subtree_at f p))
unfolding Ranked
at_ranked A ok =
    put_ind (λ f p. Ranked A ok f → Ranked A ok (single (subtree_at f p)))
    (λ s cs f r. rw (at_root s cs f) (r.0, r.1, r.2, tt))
    (λ s cs f p i ih r. rw (at_in s cs f p i) (ih r.2))
    (λ s cs f p i h ih r. rw (at_right s cs f p i) (ih r.3))
