-- The children of a subtree stand in the forest, one after the other, from the position behind it on.
-- Assumes nothing.
use Prim.Native.Nat.{ℕ, zero, suc, ◌+◌, ◌-◌, ◌≤◌, ◌<◌}
use mathlib.Core.Path.{◌≡◌, sym, ap, ◌∙◌}
use mathlib.Core.List.{List, ◌∷◌, ◌++◌, append_assoc, append-nil}
use native.Mathlib.Nat.{add-zero}
use native.Mathlib.Numerals.{add-one}
use native.Mathlib.Decide.{dec_lt}
use native.Mathlib.Omega.{arith}
use lib.ListN.{length, get_or, drop, length-drop, get_or-append}
use lib.Seq.{drop-append-le, drop-append-add, get_or-append-add, get_or-drop, drop-drop, drop_at}
use Rattle.rows.specs.Tree.{Forest, Forest.none, Forest.grow, Tree, single, size, subtrees, subtree_at}
use Rattle.rows.proofs.Subtrees.{length-subtrees}
use Rattle.rows.proofs.Alike.{bud}

-- the trees of g, side by side, are subtrees of f, the first at position b
unfoldable pub Stands : Forest → ℕ → Forest → Type 0
Stands f b none = Unit {0}
Stands f b (grow s cs g) = (b < size f) × (subtree_at f b ≡ (record { symbol = s; children = cs })) × Stands f (b + size cs + 1) g

-- the subtrees of f from p on begin with those of the subtree at p
abbrev pub From : Forest → ℕ → Type 0
From f p = (l : List Tree) × (drop p (subtrees f) ≡ subtrees (single (subtree_at f p)) ++ l)

from_left : (cs g : Forest) (k : ℕ) → k < size cs → From cs k
    → (l : List Tree) × (drop k (subtrees cs ++ subtrees g) ≡ subtrees (single (get_or (subtrees cs ++ subtrees g) k bud)) ++ l)
from_left cs g k h r =
    let X = subtrees cs in
    let Y = subtrees g in
    let low : k < length X = omega (arith, length-subtrees cs) in
    let same : get_or (X ++ Y) k bud ≡ subtree_at cs k = get_or-append X Y bud k low in
    let S = subtrees (single (subtree_at cs k)) in (
      r.0 ++ Y,
      drop-append-le k X Y (omega arith) ∙ ap (λ (l : List Tree). l ++ Y) r.1 ∙ append_assoc S r.0 Y
          ∙ ap (λ (t : Tree). subtrees (single t) ++ (r.0 ++ Y)) (sym same),
    )

from_right : (cs g : Forest) (k : ℕ) → size cs ≤ k → From g (k - size cs)
    → (l : List Tree) × (drop k (subtrees cs ++ subtrees g) ≡ subtrees (single (get_or (subtrees cs ++ subtrees g) k bud)) ++ l)
from_right cs g k h r =
    let X = subtrees cs in
    let Y = subtrees g in
    let j : ℕ = k - size cs in
    let up : length X + j ≡ k = omega (arith, length-subtrees cs) in
    let same : get_or (X ++ Y) k bud ≡ subtree_at g j = ap (λ (n : ℕ). get_or (X ++ Y) n bud) (sym up) ∙ get_or-append-add X Y j bud in
    (r.0, ap (λ (n : ℕ). drop n (X ++ Y)) (sym up) ∙ drop-append-add X Y j ∙ r.1 ∙ ap (λ (t : Tree). subtrees (single t) ++ r.0) (sym same))

pub from : (f : Forest) (p : ℕ) → p < size f → From f p
unfolding size subtrees
from none p h = absurd (omega arith)
from (grow s cs g) zero h =
    (subtrees g, ap (λ (l : List Tree). (record { symbol = s; children = cs }) ∷ (l ++ subtrees g)) (sym (append-nil (subtrees cs))))
from (grow s cs g) (suc k) h = go (dec_lt k (size cs)) (λ m. from cs k m) (λ m. from g (k - size cs) (omega arith))
  where
    go : Dec (k < size cs) → (k < size cs → From cs k) → (size cs ≤ k → From g (k - size cs)) → From (grow s cs g) (suc k)
    go (yes m) a b = from_left cs g k m (a m)
    go (no m) a b = from_right cs g k (omega arith) (b (omega arith))

stands : (f g : Forest) (b : ℕ) (l : List Tree) → drop b (subtrees f) ≡ subtrees g ++ l → Stands f b g
unfolding Stands subtrees
stands f none b l e = tt
stands f (grow s cs g) b l e =
    let ts = subtrees f in
    let X = subtrees cs in
    let Y = subtrees g in
    let len = ap length e in
    let behind : drop (size cs + 1) (((record { symbol = s; children = cs }) ∷ (X ++ Y)) ++ l) ≡ Y ++ l =
    ap (λ (n : ℕ). drop n (((record { symbol = s; children = cs }) ∷ (X ++ Y)) ++ l)) (add-one (size cs))
    ∙ ap (drop (size cs)) (append_assoc X Y l)
    ∙ drop_at X (Y ++ l) (size cs) (length-subtrees cs) in
    let on : b + (size cs + 1) ≡ b + size cs + 1 = omega arith in (
      omega (arith, length-drop b ts, length-subtrees f),
      ap (λ (n : ℕ). get_or ts n bud) (sym (add-zero b)) ∙ sym (get_or-drop b ts 0 bud) ∙ ap (λ (x : List Tree). get_or x 0 bud) e,
      stands f g (b + size cs + 1) l
          (ap (λ (n : ℕ). drop n ts) (sym on) ∙ sym (drop-drop (size cs + 1) b ts) ∙ ap (drop (size cs + 1)) e ∙ behind),
    )

-- the children of the subtree at p
pub kids_stand : (f : Forest) (p : ℕ) → p < size f → Stands f (p + 1) (subtree_at f p).children
unfolding subtrees
kids_stand f p h =
    let r = from f p h in
    let cs = (subtree_at f p).children in
    stands f cs (p + 1) r.0
    (sym (drop-drop 1 p (subtrees f)) ∙ ap (drop 1) r.1 ∙ ap (λ (l : List Tree). l ++ r.0) (append-nil (subtrees cs)))
