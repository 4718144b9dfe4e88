-- What it takes for a list to start with the classes of a row.
-- Assumes nothing.
use Prim.Native.Nat.{ℕ, ◌+◌, ◌≤◌, ◌<◌}
use mathlib.Core.Path.{◌≡◌, refl, sym, ap, ap₂, ◌∙◌, subst}
use mathlib.Core.List.{List, ◌++◌}
use native.Mathlib.Omega.{arith}
use lib.ListN.{length, get_or, take, drop, take-append-drop}
use lib.Seq.{ext_get_or, get_or-take, length-take-le}
use Rattle.rows.specs.Tree.{Forest, size}
use Rattle.rows.specs.Buffers.{written}
use Rattle.rows.specs.Classes.{FirstEqual, classes_of, classes}
use Rattle.rows.proofs.Alike.{length-classes, class_first, first_same}
use Rattle.rows.proofs.Classes.{class_of_row}
use Rattle.rows.specs.Parse.{parse}
use Rattle.rows.proofs.Parse.{size-parse}
use Rattle.classes.specs.Lasts.{Rewrote, AllNamed}
use Rattle.classes.proofs.Rewrote.{rewrote_then}

-- a list starts with the classes of a forest if each entry is the first position with an equal subtree
pub first-classes : (f : Forest) (c : List ℕ) → size f ≤ length c → ((p : ℕ) → p < size f → FirstEqual f p (get_or c p 0)) → take (size f) c ≡ classes_of f
first-classes f c long all =
    let n : length (take (size f) c) ≡ size f = length-take-le (size f) c long in
    ext_get_or 0 (take (size f) c) (classes_of f) (n ∙ sym (length-classes f))
    (λ p h.
    let m : p < size f = omega arith in
    get_or-take (size f) c p 0 m ∙ first_same f p p (get_or c p 0) (get_or (classes_of f) p 0) (all p m) (class_first f p m) refl)

-- a list whose front are the classes, and whose later places stayed
pub front-written : (A w c c' : List ℕ) → take (length w) c' ≡ classes A w → drop (length w) c' ≡ drop (length w) c → c' ≡ written c 0 (classes A w)
unfolding written
front-written A w c c' front stays =
    let n : length w ≡ 0 + length (classes A w) = omega (arith, (class_of_row A w).0) in
    sym (take-append-drop (length w) c')
    ∙ ap₂ (λ (x y : List ℕ). x ++ y) front (stays ∙ ap (λ (k : ℕ). drop k c) n)

-- all positions are named
pub front_named : (A w c : List ℕ) {b c' : List ℕ} → length w ≤ length c → Rewrote (length w) c b → AllNamed (parse A w) b c' (length w) → c' ≡ written c 0 (classes A w)
unfolding classes
front_named A w c {b} {c'} room before all =
    let f = parse A w in
    let m : size f ≡ length w = size-parse A w in
    let over = rewrote_then before all.rewrote in
    front-written A w c c'
    (subst (λ (n : ℕ). take n c' ≡ classes_of f) m (first-classes f c' (omega (arith, over.long)) (λ p h. all.naming.done p (omega arith))))
    over.stays
