-- The symbols of a subtree stand elsewhere in the row exactly if the subtree does, and that is what classes tell.
-- Assumes nothing.
use Prim.Native.Nat.{ℕ, ◌-◌, ◌<◌}
use mathlib.Core.Path.{◌≡◌, refl, sym, ap, ◌∙◌, subst}
use mathlib.Core.List.{List, ◌++◌}
use mathlib.Core.Bool.{Bool, true, false}
use native.Mathlib.Omega.{arith}
use borrow.Author.Tests.{eq-eqb, ne_eqb, eqb-true, eqb-false}
use lib.Dec.{eqb}
use lib.ListN.{get_or, length, take, drop, take-append-drop, length-take}
use lib.Seq.{take_at, get_or-take}
use Rattle.rows.specs.Tree.{Forest.none, Tree, single, size, prefix, subtree_at}
use Rattle.rows.specs.Parse.{parse}
use Rattle.rows.specs.Classes.{classes}
use Rattle.rows.proofs.Tree.{length-prefix}
use Rattle.rows.proofs.Classes.{same_class}
use Rattle.tables.specs.Given.{Right, Classed}
use Rattle.patterns.specs.Walk.{agreeing, twice, ByClass}
use Rattle.patterns.proofs.Standing.{Planted, planted_at, planted_row, planted_is, stands_end}
use Rattle.patterns.proofs.Fronts.{front_same, front_all}

module _ (A w e : List ℕ) (j : ℕ) (t : Tree) (here : Planted A w e j t) where
  -- where the tree at j stands at position a too, its symbols do
  pub agreeing_same : (a : ℕ) → Planted A w e a t → agreeing w a j (get_or e j 0 - j) ≡ get_or e j 0 - j
  unfolding size
  agreeing_same a p =
      let n : get_or e j 0 - j ≡ size (single t) = rw (stands_end w e j t.symbol t.children none here.stands) (omega arith) in
      let long : length (prefix (single t)) ≡ get_or e j 0 - j = length-prefix (single t) ∙ sym n in
      let x : take (get_or e j 0 - j) (drop a w) ≡ prefix (single t) =
      ap (take (get_or e j 0 - j)) p.stands.row ∙ take_at (prefix (single t)) p.stands.more (get_or e j 0 - j) long in
      rw (x, planted_row A w e j t here, front_same (prefix (single t))) long

  -- and where they do, that tree stands there
  pub agreeing_all : (a : ℕ) (u : Tree) → Planted A w e a u → agreeing w a j (get_or e j 0 - j) ≡ get_or e j 0 - j → u ≡ t
  agreeing_all a u p q =
      let n : ℕ = get_or e j 0 - j in
      let x : take n (drop a w) ≡ take n (drop j w) =
      front_all (take n (drop a w)) (take n (drop j w)) n (simp length-take (omega arith)) (simp length-take (omega arith)) q in
      planted_is A w e a u t (drop n (drop a w)) p here.ranked
      (sym (take-append-drop n (drop a w)) ∙ ap (λ (l : List ℕ). l ++ drop n (drop a w)) (x ∙ planted_row A w e j t here))

-- in a row with its table and its classes, two positions have one class exactly if the symbols of the later subtree stand at both
pub by_class : (A w e c : List ℕ) → Right A w e → Classed A w c → ByClass w e c
by_class A w e c r k =
    record { long = k.fits; same = λ a j l h. go a j (omega arith) h (eqb (get_or c a 0) (get_or c j 0)) refl }
  where
    tree : ℕ → Tree
    tree p = subtree_at (parse A w) p

    own : (p : ℕ) → p < length w → get_or c p 0 ≡ get_or (classes A w) p 0
    own p h = sym (get_or-take (length w) c p 0 h) ∙ ap (λ (l : List ℕ). get_or l p 0) k.right

    go : (a j : ℕ) → a < length w → j < length w → (b : Bool) → eqb (get_or c a 0) (get_or c j 0) ≡ b → twice w a j (get_or e j 0 - j) ≡ b
    go a j m h true z =
        let one : get_or (classes A w) a 0 ≡ get_or (classes A w) j 0 = sym (own a m) ∙ eqb-true (get_or c a 0) (get_or c j 0) z ∙ own j h in
        let same : tree a ≡ tree j = (same_class A w a j m h).0 one in
        eq-eqb _ _ (agreeing_same A w e j (tree j) (planted_at A w e r j h) a (subst (Planted A w e a) same (planted_at A w e r a m)))
    go a j m h false z =
        ne_eqb _ _ (λ q.
        let same : tree a ≡ tree j = agreeing_all A w e j (tree j) (planted_at A w e r j h) a (tree a) (planted_at A w e r a m) q in
        eqb-false (get_or c a 0) (get_or c j 0) z (own a m ∙ (same_class A w a j m h).1 same ∙ sym (own j h)))
