-- What classes are made of: `alike` decides equality, and `place_of` finds the first equal tree.
-- Assumes nothing.
use Prim.Native.Nat.{ℕ, zero, suc, ◌≤◌, ◌<◌}
use mathlib.Core.Path.{◌≡◌, refl, sym, ap, ◌∙◌, subst}
use mathlib.Core.List.{List, [], ◌∷◌, map}
use mathlib.Core.Bool.{Bool, true, false}
use native.Mathlib.Decide.{dec_lt}
use native.Mathlib.Omega.{arith}
use borrow.Author.Tests.{eq-eqb, eqb-true}
use lib.Dec.{eqb}
use lib.ListN.{length, get_or, length-map}
use Rattle.rows.specs.Tree.{Forest, Forest.none, Forest.grow, Tree, single, size, subtrees, subtree_at}
use Rattle.rows.specs.Row.{pick}
use Rattle.rows.proofs.Subtrees.{length-subtrees}
use Rattle.rows.specs.Classes.{FirstEqual, alike, place_of, classes_of}

both : (a b : Bool) → pick a b false ≡ true → (a ≡ true) × (b ≡ true)
both true b e = (refl, e)
both false b e = let z : ◌≡◌ {A = ℕ} 0 1 = cc in absurd (omega arith)

alike_same : (f g : Forest) → alike f g ≡ true → f ≡ g
unfolding alike
alike_same none none e = refl
alike_same none (grow s cs f) e = let z : ◌≡◌ {A = ℕ} 0 1 = cc in absurd (omega arith)
alike_same (grow s cs f) none e = let z : ◌≡◌ {A = ℕ} 0 1 = cc in absurd (omega arith)
alike_same (grow s cs f) (grow s' cs' f') e =
    let h = both (eqb s s') _ e in
    let k = both (alike cs cs') _ h.1 in
    let a : s ≡ s' = eqb-true s s' h.0 in
    let b : cs ≡ cs' = alike_same cs cs' k.0 in
    let d : f ≡ f' = alike_same f f' k.1 in
    cc

alike_refl : (f : Forest) → alike f f ≡ true
unfolding alike
alike_refl none = refl
alike_refl (grow s cs f) = simp (eq-eqb s s refl, alike_refl cs, alike_refl f)

pub same_tree : (t u : Tree) → t.symbol ≡ u.symbol → t.children ≡ u.children → t ≡ u
same_tree t u a b = λ i. record { symbol = a i; children = b i }

-- equality of trees is what `alike` finds
pub alike_equal : (t u : Tree) → alike (single t) (single u) ≡ true → t ≡ u
alike_equal t u e =
    let p : grow t.symbol t.children none ≡ grow u.symbol u.children none = alike_same (single t) (single u) e in
    same_tree t u (cc) (cc)

pub equal_alike : (t u : Tree) → t ≡ u → alike (single t) (single u) ≡ true
equal_alike t u e = ap (λ (v : Tree). alike (single t) (single v)) (sym e) ∙ alike_refl (single t)

-- the single node 0, which `subtree_at` gives past a forest's end
abbrev pub bud : Tree
bud = record { symbol = 0; children = none }

-- the place is that of an equal tree, where there is one, and none stands before it
found_here : (t u : Tree) (l : List Tree) → (place_of t l < length l → get_or l (place_of t l) bud ≡ t) → (b : Bool) → alike (single t) (single u) ≡ b
    → pick b 0 (suc (place_of t l)) < length (u ∷ l) → get_or (u ∷ l) (pick b 0 (suc (place_of t l))) bud ≡ t
found_here t u l later true e h = sym (alike_equal t u e)
found_here t u l later false e h = later (omega arith)

pub place_found : (t : Tree) (l : List Tree) → place_of t l < length l → get_or l (place_of t l) bud ≡ t
unfolding place_of
place_found t [] h = absurd (omega arith)
place_found t (u ∷ l) h = found_here t u l (place_found t l) (alike (single t) (single u)) refl h

first_here : (n k : ℕ) (b : Bool) → n ≤ k → pick b 0 (suc n) ≤ suc k
first_here n k true h = omega arith
first_here n k false h = omega arith

pub place-first : (t : Tree) (l : List Tree) (k : ℕ) → k < length l → get_or l k bud ≡ t → place_of t l ≤ k
unfolding place_of
place-first t [] k h e = absurd (omega arith)
place-first t (u ∷ l) zero h e = simp (equal_alike t u (sym e)) (omega arith)
place-first t (u ∷ l) (suc k) h e = first_here (place_of t l) k (alike (single t) (single u)) (place-first t l k (omega arith) e)

pub length-classes : (f : Forest) → length (classes_of f) ≡ size f
unfolding classes_of
length-classes f = length-map (subtrees f) (λ (t : Tree). place_of t (subtrees f)) ∙ length-subtrees f

pub get_d_map : (g : Tree → ℕ) (l : List Tree) (p : ℕ) → p < length l → get_or (map g l) p 0 ≡ g (get_or l p bud)
get_d_map g [] p h = absurd (omega arith)
get_d_map g (t ∷ l) zero h = refl
get_d_map g (t ∷ l) (suc p) h = get_d_map g l p (omega arith)

-- entry p is the first position with an equal subtree
pub class_first : (f : Forest) (p : ℕ) → p < size f → FirstEqual f p (get_or (classes_of f) p 0)
unfolding classes_of
class_first f p h =
    let ts = subtrees f in
    let in_list : p < length ts = omega (arith, length-subtrees f) in
    let t = get_or ts p bud in
    let low : place_of t ts ≤ p = place-first t ts p in_list refl in
    subst (FirstEqual f p) (sym (get_d_map (λ (u : Tree). place_of u ts) ts p in_list))
    (record {
      upto = low;
      equal = place_found t ts (omega arith);
      first = λ r m e. omega (arith, place-first t ts r (omega arith) e);
    })

-- equal subtrees have the same first position
pub first_same : (f : Forest) (p q x y : ℕ) → FirstEqual f p x → FirstEqual f q y → subtree_at f p ≡ subtree_at f q → x ≡ y
first_same f p q x y a b e = go (dec_lt x y) (dec_lt y x)
  where
    go : Dec (x < y) → Dec (y < x) → x ≡ y
    go (yes l) m = absurd (b.first x l (a.equal ∙ e))
    go (no l) (yes m) = absurd (a.first y m (b.equal ∙ sym e))
    go (no l) (no m) = omega arith
