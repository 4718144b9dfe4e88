-- Classes: two subtrees are equal exactly if their symbols are the same and their children have pairwise the same classes.
-- Assumes nothing.
use Prim.Native.Nat.{ℕ, ◌+◌, ◌≤◌, ◌<◌}
use mathlib.Core.Path.{◌≡◌, refl, sym, ap, ◌∙◌, subst}
use mathlib.Core.List.{List}
use native.Mathlib.Omega.{arith}
use lib.ListN.{get_or}
use Rattle.rows.specs.Tree.{Forest, Forest.none, Forest.grow, Tree, size, subtree_at}
use Rattle.rows.specs.Parse.{parse}
use Rattle.rows.specs.Classes.{FirstEqual, classes_of, classes, said, SameSign}
use Rattle.rows.specs.Promises.{ClassOfRow, SameClass, EqualSubtrees}
use Rattle.rows.proofs.Parse.{size-parse}
use Rattle.rows.proofs.Alike.{same_tree, length-classes, class_first, first_same}
use Rattle.rows.proofs.Children.{Stands, kids_stand}

-- Up to subtrees with fewer than k nodes below them: where the list says the same, the subtrees are equal; and the other
-- way round.
abbrev pub Tells : Forest → List ℕ → ℕ → Type 0
Tells f c k = (p q : ℕ) → p < size f → q < size f → size (subtree_at f p).children < k → get_or c p 0 ≡ get_or c q 0 → subtree_at f p ≡ subtree_at f q

abbrev pub Told : Forest → List ℕ → ℕ → Type 0
Told f c k = (p q : ℕ) → p < size f → q < size f → size (subtree_at f p).children < k → subtree_at f p ≡ subtree_at f q → get_or c p 0 ≡ get_or c q 0

-- then so for forests side by side
forest_equal : (f : Forest) (c : List ℕ) (k : ℕ) → Tells f c k → (g h : Forest) (a b : ℕ) → size g ≤ k → Stands f a g → Stands f b h
    → said c a g ≡ said c b h → g ≡ h
unfolding said Stands size
forest_equal f c k tells none none a b m x y e = refl
forest_equal f c k tells none (grow s cs h) a b m x y e = let z : ◌≡◌ {A = ℕ} 0 1 = cc in absurd (omega arith)
forest_equal f c k tells (grow s cs g) none a b m x y e = let z : ◌≡◌ {A = ℕ} 0 1 = cc in absurd (omega arith)
forest_equal f c k tells (grow s cs g) (grow s' cs' h) a b m x y e =
    let here : get_or c a 0 ≡ get_or c b 0 = cc in
    let small : size (subtree_at f a).children < k = omega (arith, ap (λ (t : Tree). size t.children) x.1) in
    let t : subtree_at f a ≡ subtree_at f b = tells a b x.0 y.0 small here in
    let u : ◌≡◌ {A = Tree} (record { symbol = s; children = cs }) (record { symbol = s'; children = cs' }) = sym x.1 ∙ t ∙ y.1 in
    let p : s ≡ s' = ap (λ (v : Tree). v.symbol) u in
    let q : cs ≡ cs' = ap (λ (v : Tree). v.children) u in
    let more : said c (a + size cs + 1) g ≡ said c (b + size cs' + 1) h = cc in
    let r : g ≡ h = forest_equal f c k tells g h (a + size cs + 1) (b + size cs' + 1) (omega arith) x.2 y.2 more in
    cc

forest_said : (f : Forest) (c : List ℕ) (k : ℕ) → Told f c k → (g : Forest) (a b : ℕ) → size g ≤ k → Stands f a g → Stands f b g
    → said c a g ≡ said c b g
unfolding said Stands size
forest_said f c k told none a b m x y = refl
forest_said f c k told (grow s cs g) a b m x y =
    let small : size (subtree_at f a).children < k = omega (arith, ap (λ (t : Tree). size t.children) x.1) in
    let here : get_or c a 0 ≡ get_or c b 0 = told a b x.0 y.0 small (x.1 ∙ sym y.1) in
    let more = forest_said f c k told g (a + size cs + 1) (b + size cs + 1) (omega arith) x.2 y.2 in
    cc

-- and so from the children to the subtrees
pub sign_equal : (f : Forest) (c : List ℕ) (k p q : ℕ) → Tells f c k → p < size f → q < size f → size (subtree_at f p).children ≤ k
    → SameSign f c p q → subtree_at f p ≡ subtree_at f q
sign_equal f c k p q tells h m small s =
    same_tree (subtree_at f p) (subtree_at f q) s.symbol
    (forest_equal f c k tells (subtree_at f p).children (subtree_at f q).children (p + 1) (q + 1) small (kids_stand f p h) (kids_stand f q m) s.children)

pub equal_sign : (f : Forest) (c : List ℕ) (k p q : ℕ) → Told f c k → p < size f → q < size f → size (subtree_at f p).children ≤ k
    → subtree_at f p ≡ subtree_at f q → SameSign f c p q
equal_sign f c k p q told h m small e =
    let d : (subtree_at f q).children ≡ (subtree_at f p).children = ap (λ (t : Tree). t.children) (sym e) in
    record {
      symbol = ap (λ (t : Tree). t.symbol) e;
      children =
          forest_said f c k told (subtree_at f p).children (p + 1) (q + 1) small (kids_stand f p h) (subst (Stands f (q + 1)) d (kids_stand f q m))
          ∙ ap (said c (q + 1)) (sym d);
    }

pub sign_sym : {f : Forest} {c : List ℕ} {p q : ℕ} → SameSign f c p q → SameSign f c q p
sign_sym s = record { symbol = sym s.symbol; children = sym s.children }

pub sign_trans : {f : Forest} {c : List ℕ} {p q r : ℕ} → SameSign f c p q → SameSign f c q r → SameSign f c p r
sign_trans s t = record { symbol = s.symbol ∙ t.symbol; children = s.children ∙ t.children }

-- a list of first positions tells equal subtrees apart from others
pub first_told : (f : Forest) (c : List ℕ) → ((p : ℕ) → p < size f → FirstEqual f p (get_or c p 0)) → (k : ℕ) → Told f c k
first_told f c all k p q h m small e = first_same f p q (get_or c p 0) (get_or c q 0) (all p h) (all q m) e

pub first_tells : (f : Forest) (c : List ℕ) → ((p : ℕ) → p < size f → FirstEqual f p (get_or c p 0)) → (k : ℕ) → Tells f c k
first_tells f c all k p q h m small e = sym (all p h).equal ∙ ap (subtree_at f) e ∙ (all q m).equal

pub class_of_row : ClassOfRow
unfolding classes
class_of_row A w =
    let f = parse A w in
    let n = size-parse A w in (
      length-classes f ∙ n,
      λ p h.
          let a = class_first f p (omega (arith, n)) in
          (a, λ q b. first_same f p p q (get_or (classes_of f) p 0) b a refl),
    )

pub same_class : SameClass
unfolding classes
same_class A w p q h m =
    let f = parse A w in
    let a = class_first f p (omega (arith, size-parse A w)) in
    let b = class_first f q (omega (arith, size-parse A w)) in
    (λ e. sym a.equal ∙ ap (subtree_at f) e ∙ b.equal, λ e. first_same f p q (get_or (classes_of f) p 0) (get_or (classes_of f) q 0) a b e)

pub equal_subtrees : EqualSubtrees
unfolding classes
equal_subtrees A w p q h m =
    let f = parse A w in
    let c = classes_of f in
    let k : ℕ = size (subtree_at f p).children in
    let hp : p < size f = omega (arith, size-parse A w) in
    let hq : q < size f = omega (arith, size-parse A w) in (
      λ e. equal_sign f c k p q (first_told f c (class_first f) k) hp hq (omega arith) e,
      λ s. sign_equal f c k p q (first_tells f c (class_first f) k) hp hq (omega arith) s,
    )
