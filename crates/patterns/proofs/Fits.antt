-- What it is to match, without the positions of the blanks: the trees of the variables alone decide.
-- Assumes nothing.
use Prim.Native.Nat.{ℕ, ◌+◌, ◌≤◌, ◌<◌}
use mathlib.Core.Path.{◌≡◌, refl, ap}
use native.Mathlib.Omega.{arith}
use borrow.Author.Tests.{lt-ltb, le-ltb, eq-eqb, ne_eqb}
use lib.Dec.{ltb, eqb}
use Rattle.rows.specs.Tree.{Forest, Forest.none, Forest.grow, Tree, single, size}
use Rattle.rows.specs.Row.{pick}
use Rattle.patterns.specs.Pattern.{leaf, Choice, before, plug, filled, Match}
use Rattle.patterns.specs.declared.Leaf.{Leaf}
use Rattle.patterns.specs.declared.Leaf.TheVariants.{Plain, Blank, Variable}

-- the pattern's first number s, by its kind, over the first tree, whose symbol is t and whose children are ds
abbrev pub FitsLeaf : (ℕ → Tree) → ℕ → ℕ → Forest → Type 0 → Leaf → Type 0
FitsLeaf v s t ds inside Plain = (s ≡ t) × inside
FitsLeaf v s t ds inside Blank = Unit {0}
FitsLeaf v s t ds inside (Variable i) = v i ≡ record { symbol = t; children = ds }

-- the pattern's forest fits the forest if each variable i stands for the tree `v i`
unfoldable pub Fits : (ℕ → Tree) → Forest → Forest → Type 0
Fits v none none = Unit {0}
Fits v none (grow t ds g) = ⊥
Fits v (grow s cs f) none = ⊥
Fits v (grow s cs f) (grow t ds g) = FitsLeaf v s t ds (Fits v cs ds) (leaf s) × Fits v f g

-- from a choice
fits_of_leaf : (ch : Choice) (b s t : ℕ) (cs f ds g : Forest) (l : Leaf) → (filled ch (b + 1) cs ≡ ds → Fits ch.for_variable cs ds)
    → plug ch b s l (filled ch (b + 1) cs) f ≡ grow t ds g → FitsLeaf ch.for_variable s t ds (Fits ch.for_variable cs ds) l × (f ≡ g)
fits_of_leaf ch b s t cs f ds g Plain ih q = ((cc, ih (cc)), cc)
fits_of_leaf ch b s t cs f ds g Blank ih q = (tt, cc)
fits_of_leaf ch b s t cs f ds g (Variable i) ih q =
    let sy : (ch.for_variable i).symbol ≡ t = cc in
    let below : (ch.for_variable i).children ≡ ds = cc in
    (λ k. record { symbol = sy k; children = below k }, cc)

plug_some : (ch : Choice) (b s : ℕ) (cs f : Forest) (l : Leaf) → plug ch b s l cs f ≡ none → ⊥
plug_some ch b s cs f Plain q = let z : ◌≡◌ {A = ℕ} 0 1 = cc in omega arith
plug_some ch b s cs f Blank q = let z : ◌≡◌ {A = ℕ} 0 1 = cc in omega arith
plug_some ch b s cs f (Variable i) q = let z : ◌≡◌ {A = ℕ} 0 1 = cc in omega arith

fits_of : (ch : Choice) (b : ℕ) (P G : Forest) → filled ch b P ≡ G → Fits ch.for_variable P G
unfolding Fits filled
fits_of ch b none none q = tt
fits_of ch b none (grow t ds g) q = let z : ◌≡◌ {A = ℕ} 0 1 = cc in omega arith
fits_of ch b (grow s cs f) none q = plug_some ch b s _ _ (leaf s) q
fits_of ch b (grow s cs f) (grow t ds g) q =
    let r = fits_of_leaf ch b s t cs (filled ch (b + size cs + 1) f) ds g (leaf s) (fits_of ch (b + 1) cs ds) q in
    (r.0, fits_of ch (b + size cs + 1) f g r.1)

-- to a choice: the trees that the pattern's positions face, from position b on
blanks : Forest → Forest → ℕ → ℕ → Tree
blanks none G b k = record { symbol = 0; children = none }
blanks (grow s cs f) none b k = record { symbol = 0; children = none }
blanks (grow s cs f) (grow t ds g) b k =
    pick (eqb k b) (record { symbol = t; children = ds })
    (pick (ltb k (b + size cs + 1)) (blanks cs ds (b + 1) k) (blanks f g (b + size cs + 1) k))

module _ (v : ℕ → Tree) (B : ℕ → Tree) where
  abbrev chosen : Choice
  chosen = record { for_blank = B; for_variable = v }

  plug-leaf : (b s t : ℕ) (cs' cs ds g : Forest) (l : Leaf) → B b ≡ record { symbol = t; children = ds } → (Fits v cs ds → cs' ≡ ds)
      → FitsLeaf v s t ds (Fits v cs ds) l → plug chosen b s l cs' g ≡ grow t ds g
  plug-leaf b s t cs' cs ds g Plain here ih h = cc (h.0, ih h.1)
  plug-leaf b s t cs' cs ds g Blank here ih h = ap (λ (u : Tree). before u g) here
  plug-leaf b s t cs' cs ds g (Variable i) here ih h = ap (λ (u : Tree). before u g) h

  filled_of : (b : ℕ) (P G : Forest) → ((k : ℕ) → b ≤ k → k < b + size P → B k ≡ blanks P G b k) → Fits v P G → filled chosen b P ≡ G
  unfolding Fits filled blanks size
  filled_of b none none a h = refl
  filled_of b none (grow t ds g) a h = absurd h
  filled_of b (grow s cs f) none a h = absurd h
  filled_of b (grow s cs f) (grow t ds g) a h =
      let here : B b ≡ record { symbol = t; children = ds } = simp (eq-eqb b b refl) at (a b (omega arith) (omega arith)) in
      let rest : filled chosen (b + size cs + 1) f ≡ g =
      filled_of (b + size cs + 1) f g (λ k l m. simp (ne_eqb k b (omega arith), le-ltb k (b + size cs + 1) (omega arith)) at (a k (omega arith) (omega arith))) h.1 in
      rw rest
      (plug-leaf b s t (filled chosen (b + 1) cs) cs ds g (leaf s) here
      (filled_of (b + 1) cs ds (λ k l m. simp (ne_eqb k b (omega arith), lt-ltb k (b + size cs + 1) (omega arith)) at (a k (omega arith) (omega arith))))
      h.0)

-- a pattern matches exactly if it fits for some trees of the variables
pub fits_matches : (v : ℕ → Tree) (P t : Tree) → Fits v (single P) (single t) → Match P t
fits_matches v P t h =
    record {
      choice = chosen v (blanks (single P) (single t) 0);
      turns = filled_of v (blanks (single P) (single t) 0) 0 (single P) (single t) (λ k l m. refl) h;
    }

pub matches_fits : (P t : Tree) (m : Match P t) → Fits m.choice.for_variable (single P) (single t)
matches_fits P t m = fits_of m.choice 0 (single P) (single t) m.turns
