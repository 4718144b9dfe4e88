-- How the children of two positions are gone through side by side, and those of one are mixed.
-- Assumes nothing.
use Prim.Native.Nat.{ℕ, ◌+◌, ◌*◌, ◌/◌, ◌%◌, ◌≤◌, ◌<◌}
use mathlib.Core.Path.{◌≡◌, sym, ap, ◌∙◌, subst}
use mathlib.Core.List.{List, [], ◌∷◌}
use mathlib.Core.Logic.{◌↔◌}
use native.Mathlib.Nat.{mul-lt-mul_of_pos_right, div-lt_iff_lt-mul}
use native.Mathlib.Omega.{arith}
use lib.ListN.{length, get_or}
use Rattle.rows.specs.Tree.{Forest, Forest.none, Forest.grow, Tree, count, size, subtree_at}
use Rattle.rows.proofs.Tree.{no_trees}
use Rattle.rows.specs.Classes.{said, kids, SameSign}
use Rattle.classes.specs.Shown.{look, Shown, mixed, mixed_all, sign_of, shelf, Nowhere}
use Rattle.rows.proofs.Children.{Stands, kids_stand}
use Rattle.classes.proofs.Shown.{some_tree, no_node, Step, step}

-- from a and b on stand the children of p and q that were not gone through: what is said of all is the same exactly if it is
-- the same of those
pub record Facing (f : Forest) (c : List ℕ) (p q end a b : ℕ) : Type 0 where
  pub left : Forest
  pub right : Forest
  pub stands_left : Stands f a left
  pub stands_right : Stands f b right
  pub even : count left ≡ count right
  pub upto : a + size left ≡ end
  pub same : (kids f c p ≡ kids f c q) ↔ (said c a left ≡ said c b right)

-- both children stand in the row, and the next ones stand further on
pub record Both (w t : List ℕ) (a b : ℕ) : Type 0 where
  pub left : a < length w
  pub right : b < length w
  pub more : a < get_or t a 0
  pub more_right : b < get_or t b 0

module _ {f : Forest} {w t : List ℕ} (s : Shown f w t) (c : List ℕ) where
  pub facing_start : (p q : ℕ) → p < length w → q < length w → look w p ≡ look w q → Facing f c p q (get_or t p 0) (p + 1) (q + 1)
  facing_start p q h m e =
      record {
        left = (subtree_at f p).children;
        right = (subtree_at f q).children;
        stands_left = kids_stand f p (omega (arith, s.many));
        stands_right = kids_stand f q (omega (arith, s.many));
        even = s.arities p q h m e;
        upto = sym (s.ends p h);
        same = (λ x. x, λ x. x);
      }

  module _ {p q end a b : ℕ} (x : Facing f c p q end a b) where
    module _ (h : a < end) where
      first_left : Step f w t c x.left a
      first_left = step s c x.left a x.stands_left (some_tree x.left (omega (arith, x.upto)))

      first_right : Step f w t c x.right b
      first_right = step s c x.right b x.stands_right (omega (arith, x.even, some_tree x.left (omega (arith, x.upto))))

      pub facing_in : (a < length w) × (b < length w)
      facing_in = (first_left.inside, first_right.inside)

      pub facing_on : a < get_or t a 0
      facing_on = omega (arith, s.ends a first_left.inside)

      pub facing_both : Both w t a b
      facing_both = record { left = facing_in.0; right = facing_in.1; more = facing_on; more_right = omega (arith, s.ends b first_right.inside) }

      both_said : (get_or c a 0 ∷ said c (get_or t a 0) first_left.rest ≡ get_or c b 0 ∷ said c (get_or t b 0) first_right.rest)
          ↔ (kids f c p ≡ kids f c q)
      both_said =
          (λ e. x.same.1 (first_left.told ∙ e ∙ sym first_right.told), λ e. sym first_left.told ∙ x.same.0 e ∙ first_right.told)

      pub facing_miss : (get_or c a 0 ≡ get_or c b 0 → ⊥) → kids f c p ≡ kids f c q → ⊥
      facing_miss n e =
          let g = both_said.1 e in
          let k : get_or c a 0 ≡ get_or c b 0 = cc in
          n k

      pub facing_next : get_or c a 0 ≡ get_or c b 0 → Facing f c p q end (get_or t a 0) (get_or t b 0)
      facing_next e =
          record {
            left = first_left.rest;
            right = first_right.rest;
            stands_left = first_left.stands;
            stands_right = first_right.stands;
            even = omega (arith, x.even, first_left.fewer, first_right.fewer);
            upto = omega (arith, x.upto, first_left.far);
            same = (λ k. let g = both_said.1 k in cc, λ k. both_said.0 (cc));
          }

    pub facing_done : end ≤ a → kids f c p ≡ kids f c q
    unfolding said count
    facing_done h =
        let none_left : x.left ≡ none = no_node x.left (omega (arith, x.upto)) in
        let none_right : x.right ≡ none = no_trees x.right (omega (arith, x.even, ap count none_left)) in
        x.same.1 (ap (said c a) none_left ∙ sym (ap (said c b) none_right))

  pub signs_same : (p q : ℕ) → p < length w → q < length w → look w p ≡ look w q → kids f c p ≡ kids f c q → SameSign f c p q
  signs_same p q h m e k = record { symbol = sym (s.symbols p h) ∙ e ∙ s.symbols q m; children = k }

  pub signs_differ : (p q : ℕ) → p < length w → q < length w → (look w p ≡ look w q → ⊥) → SameSign f c p q → ⊥
  signs_differ p q h m n k = n (s.symbols p h ∙ k.symbol ∙ sym (s.symbols q m))

-- from a on stand the children of p that are not mixed in yet
pub record Mixing (f : Forest) (c : List ℕ) (p end a h : ℕ) : Type 0 where
  pub left : Forest
  pub stands : Stands f a left
  pub upto : a + size left ≡ end
  pub mixes : mixed_all h (said c a left) ≡ mixed_all (mixed 0 (subtree_at f p).symbol) (kids f c p)

module _ {f : Forest} {w t : List ℕ} (s : Shown f w t) (c : List ℕ) where
  pub mixing_start : (p h : ℕ) → p < length w → h ≡ mixed 0 (look w p) → Mixing f c p (get_or t p 0) (p + 1) h
  mixing_start p h m e =
      record {
        left = (subtree_at f p).children;
        stands = kids_stand f p (omega (arith, s.many));
        upto = sym (s.ends p m);
        mixes = ap (λ (n : ℕ). mixed_all n (kids f c p)) (e ∙ ap (mixed 0) (s.symbols p m));
      }

  module _ {p end a h : ℕ} (x : Mixing f c p end a h) where
    module _ (m : a < end) where
      first_tree : Step f w t c x.left a
      first_tree = step s c x.left a x.stands (some_tree x.left (omega (arith, x.upto)))

      pub mixing_next : Mixing f c p end (get_or t a 0) (mixed h (get_or c a 0))
      unfolding mixed_all
      mixing_next =
          record {
            left = first_tree.rest;
            stands = first_tree.stands;
            upto = omega (arith, x.upto, first_tree.far);
            mixes = ap (mixed_all h) (sym first_tree.told) ∙ x.mixes;
          }

    pub mixing_all : end ≤ a → h ≡ mixed_all (mixed 0 (subtree_at f p).symbol) (kids f c p)
    unfolding said mixed_all
    mixing_all m =
        let none_left : none ≡ x.left = sym (no_node x.left (omega (arith, x.upto))) in
        ap (λ (g : Forest). mixed_all h (said c a g)) none_left ∙ x.mixes

-- what is mixed is below 2 ^ 32
pub mixed-small : (h x : ℕ) → mixed h x < 4294967296
unfolding mixed
mixed-small h x = omega arith

pub mixed_all_small : (h : ℕ) (l : List ℕ) → h < 4294967296 → mixed_all h l < 4294967296
unfolding mixed_all
mixed_all_small h [] m = m
mixed_all_small h (x ∷ l) m = mixed_all_small (mixed h x) l (mixed-small h x)

pub sign_small : (f : Forest) (c : List ℕ) (p : ℕ) → sign_of f c p < 4294967296
unfolding sign_of
sign_small f c p = mixed_all_small (mixed 0 (subtree_at f p).symbol) (kids f c p) (mixed-small 0 (subtree_at f p).symbol)

-- a drawer is one of m
pub shelf-small : (m h : ℕ) → 0 < m → shelf m h < m
unfolding shelf
shelf-small m h a =
    let x : ℕ = (h + h / 32768) * 739982445 % 4294967296 in
    let less : x * m < 4294967296 * m = mul-lt-mul_of_pos_right (omega arith) a in
    (div-lt_iff_lt-mul {k = 4294967296} {x = x * m} {y = m} (omega arith)).1 (omega (arith, less))

-- from a on stand the children of p that were not looked at yet
pub record Looking (f : Forest) (P : ℕ → Type 0) (p end a : ℕ) : Type 0 where
  pub left : Forest
  pub stands : Stands f a left
  pub upto : a + size left ≡ end
  pub nowhere : Nowhere P a left → Nowhere P (p + 1) (subtree_at f p).children

record Ahead (f : Forest) (w t : List ℕ) (P : ℕ → Type 0) (p end a : ℕ) : Type 0 where
  pub inside : a < length w
  pub further : a < get_or t a 0
  pub looking : (P a → ⊥) → Looking f P p end (get_or t a 0)

pub nowhere_none : (P : ℕ → Type 0) (a : ℕ) (g : Forest) → size g ≡ 0 → Nowhere P a g
unfolding Nowhere
nowhere_none P a g e = subst (Nowhere P a) (sym (no_node g e)) tt

module _ {f : Forest} {w t : List ℕ} (s : Shown f w t) (P : ℕ → Type 0) where
  pub looking_start : (p : ℕ) → p < length w → Looking f P p (get_or t p 0) (p + 1)
  looking_start p h =
      record { left = (subtree_at f p).children; stands = kids_stand f p (omega (arith, s.many)); upto = sym (s.ends p h); nowhere = λ x. x }

  ahead : (p end a : ℕ) (g : Forest) → Stands f a g → a + size g ≡ end → (Nowhere P a g → Nowhere P (p + 1) (subtree_at f p).children) → a < end
      → Ahead f w t P p end a
  unfolding Stands Nowhere size
  ahead p end a none x u k m = absurd (omega arith)
  ahead p end a (grow y cs g) x u k m =
      let inside : a < length w = omega (arith, x.0, s.many) in
      let here : size (subtree_at f a).children ≡ size cs = ap (λ (u : Tree). size u.children) x.1 in
      let end_of : a + size cs + 1 ≡ get_or t a 0 = omega (arith, s.ends a inside) in
      record {
        inside = inside;
        further = omega arith;
        looking = λ none_here.
            record {
              left = g;
              stands = subst (λ (n : ℕ). Stands f n g) end_of x.2;
              upto = omega arith;
              nowhere = λ more. k (none_here, subst (λ (n : ℕ). Nowhere P n g) (sym end_of) more);
            };
      }

  module _ {p end a : ℕ} (x : Looking f P p end a) where
    module _ (m : a < end) where
      it : Ahead f w t P p end a
      it = ahead p end a x.left x.stands x.upto x.nowhere m

      pub looking_in : a < length w
      looking_in = it.inside

      pub looking_on : a < get_or t a 0
      looking_on = it.further

      pub looking_next : (P a → ⊥) → Looking f P p end (get_or t a 0)
      looking_next = it.looking

    pub looking_done : end ≤ a → Nowhere P (p + 1) (subtree_at f p).children
    looking_done m = x.nowhere (nowhere_none P a x.left (omega (arith, x.upto)))
