-- An accepted row and its table show its forest; and how the children of a subtree are gone through, by the table.
-- Assumes nothing.
use Prim.Native.Nat.{ℕ, ◌+◌, ◌<◌}
use mathlib.Core.Path.{◌≡◌, refl, sym, ap, ◌∙◌, subst}
use mathlib.Core.List.{List, ◌∷◌}
use native.Mathlib.Omega.{arith}
use lib.ListN.{length, get_or}
use Rattle.rows.specs.Tree.{Forest, Forest.none, Forest.grow, Tree, count, size, subtree_at}
use Rattle.rows.specs.Parse.{first, over, parse, behind}
use Rattle.rows.specs.Row.{allowed}
use Rattle.rows.specs.declared.Leaves.TheVariants.{Symbols}
use Rattle.rows.proofs.Tree.{count-first}
use Rattle.rows.proofs.Parse.{size-parse}
use Rattle.rows.proofs.Behind.{behind-over, enough_behind}
use Rattle.rows.proofs.Entry.{entry_at}
use Rattle.rows.proofs.Subtrees.{subtree_first}
use Rattle.tables.specs.Given.{Right}
use Rattle.tables.proofs.Given.{right_entry}
use Rattle.rows.specs.Classes.{said}
use Rattle.classes.specs.Shown.{Shown}
use Rattle.rows.proofs.Children.{Stands}

-- the symbol of the subtree at p, and its children: the first trees behind p
subtree_parts : (A w : List ℕ) (p : ℕ) → p < length w
    → ((subtree_at (parse A w) p).symbol ≡ get_or w p 0)
    × ((subtree_at (parse A w) p).children ≡ first (get_or A (get_or w p 0) 0) (behind A w (p + 1)))
unfolding over first
subtree_parts A w p h =
    let t = subtree_at (parse A w) p in
    let g = behind A w (p + 1) in
    let a : ℕ = get_or A (get_or w p 0) 0 in
    let e : grow t.symbol t.children none ≡ grow (get_or w p 0) (first a g) none = sym (subtree_first A w p h) ∙ ap (first 1) (behind-over A w p h) in
    let x : t.symbol ≡ get_or w p 0 = cc in
    let y : t.children ≡ first a g = cc in
    (x, y)

count-kids : (A w t : List ℕ) → Right A w t → (p : ℕ) → p < length w → count (subtree_at (parse A w) p).children ≡ get_or A (get_or w p 0) 0
count-kids A w t r p h =
    let a : ℕ = get_or A (get_or w p 0) 0 in
    ap count (subtree_parts A w p h).1
    ∙ count-first a (behind A w (p + 1)) (enough_behind A (allowed Symbols A) w 1 0 r.accepted p h)

pub right_shown : (A w t : List ℕ) → Right A w t → Shown (parse A w) w t
right_shown A w t r =
    record {
      most = r.sized.most;
      fits = r.sized.fits;
      many = size-parse A w;
      symbols = λ p h. sym (subtree_parts A w p h).0;
      ends = λ p h. right_entry A w t r p h ∙ entry_at A w p h ∙ ap (λ (g : Forest). p + 1 + size g) (sym (subtree_parts A w p h).1);
      arities = λ p q h m e. count-kids A w t r p h ∙ ap (λ (s : ℕ). get_or A s 0) e ∙ sym (count-kids A w t r q m);
    }

-- a forest that has nodes has trees
pub some_tree : (g : Forest) → 0 < size g → 0 < count g
unfolding size count
some_tree none h = absurd (omega arith)
some_tree (grow s cs g) h = omega arith

pub no_node : (g : Forest) → size g ≡ 0 → g ≡ none
unfolding size
no_node none h = refl
no_node (grow s cs g) h = absurd (omega arith)

-- from one tree of a forest on to the next, by the table
pub record Step (f : Forest) (w t c : List ℕ) (g : Forest) (a : ℕ) : Type 0 where
  pub rest : Forest
  pub stands : Stands f (get_or t a 0) rest
  pub inside : a < length w
  pub fewer : count g ≡ count rest + 1
  pub far : get_or t a 0 + size rest ≡ a + size g
  pub told : said c a g ≡ get_or c a 0 ∷ said c (get_or t a 0) rest

pub step : {f : Forest} {w t : List ℕ} → Shown f w t → (c : List ℕ) (g : Forest) (a : ℕ) → Stands f a g → 0 < count g → Step f w t c g a
unfolding Stands said count size
step s c none a x h = absurd (omega arith)
step {f} {w} {t} s c (grow y cs g) a x h =
    let inside : a < length w = omega (arith, x.0, s.many) in
    let here : size (subtree_at f a).children ≡ size cs = ap (λ (u : Tree). size u.children) x.1 in
    let end : a + size cs + 1 ≡ get_or t a 0 = omega (arith, s.ends a inside) in
    record {
      rest = g;
      stands = subst (λ (n : ℕ). Stands f n g) end x.2;
      inside = inside;
      fewer = refl;
      far = omega arith;
      told = ap (λ (n : ℕ). get_or c a 0 ∷ said c n g) end;
    }
