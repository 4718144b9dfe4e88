-- Inside: no public contract cites what stands in this file, and no reader has to believe it.
-- How classes are filled in: from right to left each subtree gets the place of its last occurrence; then from left to right the
-- last places become first ones. A place holds a number below 2 ^ 14, and in two more bits what it is for now.
use Rattle.std.specs.Prelude.{ℕ, suc, ◌+◌, ◌-◌, ◌%◌, ◌≤◌, ◌<◌, ◌≡◌, List, [], ◌∷◌, map, ltb, length, get_or, drop, Option, Some, None}
use Rattle.rows.specs.Tree.{Forest, Tree, size, subtrees, subtree_at}
use Rattle.rows.specs.Row.{pick}
use Rattle.rows.specs.Classes.{FirstEqual, place_of, kids, SameSign}
use Rattle.classes.specs.Shown.{mixed, mixed_all, sign_of, shelf, Bare, Nowhere}
use Rattle.classes.specs.declared.Sought.{Sought}
use Rattle.classes.specs.declared.Sought.TheVariants.{Told, Sign}

-- q is the last position of the forest whose subtree is equal to the one at p
pub record LastEqual (f : Forest) (p q : ℕ) : Type 0 where
  pub from : p ≤ q
  pub before : q < size f
  pub equal : subtree_at f q ≡ subtree_at f p
  pub last : (r : ℕ) → q < r → r < size f → subtree_at f r ≡ subtree_at f p → ⊥

-- the place of the last tree of a list that is equal to t, 0 if there is none
unfoldable pub last_place : Tree → List Tree → ℕ
last_place t [] = 0
last_place t (u ∷ l) = pick (ltb (place_of t l) (length l)) (suc (last_place t l)) 0

-- for each subtree of a forest, in prefix order, the last place among them where it stands
unfoldable pub lasts_of : Forest → List ℕ
lasts_of f = map (λ (t : Tree). last_place t (subtrees f)) (subtrees f)

abbrev pub last_of : Forest → ℕ → ℕ
last_of f x = get_or (lasts_of f) x 0

-- The drawer for the symbol at p and the last places of its children: one of 512 for a leaf, by its symbol, and one of m more for
-- all others.
unfoldable pub drawer : ℕ → ℕ → List ℕ → ℕ
drawer m s [] = s % 512
drawer m s (x ∷ l) = 512 + shelf m (mixed_all (mixed 0 s) (x ∷ l))

abbrev pub last_drawer : ℕ → Forest → ℕ → ℕ
last_drawer m f p = drawer m (subtree_at f p).symbol (kids f (lasts_of f) p)

-- The entry at x: the last place of its subtree; or, at that place itself, 2 ^ 15 and a link.
pub record Kept (f : Forest) (c : List ℕ) (x : ℕ) : Type 0 where
  pub most : get_or c x 0 < 49152
  pub follower : get_or c x 0 < 32768 → get_or c x 0 ≡ last_of f x
  pub behind : get_or c x 0 < 32768 → x < last_of f x
  pub leader : 32768 ≤ get_or c x 0 → last_of f x ≡ x

-- the last place that such an entry stands for
abbrev pub id_of : List ℕ → ℕ → ℕ
id_of c x = pick (ltb (get_or c x 0) 32768) (get_or c x 0) x

-- from position k on, before n, the entries stand for last places
abbrev pub Ids : Forest → List ℕ → ℕ → ℕ → Type 0
Ids f c n k = (x : ℕ) → k ≤ x → x < n → id_of c x ≡ last_of f x

-- a head or a link: none, which is 0, or a position from k on that is a last place
pub record Link (f : Forest) (k v : ℕ) : Type 0 where
  pub from : 0 < v → k ≤ v
  pub before : 0 < v → v < size f
  pub itself : 0 < v → last_of f v ≡ v

-- the chain from x on comes to q
pub data Comes (c : List ℕ) : ℕ → ℕ → Type 0 where
  here : {x : ℕ} → 0 < x → Comes c x x
  next : {x q : ℕ} → 0 < x → x < get_or c x 0 - 32768 → Comes c (get_or c x 0 - 32768) q → Comes c x q

-- from position k on the entries are kept
abbrev pub Keeps : Forest → List ℕ → ℕ → Type 0
Keeps f c k = (x : ℕ) → k ≤ x → x < size f → Kept f c x

-- From position k on the entries are kept, and each bare last place is found in the chain of its drawer (but for k = 0, since a
-- head that is 0 leads nowhere; then none is looked for).
pub record Lasting (f : Forest) (c heads : List ℕ) (m k : ℕ) : Type 0 where
  pub kept : Keeps f c k
  pub opens : (h : ℕ) → Link f k (get_or heads h 0)
  pub links : (r : ℕ) → k ≤ r → r < size f → last_of f r ≡ r → Link f (r + 1) (get_or c r 0 - 32768)
  pub found : 0 < k → (q : ℕ) → k ≤ q → q < size f → last_of f q ≡ q → Bare f (lasts_of f) q → Comes c (get_or heads (last_drawer m f q) 0) q

-- from position k on the first last place is v, which is past the forest if there is none
pub record Newest (f : Forest) (k v : ℕ) : Type 0 where
  pub from : k ≤ v
  pub itself : v < size f → last_of f v ≡ v
  pub clear : (x : ℕ) → k ≤ x → x < v → x < size f → last_of f x ≡ x → ⊥

-- the subtree of p stands again behind it, for the last time at r
pub record Again (f : Forest) (p r : ℕ) : Type 0 where
  pub behind : p < r
  pub before : r < size f
  pub itself : last_of f r ≡ r
  pub sign : SameSign f (lasts_of f) p r

-- and that is where the last place of a, below p, says
pub record Twin (f : Forest) (p a : ℕ) : Type 0 where
  pub place : ℕ
  pub there : place + a ≡ last_of f a + p
  pub again : Again f p place

-- what is found for p among the places that its children tell: one, or the sign of p
abbrev pub Seeks : Forest → ℕ → Sought → Type 0
Seeks f p (Told r) = Again f p r
Seeks f p (Sign h) = (h ≡ sign_of f (lasts_of f) p) × Nowhere (Twin f p) (p + 1) (subtree_at f p).children

-- what is found for p in the chain from x on
abbrev pub Finds : Forest → List ℕ → ℕ → ℕ → Option ℕ → Type 0
Finds f c p x (Some r) = Again f p r
Finds f c p x None = (q : ℕ) → Comes c x q → SameSign f (lasts_of f) p q → ⊥

-- so many for a short row, and for any other
abbrev pub few_heads : ℕ
few_heads = 576

abbrev pub many_heads : ℕ
many_heads = 2560

-- room for drawers: those for leaves, and some more
pub record Drawers (heads : List ℕ) : Type 0 where
  pub some : 512 < length heads
  pub most : length heads ≤ 16384

-- from position p on the entries are filled in, and the first last place is v; there are m drawers besides those for leaves
pub record Placed (f : Forest) (c heads : List ℕ) (m p v : ℕ) : Type 0 where
  pub lasting : Lasting f c heads m p
  pub newest : Newest f p v

-- behind p they are; p is bare, does not stand again where its children tell, and has the drawer h
pub record Open (f : Forest) (c heads : List ℕ) (m p v h : ℕ) : Type 0 where
  pub placed : Placed f c heads m (p + 1) v
  pub bare : p + 1 + size (subtree_at f p).children ≤ v
  pub nowhere : Nowhere (Twin f p) (p + 1) (subtree_at f p).children
  pub drawer : h ≡ last_drawer m f p

-- a list of numbers is rewritten before place n alone
pub record Rewrote (n : ℕ) (c c' : List ℕ) : Type 0 where
  pub long : length c' ≡ length c
  pub stays : drop n c' ≡ drop n c

-- The entry v at the last place x, in the second pass, when the positions before p are done: no subtree before p is equal; or
-- 2 ^ 15 and 2 ^ 14 and the first place.
pub record Lead (f : Forest) (v x p : ℕ) : Type 0 where
  pub low : 32768 ≤ v
  pub new : v < 49152 → (y : ℕ) → y < p → subtree_at f y ≡ subtree_at f x → ⊥
  pub old : 49152 ≤ v → FirstEqual f x (v - 49152)
  pub past : 49152 ≤ v → v - 49152 ≤ p

pub record Naming (f : Forest) (c : List ℕ) (p : ℕ) : Type 0 where
  pub done : (x : ℕ) → x < p → FirstEqual f x (get_or c x 0)
  pub follow : (x : ℕ) → p ≤ x → x < size f → x < last_of f x → get_or c x 0 ≡ last_of f x
  pub lead : (x : ℕ) → p ≤ x → x < size f → last_of f x ≡ x → Lead f (get_or c x 0) x p

-- position p is to be named in a list that has room for the forest's
pub record Nameable (f : Forest) (c : List ℕ) (p : ℕ) : Type 0 where
  pub naming : Naming f c p
  pub inside : p < size f
  pub small : size f ≤ 16384
  pub room : size f ≤ length c

-- it is named, and places past the forest's are left
pub record Named (f : Forest) (c c' : List ℕ) (p : ℕ) : Type 0 where
  pub naming : Naming f c' (p + 1)
  pub rewrote : Rewrote (size f) c c'

-- all positions from 0 up to n are named
pub record AllNamed (f : Forest) (c c' : List ℕ) (n : ℕ) : Type 0 where
  pub naming : Naming f c' n
  pub rewrote : Rewrote n c c'
