-- Inside: no public contract cites what stands in this file, and no reader has to believe it.
-- By what a list shows from left to right that it is the classes of a forest: a subtree that was there before is compared with
-- that one, as parts of the row and of the list, and skipped; and of the positions that name themselves only the bare ones, with
-- none below them, are looked up.
use Rattle.std.specs.Prelude.{ℕ, ◌+◌, ◌-◌, ◌≤◌, ◌<◌, ◌≡◌, List, Bool, true, false, length, get_or, take, Option, Some, None}
use Rattle.rows.specs.Tree.{Forest, subtree_at}
use Rattle.rows.specs.Classes.{classes, SameSign}
use Rattle.rows.specs.declared.Programme.{Programme as Lent}
use Rattle.classes.specs.Shown.{Shown, Seen, sign_of, shelf, Bare, Nowhere}

-- the answer to a question, of which only a yes says something
abbrev pub Grants : Bool → Type 0 → Type 0
Grants true X = X
Grants false X = Unit {0}

-- the list c starts with the classes of the row
abbrev pub Starts : List ℕ → List ℕ → List ℕ → Type 0
Starts A w c = take (length w) c ≡ classes A w

-- a programme shows a forest, by its row and its table
abbrev pub Shows : Forest → Lent → Type 0
Shows f p = Shown f p.row.now p.table.now

-- it shows some forest, and has a class for each position
abbrev pub SeenIn : Lent → Type 0
SeenIn p = Seen p.row.now p.table.now p.classes.now

-- a list that leads nowhere
abbrev pub Blank : List ℕ → Type 0
Blank l = (h : ℕ) → get_or l h 0 ≡ 0

-- before n: no entry is past its position, and it names a position that names itself and has the same sign
pub record Local (f : Forest) (c : List ℕ) (n : ℕ) : Type 0 where
  pub upto : (x : ℕ) → x < n → get_or c x 0 ≤ x
  pub leads : (x : ℕ) → x < n → get_or c (get_or c x 0) 0 ≡ get_or c x 0
  pub same : (x : ℕ) → x < n → SameSign f c x (get_or c x 0)

-- n places of the list from p on, and from q on, are the same
abbrev pub SamePart : List ℕ → ℕ → ℕ → ℕ → Type 0
SamePart l p q n = (i : ℕ) → i < n → get_or l (p + i) 0 ≡ get_or l (q + i) 0

-- n places from p on were there before, from q on
pub record Repeat (w c : List ℕ) (p q n : ℕ) : Type 0 where
  pub before : q < p
  pub symbols : SamePart w p q n
  pub classes : SamePart c p q n

-- the subtree at p was there before, at q, and ends at r
abbrev pub Skips : List ℕ → List ℕ → List ℕ → ℕ → ℕ → Option ℕ → Type 0
Skips w t c p q (Some r) = Repeat w c p q (get_or t p 0 - p) × (r ≡ get_or t p 0)
Skips w t c p q None = Unit {0}

-- a position before p that names itself and has the sign of p, and stands where the entry of a, below p, says
pub record Twin (f : Forest) (c : List ℕ) (p a : ℕ) : Type 0 where
  pub place : ℕ
  pub there : place + a ≡ get_or c a 0 + p
  pub before : place < p
  pub itself : get_or c place 0 ≡ place
  pub sign : SameSign f c p place

-- the sign of p is not that of a bare position before it, nor of one where the entries of its children say
pub record New (f : Forest) (c : List ℕ) (p : ℕ) : Type 0 where
  pub bare : (q : ℕ) → q < p → get_or c q 0 ≡ q → Bare f c q → SameSign f c p q → ⊥
  pub twins : Nowhere (Twin f c p) (p + 1) (subtree_at f p).children

-- the sign of p, which has no twin
abbrev pub Signs : Forest → List ℕ → ℕ → Option ℕ → Type 0
Signs f c p (Some h) = (h ≡ sign_of f c p) × Nowhere (Twin f c p) (p + 1) (subtree_at f p).children
Signs f c p None = Unit {0}

-- Chains to the left: a head or a link is 0, or one more than a position; the chain from x on comes to q.
pub data Falls (l : List ℕ) : ℕ → ℕ → Type 0 where
  here : {x q : ℕ} → x ≡ q + 1 → Falls l x q
  next : {x q : ℕ} → 0 < x → Falls l (get_or l (x - 1) 0) q → Falls l x q

-- the bare positions before k are found in the chains of their drawers, of which there are m
pub record Falling (f : Forest) (c heads l : List ℕ) (m k : ℕ) : Type 0 where
  pub opens : (h : ℕ) → get_or heads h 0 ≤ k
  pub links : (r : ℕ) → get_or l r 0 ≤ r
  pub found : (q : ℕ) → q < k → get_or c q 0 ≡ q → Bare f c q → Falls l (get_or heads (shelf m (sign_of f c q)) 0) q

-- room for the chains of a row of n symbols
pub record Space (heads l : List ℕ) (n : ℕ) : Type 0 where
  pub some : 0 < length heads
  pub most : length heads ≤ 16384
  pub places : n ≤ length l

-- the sign of p is not seen in the chain from x on
abbrev pub Unseen : Forest → List ℕ → List ℕ → ℕ → ℕ → Type 0
Unseen f c l p x = (q : ℕ) → Falls l x q → SameSign f c p q → ⊥

-- before k the bare positions are new, and are in the chains
pub record Entered (f : Forest) (c heads l : List ℕ) (m k : ℕ) : Type 0 where
  pub falling : Falling f c heads l m k
  pub new : (q : ℕ) → q < k → get_or c q 0 ≡ q → Bare f c q → New f c q

-- before p all is right, and the last position that names itself is `last`
pub record Reached (f : Forest) (c : List ℕ) (last p : ℕ) : Type 0 where
  pub rightly : Local f c p
  pub before : last < p
  pub itself : get_or c last 0 ≡ last
  pub between : (x : ℕ) → last < x → x < p → get_or c x 0 ≡ x → ⊥

-- no position from `start` on before k is bare
abbrev pub Unbare : Forest → List ℕ → ℕ → ℕ → Type 0
Unbare f c start k = (q : ℕ) → start ≤ q → q < k → get_or c q 0 ≡ q → Bare f c q → ⊥

-- p names itself, and no end in the table is past the n entries that there are of both
pub record Rooted (t c : List ℕ) (p : ℕ) : Type 0 where
  pub length_of : ℕ
  pub most : length_of ≤ 16384
  pub table : length_of ≤ length t
  pub entries : length_of ≤ length c
  pub ends : (x : ℕ) → x < length_of → get_or t x 0 ≤ length_of
  pub inside : p < length_of
  pub itself : get_or c p 0 ≡ p

-- from p up to r each position names itself and has the next one below it
pub record Run (t c : List ℕ) (p r : ℕ) : Type 0 where
  pub from : p ≤ r
  pub itself : (x : ℕ) → p ≤ x → x ≤ r → get_or c x 0 ≡ x
  pub below : (x : ℕ) → p ≤ x → x < r → x + 1 < get_or t x 0

-- such a run has come to q, in a row of n symbols
pub record Along (t c : List ℕ) (n p q : ℕ) : Type 0 where
  pub run : Run t c p q
  pub root : Rooted t c q
  pub row : root.length_of ≡ n

-- from `start` on, which names itself: the next position that is bare, and the next behind it that names itself, or the row's end
abbrev pub Nexts : Forest → List ℕ → ℕ → ℕ → Option (ℕ × ℕ) → Type 0
Nexts f c n start (Some (last, r)) = (start < r) × (r ≤ n) × (r < n → get_or c r 0 ≡ r) × (start ≤ last) × Reached f c last r × Unbare f c start last
Nexts f c n start None = Unit {0}
