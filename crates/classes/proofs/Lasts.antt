-- Laws of the last places, and of the chains of them.
-- Assumes nothing.
use Prim.Native.Nat.{ℕ, zero, suc, ◌+◌, ◌-◌, ◌≤◌, ◌<◌}
use mathlib.Core.Path.{◌≡◌, refl, sym, ap, ◌∙◌, subst}
use mathlib.Core.List.{List, [], ◌∷◌}
use mathlib.Core.Bool.{Bool, true, false}
use native.Mathlib.Decide.{dec_lt}
use native.Mathlib.Omega.{arith}
use borrow.Author.Tests.{lt-ltb, ltb-true, ltb-false}
use lib.Dec.{ltb}
use lib.ListN.{length, get_or, set}
use lib.Seq.{get_or-set_other}
use Rattle.rows.specs.Tree.{Forest, Forest.none, Forest.grow, Tree, single, size, subtrees, subtree_at}
use Rattle.rows.specs.Row.{pick}
use Rattle.rows.proofs.Subtrees.{length-subtrees}
use Rattle.rows.specs.Classes.{alike, place_of, SameSign}
use Rattle.classes.specs.Shown.{Says, Bare, Nowhere}
use Rattle.classes.specs.Lasts.{LastEqual, last_place, lasts_of, last_of, Kept, Keeps, id_of, Ids, Link, Comes, Comes.here, Comes.next, Lasting, Again, Twin}
use Rattle.rows.proofs.Alike.{bud, alike_equal, place-first, get_d_map}
use Rattle.rows.proofs.Classes.{sign_equal, equal_sign}
use Rattle.rows.proofs.Children.{Stands, kids_stand}
use Rattle.classes.proofs.Within.{fits_within, within_equal}

-- the last place is that of an equal tree, where there is one, and none stands behind it
record Ends (t : Tree) (l : List Tree) (k : ℕ) : Type 0 where
  within : k < length l
  equal : get_or l k bud ≡ t

ends_here : (t u : Tree) (l : List Tree) (b : Bool) → ltb (place_of t l) (length l) ≡ b → (place_of t l < length l → Ends t l (last_place t l))
    → place_of t (u ∷ l) < length (u ∷ l) → Ends t (u ∷ l) (pick b (suc (last_place t l)) 0)
unfolding place_of
ends_here t u l true e later h =
    let r = later (ltb-true (place_of t l) (length l) e) in
    record { within = omega (arith, r.within); equal = r.equal }
ends_here t u l false e later h = record { within = omega arith; equal = go (alike (single t) (single u)) refl h }
  where
    go : (b : Bool) → alike (single t) (single u) ≡ b → pick b 0 (suc (place_of t l)) < length (u ∷ l) → u ≡ t
    go true x m = sym (alike_equal t u x)
    go false x m = absurd (omega (arith, ltb-false (place_of t l) (length l) e))

last_ends : (t : Tree) (l : List Tree) → place_of t l < length l → Ends t l (last_place t l)
unfolding last_place
last_ends t [] h = absurd (omega arith)
last_ends t (u ∷ l) h = ends_here t u l (ltb (place_of t l) (length l)) refl (last_ends t l) h

last_last : (t : Tree) (l : List Tree) (k : ℕ) → k < length l → get_or l k bud ≡ t → k ≤ last_place t l
unfolding last_place
last_last t [] k h e = absurd (omega arith)
last_last t (u ∷ l) zero h e = omega arith
last_last t (u ∷ l) (suc k) h e =
    let low = place-first t l k (omega arith) e in
    simp (lt-ltb (place_of t l) (length l) (omega arith)) (omega (arith, last_last t l k (omega arith) e))

pub last_equal : (f : Forest) (p : ℕ) → p < size f → LastEqual f p (last_of f p)
unfolding lasts_of
last_equal f p h =
    let ts = subtrees f in
    let in_list : p < length ts = omega (arith, length-subtrees f) in
    let t = get_or ts p bud in
    let e = last_ends t ts (omega (arith, place-first t ts p in_list refl)) in
    subst (LastEqual f p) (sym (get_d_map (λ (u : Tree). last_place u ts) ts p in_list))
    (record {
      from = last_last t ts p in_list refl;
      before = omega (arith, e.within, length-subtrees f);
      equal = e.equal;
      last = λ r m b x. omega (arith, last_last t ts r (omega (arith, length-subtrees f)) x);
    })

-- equal subtrees have the same last place, and the other way round
pub last_same : (f : Forest) (p q : ℕ) → p < size f → q < size f → subtree_at f p ≡ subtree_at f q → last_of f p ≡ last_of f q
last_same f p q h m e = go (dec_lt (last_of f p) (last_of f q)) (dec_lt (last_of f q) (last_of f p))
  where
    a : LastEqual f p (last_of f p)
    a = last_equal f p h

    b : LastEqual f q (last_of f q)
    b = last_equal f q m

    go : Dec (last_of f p < last_of f q) → Dec (last_of f q < last_of f p) → last_of f p ≡ last_of f q
    go (yes x) y = absurd (a.last (last_of f q) x b.before (b.equal ∙ sym e))
    go (no x) (yes y) = absurd (b.last (last_of f p) y a.before (a.equal ∙ e))
    go (no x) (no y) = omega arith

pub same_last : (f : Forest) (p q : ℕ) → p < size f → q < size f → last_of f p ≡ last_of f q → subtree_at f p ≡ subtree_at f q
same_last f p q h m e = sym (last_equal f p h).equal ∙ ap (subtree_at f) e ∙ (last_equal f q m).equal

pub last_twice : (f : Forest) (p : ℕ) → p < size f → last_of f (last_of f p) ≡ last_of f p
last_twice f p h = let a = last_equal f p h in last_same f (last_of f p) p a.before h a.equal

-- signs by last places tell the subtrees
pub sign_tree : (f : Forest) (p q : ℕ) → p < size f → q < size f → SameSign f (lasts_of f) p q → subtree_at f p ≡ subtree_at f q
sign_tree f p q h m s =
    let k : ℕ = size (subtree_at f p).children in
    sign_equal f (lasts_of f) k p q (λ x y a b d e. same_last f x y a b e) h m (omega arith) s

pub tree_sign : (f : Forest) (p q : ℕ) → p < size f → q < size f → subtree_at f p ≡ subtree_at f q → SameSign f (lasts_of f) p q
tree_sign f p q h m e =
    let k : ℕ = size (subtree_at f p).children in
    equal_sign f (lasts_of f) k p q (λ x y a b d i. last_same f x y a b i) h m (omega arith) e

-- where something below a is a last place, so is a
pub last_up : (f : Forest) (a i : ℕ) → a < size f → i < 1 + size (subtree_at f a).children → last_of f (a + i) ≡ a + i → last_of f a ≡ a
last_up f a i h m e = go (dec_lt a (last_of f a))
  where
    z : LastEqual f a (last_of f a)
    z = last_equal f a h

    go : Dec (a < last_of f a) → last_of f a ≡ a
    go (no l) = omega (arith, z.from)
    go (yes l) =
        let b : ℕ = last_of f a in
        let sizes : size (subtree_at f b).children ≡ size (subtree_at f a).children = ap (λ (t : Tree). size t.children) z.equal in
        let same : subtree_at f (b + i) ≡ subtree_at f (a + i) = sym (within_equal f a b i h z.before (sym z.equal) m) in
        let k = last_equal f (a + i) (omega (arith, fits_within f a h)) in
        absurd (k.last (b + i) (omega arith) (omega (arith, fits_within f b z.before)) same)

-- Where p stands again at r: if a position below r is a last place, so is a child of r, and the last place of the child of p at the
-- same offset tells r.
twin_found : (f : Forest) (p r : ℕ) → Again f p r → (g : Forest) (d x : ℕ) → Stands f (p + d) g → Stands f (r + d) g → r + d ≤ x → x < r + d + size g
    → last_of f x ≡ x → Nowhere (Twin f p) (p + d) g → ⊥
unfolding Stands Nowhere size
twin_found f p r s none d x u v a b i t = omega arith
twin_found f p r s (grow y cs g) d x u v a b i t =
    go (dec_lt x (r + d + size cs + 1))
    (λ h. twin_found f p r s g (d + size cs + 1) x (subst (λ (n : ℕ). Stands f n g) pd u.2) (subst (λ (n : ℕ). Stands f n g) rd v.2) (omega arith) (omega arith) i
    (subst (λ (n : ℕ). Nowhere (Twin f p) n g) pd t.1))
  where
    pd : p + d + size cs + 1 ≡ p + (d + size cs + 1)
    pd = omega arith

    rd : r + d + size cs + 1 ≡ r + (d + size cs + 1)
    rd = omega arith

    kr : size (subtree_at f (r + d)).children ≡ size cs
    kr = ap (λ (t : Tree). size t.children) v.1

    go : Dec (x < r + d + size cs + 1) → (r + d + size cs + 1 ≤ x → ⊥) → ⊥
    go (no h) more = more (omega arith)
    go (yes h) more =
        let o : ℕ = x - (r + d) in
        let at : x ≡ r + d + o = omega arith in
        let itself : last_of f (r + d + o) ≡ r + d + o = subst (λ (n : ℕ). last_of f n ≡ n) at i in
        let last : last_of f (r + d) ≡ r + d = last_up f (r + d) o v.0 (omega (arith, kr)) itself in
        let same : last_of f (p + d) ≡ last_of f (r + d) = last_same f (p + d) (r + d) u.0 v.0 (u.1 ∙ sym v.1) in
        t.0 (record { place = r; there = omega arith; again = s })

pub again_bare : (f : Forest) (p r : ℕ) → p < size f → Again f p r → Nowhere (Twin f p) (p + 1) (subtree_at f p).children → Bare f (lasts_of f) r
again_bare f p r h s t = λ x a b e.
    let same : subtree_at f p ≡ subtree_at f r = sign_tree f p r h s.before s.sign in
    let below : (subtree_at f p).children ≡ (subtree_at f r).children = ap (λ (t : Tree). t.children) same in
    twin_found f p r s (subtree_at f r).children 1 x (subst (Stands f (p + 1)) below (kids_stand f p h)) (kids_stand f r s.before) (omega arith) (omega arith) e
    (subst (Nowhere (Twin f p) (p + 1)) below t)

-- what an entry stands for
pub kept_id : (f : Forest) (c : List ℕ) (x : ℕ) → Kept f c x → id_of c x ≡ last_of f x
kept_id f c x k = go (ltb (get_or c x 0) 32768) refl
  where
    go : (b : Bool) → ltb (get_or c x 0) 32768 ≡ b → pick b (get_or c x 0) x ≡ last_of f x
    go true e = k.follower (ltb-true (get_or c x 0) 32768 e)
    go false e = sym (k.leader (ltb-false (get_or c x 0) 32768 e))

pub kept_leader : (f : Forest) (c : List ℕ) (x : ℕ) → Kept f c x → last_of f x ≡ x → 32768 ≤ get_or c x 0
kept_leader f c x k e = go (dec_lt (get_or c x 0) 32768)
  where
    go : Dec (get_or c x 0 < 32768) → 32768 ≤ get_or c x 0
    go (yes m) = absurd (omega (arith, k.behind m))
    go (no m) = omega arith

-- chains
pub comes_past : {c : List ℕ} {x q : ℕ} → Comes c x q → x ≡ 0 → ⊥
comes_past (here h) e = omega arith
comes_past (next h r k) e = omega arith

pub comes_on : {c : List ℕ} {x q : ℕ} → Comes c x q → (x ≡ q → ⊥) → Comes c (get_or c x 0 - 32768) q
comes_on (here h) d = absurd (d refl)
comes_on (next h r k) d = k

pub comes_set : {c : List ℕ} {x q : ℕ} (p v : ℕ) → p < x → Comes c x q → Comes (set c p v) x q
comes_set p v m (here h) = here h
comes_set {c} {x} {q} p v m (next h r k) =
    let same : get_or c x 0 - 32768 ≡ get_or (set c p v) x 0 - 32768 = ap (λ (n : ℕ). n - 32768) (sym (get_or-set_other c p x v 0 (λ e. omega arith))) in
    next h (omega arith) (subst (λ (y : ℕ). Comes (set c p v) y q) same (comes_set p v (omega arith) k))

pub comes_some : {c : List ℕ} {x q : ℕ} → Comes c x q → 0 < x
comes_some (here h) = h
comes_some (next h r k) = h

pub link_weaker : {f : Forest} {k j v : ℕ} → j ≤ k → Link f k v → Link f j v
link_weaker m l = record { from = λ h. omega (arith, l.from h); before = l.before; itself = l.itself }

-- a walk along a chain comes nearer to its end
pub nearer : (n r s : ℕ) → 0 < r → r < n → (0 < s → r < s) → pick (ltb 0 s) (n - s) 0 < pick (ltb 0 r) (n - r) 0
nearer n r s h m more = simp (lt-ltb 0 r h) (go (ltb 0 s) refl)
  where
    go : (b : Bool) → ltb 0 s ≡ b → pick b (n - s) 0 < n - r
    go true e = omega (arith, more (ltb-true 0 s e), ltb-true 0 s e)
    go false e = omega arith

pub keeps_ids : {f : Forest} {c : List ℕ} {k n : ℕ} → Keeps f c k → size f ≡ n → Ids f c n k
keeps_ids {f} {c} z e x a b = kept_id f c x (z x a (omega arith))

-- the link from a last place on
pub link_next : {f : Forest} {c heads : List ℕ} {m k r : ℕ} → Lasting f c heads m k → 0 < r → Link f k r → Link f (r + 1) (get_or c r 0 - 32768)
link_next {f} {c} {heads} {m} {k} {r} z h l = z.links r (l.from h) (l.before h) (l.itself h)

pub link_flag : {f : Forest} {c heads : List ℕ} {m k r : ℕ} → Lasting f c heads m k → 0 < r → Link f k r → 32768 ≤ get_or c r 0
link_flag {f} {c} {heads} {m} {k} {r} z h l = kept_leader f c r (z.kept r (l.from h) (l.before h)) (l.itself h)

-- a last place r of a chain, from position k on, and the next
pub record OnWay (n : ℕ) (c : List ℕ) (k r : ℕ) : Type 0 where
  pub from : k ≤ r
  pub before : r < n
  pub flag : 32768 ≤ get_or c r 0
  pub on : 0 < get_or c r 0 - 32768 → r < get_or c r 0 - 32768

pub link_at : {f : Forest} {c heads : List ℕ} {m n k r : ℕ} → Lasting f c heads m k → size f ≡ n → 0 < r → Link f k r → OnWay n c k r
link_at z e h l =
    record { from = l.from h; before = omega (arith, l.before h); flag = link_flag z h l; on = λ o. omega (arith, (link_next z h l).from o) }

-- an equal sign at a last place behind p
pub says_again : (f : Forest) (p r : ℕ) (b : Bool) → p < r → r < size f → last_of f r ≡ r → Says b (SameSign f (lasts_of f) p r) → Says b (Again f p r)
says_again f p r true h m e s = record { behind = h; before = m; itself = e; sign = s }
says_again f p r false h m e s = λ t. s t.sign

-- below what is bare, last places are behind
pub bare_behind : (f : Forest) (p a : ℕ) → Bare f (lasts_of f) p → p < a → a < p + 1 + size (subtree_at f p).children → a < size f
    → (a < last_of f a) × (last_of f a < size f)
bare_behind f p a bare h m i = let k = last_equal f a i in (go k.from (dec_lt a (last_of f a)), k.before)
  where
    go : a ≤ last_of f a → Dec (a < last_of f a) → a < last_of f a
    go l (yes x) = x
    go l (no x) = let e : last_of f a ≡ a = omega arith in absurd (bare a h m e)

-- no twin, if it does not stand again there
pub no_twin : (f : Forest) (p a r : ℕ) → r + a ≡ last_of f a + p → (Again f p r → ⊥) → Twin f p a → ⊥
no_twin f p a r e d t = let g : t.place ≡ r = omega (arith, t.there) in d (subst (Again f p) g t.again)
