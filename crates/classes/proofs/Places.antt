-- What one position more does to the entries and the chains of last places.
-- Assumes nothing.
use Prim.Native.Nat.{ℕ, ◌+◌, ◌-◌, ◌%◌, ◌≤◌, ◌<◌}
use mathlib.Core.Path.{◌≡◌, refl, sym, ap, ap₂, ◌∙◌, subst}
use mathlib.Core.List.{List, [], ◌∷◌}
use native.Mathlib.Decide.{dec_lt}
use native.Mathlib.Omega.{arith}
use lib.ListN.{length, get_or, set, get_or-eq_default}
use lib.Seq.{get_or-set_same, get_or-set_other}
use Rattle.rows.specs.Tree.{Forest, Forest.none, Forest.grow, size, subtree_at}
use Rattle.rows.specs.Classes.{said, kids, SameSign}
use Rattle.classes.specs.Shown.{look, Shown, mixed, mixed_all, sign_of, shelf, Bare, Nowhere}
use Rattle.classes.specs.Lasts.{LastEqual, lasts_of, last_of, drawer, last_drawer, Kept, Link, Comes, Comes.here, Comes.next, Lasting, Newest, Again, Twin, Placed, Open}
use Rattle.classes.proofs.Signs.{shelf-small, nowhere_none}
use Rattle.classes.proofs.Within.{fits_within}
use Rattle.classes.proofs.Lasts.{last_equal, last_same, last_twice, sign_tree, tree_sign, last_up, again_bare, comes_set, comes_some, link_weaker}

-- p, or a position behind it
or_behind : (P : ℕ → Type 0) (p x : ℕ) → p ≤ x → P p → (p + 1 ≤ x → P x) → P x
or_behind P p x h a b = go (dec_lt p x)
  where
    go : Dec (p < x) → P x
    go (yes m) = b (omega arith)
    go (no m) = let e : p ≡ x = omega arith in subst P e a

same_drawer : {f : Forest} {p q : ℕ} (m : ℕ) → SameSign f (lasts_of f) p q → last_drawer m f p ≡ last_drawer m f q
same_drawer m s = ap₂ (drawer m) s.symbol s.children

pub drawer-small : (m s : ℕ) (l : List ℕ) → 0 < m → drawer m s l < 512 + m
unfolding drawer
drawer-small m s [] h = omega arith
drawer-small m s (x ∷ l) h = omega (arith, shelf-small m (mixed_all (mixed 0 s) (x ∷ l)) h)

-- a head is a position
pub head_small : {f : Forest} {k v : ℕ} → size f ≤ 16384 → Link f k v → v < 16384
head_small {f} {k} {v} small l = go (dec_lt 0 v)
  where
    go : Dec (0 < v) → v < 16384
    go (yes o) = omega (arith, l.before o)
    go (no o) = omega arith

-- Behind the forest nothing is filled in.
pub placed_none : (f : Forest) (c heads : List ℕ) (m n : ℕ) → size f ≡ n → ((h : ℕ) → get_or heads h 0 ≡ 0) → Placed f c heads m n n
placed_none f c heads m n e all =
    record {
      lasting =
          record {
            kept = λ x a b. absurd (omega arith);
            opens = λ h.
                let z = all h in
                record { from = λ o. absurd (omega arith); before = λ o. absurd (omega arith); itself = λ o. absurd (omega arith) };
            links = λ r a b. absurd (omega arith);
            found = λ o q a b. absurd (omega arith);
          };
      newest = record { from = omega arith; itself = λ h. absurd (omega arith); clear = λ x a b. absurd (omega arith) };
    }

kept_set : (f : Forest) (c : List ℕ) (p v x : ℕ) → p + 1 ≤ x → Kept f c x → Kept f (set c p v) x
kept_set f c p v x h k =
    let same : get_or c x 0 ≡ get_or (set c p v) x 0 = sym (get_or-set_other c p x v 0 (λ e. omega arith)) in
    record {
      most = omega (arith, k.most);
      follower = λ m. sym same ∙ k.follower (omega arith);
      behind = λ m. k.behind (omega arith);
      leader = λ m. k.leader (omega arith);
    }

-- p is the first last place
newest_here : {f : Forest} {p : ℕ} → last_of f p ≡ p → Newest f p p
newest_here e = record { from = omega arith; itself = λ h. e; clear = λ x a b. absurd (omega arith) }

module _ {f : Forest} {c heads : List ℕ} {m p v : ℕ} (z : Placed f c heads m (p + 1) v) (h : p < size f) (small : size f ≤ 16384) (room : size f ≤ length c) where
  abbrev Z : Lasting f c heads m (p + 1)
  Z = z.lasting

  -- what the chains behind p come to stays
  stays : (n q : ℕ) → p + 1 ≤ q → q < size f → last_of f q ≡ q → Bare f (lasts_of f) q → Comes (set c p n) (get_or heads (last_drawer m f q) 0) q
  stays n q a b e k =
      let was = Z.found (omega arith) q a b e k in
      comes_set p n (omega (arith, (Z.opens (last_drawer m f q)).from (comes_some was))) was

  -- p's subtree stands again, for the last time at r
  module _ (r : ℕ) (again : Again f p r) where
    place : last_of f p ≡ r
    place = last_same f p r h again.before (sign_tree f p r h again.before again.sign) ∙ again.itself

    pub placed_again : Placed f (set c p r) heads m p v
    placed_again =
        let more = again.behind in
        let less = again.before in
        let here-is : get_or (set c p r) p 0 ≡ r = get_or-set_same c p r 0 (omega arith) in
        record {
          lasting =
              record {
                kept = λ x a. or_behind (λ (x : ℕ). x < size f → Kept f (set c p r) x) p x a
                    (λ b. record {
                      most = omega arith;
                      follower = λ m. here-is ∙ sym place;
                      behind = λ m. omega (arith, place);
                      leader = λ m. absurd (omega arith);
                    })
                    (λ m b. kept_set f c p r x m (Z.kept x m b));
                opens = λ k. link_weaker (omega arith) (Z.opens k);
                links = λ x a. or_behind (λ (x : ℕ). x < size f → last_of f x ≡ x → Link f (x + 1) (get_or (set c p r) x 0 - 32768)) p x a
                    (λ b e. absurd (omega (arith, place)))
                    (λ m b e. subst (λ (n : ℕ). Link f (x + 1) (n - 32768)) (sym (get_or-set_other c p x r 0 (λ i. omega arith))) (Z.links x m b e));
                found = λ o q a. or_behind (λ (q : ℕ). q < size f → last_of f q ≡ q → Bare f (lasts_of f) q → Comes (set c p r) (get_or heads (last_drawer m f q) 0) q) p q a
                    (λ b e. absurd (omega (arith, place)))
                    (λ m b e k. stays r q m b e k);
              };
          newest =
              record {
                from = omega (arith, z.newest.from);
                itself = z.newest.itself;
                clear = λ x a. or_behind (λ (x : ℕ). x < v → x < size f → last_of f x ≡ x → ⊥) p x a (λ b d e. omega (arith, place)) (λ m. z.newest.clear x m);
              };
        }

  -- a last place stands below p
  module _ (up : v < p + 1 + size (subtree_at f p).children) where
    above_last : last_of f p ≡ p
    above_last =
        let i : ℕ = v - p in
        let at : v ≡ p + i = omega (arith, z.newest.from) in
        last_up f p i h (omega arith)
        (subst (λ (n : ℕ). last_of f n ≡ n) at (z.newest.itself (omega (arith, fits_within f p h))))

    not_bare : Bare f (lasts_of f) p → ⊥
    not_bare b = b v (omega (arith, z.newest.from)) up (z.newest.itself (omega (arith, fits_within f p h)))

    pub placed_above : Placed f (set c p 32768) heads m p p
    placed_above =
        let here-is : get_or (set c p 32768) p 0 ≡ 32768 = get_or-set_same c p 32768 0 (omega arith) in
        record {
          lasting =
              record {
                kept = λ x a. or_behind (λ (x : ℕ). x < size f → Kept f (set c p 32768) x) p x a
                    (λ b. record {
                      most = omega arith;
                      follower = λ m. absurd (omega arith);
                      behind = λ m. absurd (omega arith);
                      leader = λ m. above_last;
                    })
                    (λ m b. kept_set f c p 32768 x m (Z.kept x m b));
                opens = λ k. link_weaker (omega arith) (Z.opens k);
                links = λ x a. or_behind (λ (x : ℕ). x < size f → last_of f x ≡ x → Link f (x + 1) (get_or (set c p 32768) x 0 - 32768)) p x a
                    (λ b e. record { from = λ o. absurd (omega arith); before = λ o. absurd (omega arith); itself = λ o. absurd (omega arith) })
                    (λ m b e. subst (λ (n : ℕ). Link f (x + 1) (n - 32768)) (sym (get_or-set_other c p x 32768 0 (λ i. omega arith))) (Z.links x m b e));
                found = λ o q a. or_behind (λ (q : ℕ). q < size f → last_of f q ≡ q → Bare f (lasts_of f) q → Comes (set c p 32768) (get_or heads (last_drawer m f q) 0) q) p q a
                    (λ b e k. absurd (not_bare k))
                    (λ m b e k. stays 32768 q m b e k);
              };
          newest = newest_here above_last;
        }

  -- p is bare, and is not found behind it
  module _ (bare : p + 1 + size (subtree_at f p).children ≤ v) (nowhere : Nowhere (Twin f p) (p + 1) (subtree_at f p).children)
      (new : (q : ℕ) → Comes c (get_or heads (last_drawer m f p) 0) q → SameSign f (lasts_of f) p q → ⊥) (drawers : length heads ≡ 512 + m) (some : 0 < m) where
    last_here : last_of f p ≡ p
    last_here = go (dec_lt p (last_of f p))
      where
        a : LastEqual f p (last_of f p)
        a = last_equal f p h

        go : Dec (p < last_of f p) → last_of f p ≡ p
        go (yes l) =
            let s = tree_sign f p (last_of f p) h a.before (sym a.equal) in
            let again : Again f p (last_of f p) = record { behind = l; before = a.before; itself = last_twice f p h; sign = s } in
            let k = Z.found (omega arith) (last_of f p) (omega arith) a.before (last_twice f p h) (again_bare f p (last_of f p) h again nowhere) in
            absurd (new (last_of f p) (subst (λ (d : ℕ). Comes c (get_or heads d 0) (last_of f p)) (sym (same_drawer m s)) k) s)
        go (no l) = omega (arith, a.from)

    abbrev D : ℕ
    D = last_drawer m f p

    few : (q : ℕ) → last_drawer m f q < length heads
    few q = omega (arith, drawers, drawer-small m (subtree_at f q).symbol (kids f (lasts_of f) q) some)

    head_link : Link f (p + 1) (get_or heads D 0)
    head_link = Z.opens D

    abbrev W : ℕ
    W = 32768 + get_or heads D 0

    head_here : get_or (set heads D p) D 0 ≡ p
    head_here = get_or-set_same heads D p 0 (few p)

    entry_here : get_or (set c p W) p 0 ≡ W
    entry_here = get_or-set_same c p W 0 (omega arith)

    by_drawer : (P : ℕ → Type 0) (k : ℕ) → P D → ((k ≡ D → ⊥) → P k) → P k
    by_drawer P k a b = go (dec_lt k D) (dec_lt D k)
      where
        go : Dec (k < D) → Dec (D < k) → P k
        go (yes x) y = b (λ e. omega arith)
        go (no x) (yes y) = b (λ e. omega arith)
        go (no x) (no y) = let e : D ≡ k = omega arith in subst P e a

    new_heads : (k : ℕ) → Link f p (get_or (set heads D p) k 0)
    new_heads k =
        by_drawer (λ (k : ℕ). Link f p (get_or (set heads D p) k 0)) k
        (subst (Link f p) (sym head_here) (record { from = λ o. omega arith; before = λ o. h; itself = λ o. last_here }))
        (λ d. subst (Link f p) (sym (get_or-set_other heads D k p 0 d)) (link_weaker (omega arith) (Z.opens k)))

    found_there : 0 < p → (q : ℕ) → p + 1 ≤ q → q < size f → last_of f q ≡ q → Bare f (lasts_of f) q → Comes (set c p W) (get_or (set heads D p) (last_drawer m f q) 0) q
    found_there u q a b e k =
        by_drawer (λ (d : ℕ). Comes (set c p W) (get_or heads d 0) q → Comes (set c p W) (get_or (set heads D p) d 0) q) (last_drawer m f q)
        (λ old.
        let on : get_or heads D 0 ≡ get_or (set c p W) p 0 - 32768 = omega (arith, entry_here) in
        let more : p < get_or (set c p W) p 0 - 32768 = omega (arith, on, head_link.from (comes_some old)) in
        subst (λ (x : ℕ). Comes (set c p W) x q) (sym head_here) (next u more (subst (λ (x : ℕ). Comes (set c p W) x q) on old)))
        (λ d old. subst (λ (x : ℕ). Comes (set c p W) x q) (sym (get_or-set_other heads D (last_drawer m f q) p 0 d)) old)
        (stays W q a b e k)

    pub placed_new : Placed f (set c p W) (set heads D p) m p p
    placed_new =
        record {
          lasting =
              record {
                kept = λ x a. or_behind (λ (x : ℕ). x < size f → Kept f (set c p W) x) p x a
                    (λ b. record {
                      most = omega (arith, entry_here, head_small small head_link);
                      follower = λ m. absurd (omega (arith, entry_here));
                      behind = λ m. absurd (omega (arith, entry_here));
                      leader = λ m. last_here;
                    })
                    (λ m b. kept_set f c p W x m (Z.kept x m b));
                opens = new_heads;
                links = λ x a. or_behind (λ (x : ℕ). x < size f → last_of f x ≡ x → Link f (x + 1) (get_or (set c p W) x 0 - 32768)) p x a
                    (λ b e. let same : get_or heads D 0 ≡ get_or (set c p W) p 0 - 32768 = omega (arith, entry_here) in subst (Link f (p + 1)) same head_link)
                    (λ m b e. subst (λ (n : ℕ). Link f (x + 1) (n - 32768)) (sym (get_or-set_other c p x W 0 (λ i. omega arith))) (Z.links x m b e));
                found = λ o q a. or_behind (λ (q : ℕ). q < size f → last_of f q ≡ q → Bare f (lasts_of f) q → Comes (set c p W) (get_or (set heads D p) (last_drawer m f q) 0) q) p q a
                    (λ b e k. subst (λ (x : ℕ). Comes (set c p W) x p) (sym head_here) (here o))
                    (λ m b e k. found_there o q m b e k);
              };
          newest = newest_here last_here;
        }

-- nothing stands past the end of a list of zeros either
pub zeros_anywhere : (l : List ℕ) (n : ℕ) → n ≡ length l → ((h : ℕ) → h < n → get_or l h 0 ≡ 0) → (h : ℕ) → get_or l h 0 ≡ 0
zeros_anywhere l n e k h = go (dec_lt h n)
  where
    go : Dec (h < n) → get_or l h 0 ≡ 0
    go (yes m) = k h m
    go (no m) = get_or-eq_default l 0 {n = h} (omega arith)

-- p is open: it is found, or not
module _ {f : Forest} {c heads : List ℕ} {m p v h : ℕ} (o : Open f c heads m p v h) (inside : p < size f) (small : size f ≤ 16384) (room : size f ≤ length c) where
  pub open_again : (r : ℕ) → Again f p r → Placed f (set c p r) heads m p v
  open_again r s = placed_again o.placed inside small room r s

  pub open_new : ((q : ℕ) → Comes c (get_or heads h 0) q → SameSign f (lasts_of f) p q → ⊥) → length heads ≡ 512 + m → 0 < m
      → Placed f (set c p (32768 + get_or heads h 0)) (set heads h p) m p p
  open_new new drawers some =
      let same : last_drawer m f p ≡ h = sym o.drawer in
      subst (λ (d : ℕ). Placed f (set c p (32768 + get_or heads d 0)) (set heads d p) m p p) same
      (placed_new o.placed inside small room o.bare o.nowhere (λ q k. new q (subst (λ (d : ℕ). Comes c (get_or heads d 0) q) same k)) drawers some)

-- what is said of some trees is not nothing
drawer_some : (m s : ℕ) (c : List ℕ) (b : ℕ) (g : Forest) → 0 < size g → drawer m s (said c b g) ≡ 512 + shelf m (mixed_all (mixed 0 s) (said c b g))
unfolding said drawer size
drawer_some m s c b none h = absurd (omega arith)
drawer_some m s c b (grow u cs g) h = refl

drawer_none : (m s : ℕ) (c : List ℕ) (b : ℕ) (g : Forest) → size g ≡ 0 → drawer m s (said c b g) ≡ s % 512
unfolding said drawer size
drawer_none m s c b none h = refl
drawer_none m s c b (grow u cs g) h = absurd (omega arith)

module _ {f : Forest} {w t c heads : List ℕ} {m p v : ℕ} (s : Shown f w t) (inside : p < length w) (z : Placed f c heads m (p + 1) v) where
  -- a leaf
  pub leaf_open : get_or t p 0 < p + 2 → Open f c heads m p v (look w p % 512)
  leaf_open h =
      let below : size (subtree_at f p).children ≡ 0 = omega (arith, s.ends p inside) in
      record {
        placed = z;
        bare = omega (arith, z.newest.from);
        nowhere = nowhere_none (Twin f p) (p + 1) (subtree_at f p).children below;
        drawer =
            ap (λ (n : ℕ). n % 512) (s.symbols p inside)
            ∙ sym (drawer_none m (subtree_at f p).symbol (lasts_of f) (p + 1) (subtree_at f p).children below);
      }

  -- no last place stands below p
  module _ (h : get_or t p 0 ≤ v) where
    pub bare_below : Bare f (lasts_of f) p
    bare_below x a b e =
        z.newest.clear x (omega arith) (omega (arith, s.ends p inside)) (omega (arith, fits_within f p (omega (arith, s.many)))) e

    pub bare_open : p + 2 ≤ get_or t p 0 → (n : ℕ) → n ≡ sign_of f (lasts_of f) p → Nowhere (Twin f p) (p + 1) (subtree_at f p).children
        → Open f c heads m p v (512 + shelf m n)
    unfolding sign_of
    bare_open more n sign nowhere =
        record {
          placed = z;
          bare = omega (arith, s.ends p inside);
          nowhere = nowhere;
          drawer =
              ap (λ (x : ℕ). 512 + shelf m x) sign
              ∙ sym (drawer_some m (subtree_at f p).symbol (lasts_of f) (p + 1) (subtree_at f p).children (omega (arith, s.ends p inside)));
        }

  pub above_placed : v < get_or t p 0 → size f ≤ length c → Placed f (set c p 32768) heads m p p
  above_placed h room =
      placed_above z (omega (arith, s.many)) (omega (arith, s.many, s.most)) room (omega (arith, s.ends p inside))
