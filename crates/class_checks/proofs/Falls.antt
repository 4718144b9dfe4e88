-- Laws of the chains to the left, and of the scan over the positions that name themselves.
-- Assumes nothing.
use Prim.Native.Nat.{ℕ, zero, suc, ◌+◌, ◌-◌, ◌≤◌, ◌<◌}
use mathlib.Core.Path.{◌≡◌, sym, ap₂, subst}
use mathlib.Core.List.{List}
use mathlib.Core.Bool.{Bool, true}
use native.Mathlib.Decide.{dec_lt}
use native.Mathlib.Nat.{add-zero}
use native.Mathlib.Omega.{arith}
use lib.ListN.{length, get_or, set}
use lib.Seq.{get_or-set_same, get_or-set_other}
use Rattle.rows.specs.Tree.{Forest, size}
use Rattle.rows.specs.Classes.{FirstEqual, SameSign}
use Rattle.classes.specs.Shown.{Shown, mixed, mixed_all, sign_of, shelf, Bare}
use Rattle.class_checks.specs.Repeats.{Grants, Local, Repeat, New, Falls, Falls.here, Falls.next, Falling, Space, Entered, Reached, Unbare, Rooted, Run, Along}
use Rattle.classes.proofs.Signs.{shelf-small}
use Rattle.class_checks.proofs.Parts.{end_fits}
use Rattle.class_checks.proofs.Skip.{local_none, local_leader, skipped, skipped_follow}
use Rattle.class_checks.proofs.Once.{bare_first}

-- equal signs are mixed to one number
same_sign_of : {f : Forest} {c : List ℕ} {p q : ℕ} → SameSign f c p q → sign_of f c p ≡ sign_of f c q
unfolding sign_of
same_sign_of s = ap₂ (λ (x : ℕ) (l : List ℕ). mixed_all (mixed 0 x) l) s.symbol s.children

-- a chain that is at 0 comes to nothing; one that is not comes on from there
pub falls_none : {l : List ℕ} {x q : ℕ} → Falls l x q → x ≡ 0 → ⊥
falls_none (here h) m = omega arith
falls_none (next h k) m = omega arith

pub falls_on : {l : List ℕ} {x q : ℕ} → Falls l x q → (x - 1 ≡ q → ⊥) → Falls l (get_or l (x - 1) 0) q
falls_on (here h) d = absurd (d (omega arith))
falls_on (next h k) d = k

-- what is linked from p on leaves the chains before it
falls_set : {l : List ℕ} {x q : ℕ} (p v : ℕ) → ((r : ℕ) → get_or l r 0 ≤ r) → x ≤ p → Falls l x q → Falls (set l p v) x q
falls_set p v u m (here h) = here h
falls_set {l} {x} {q} p v u m (next h k) =
    let same : get_or l (x - 1) 0 ≡ get_or (set l p v) (x - 1) 0 = sym (get_or-set_other l p (x - 1) v 0 (λ e. omega arith)) in
    next h (subst (λ (y : ℕ). Falls (set l p v) y q) same (falls_set p v u (omega (arith, u (x - 1))) k))

-- p, which names itself, is put before the others of its drawer
module _ {f : Forest} {c heads l : List ℕ} {m n p : ℕ} (z : Falling f c heads l m p) (inside : p < n) (drawers : length heads ≡ m) (room : Space heads l n) where
  abbrev D : ℕ
  D = shelf m (sign_of f c p)

  abbrev L : List ℕ
  L = set l p (get_or heads D 0)

  abbrev H : List ℕ
  H = set heads D (p + 1)

  head_here : get_or H D 0 ≡ p + 1
  head_here = get_or-set_same heads D (p + 1) 0 (omega (arith, drawers, shelf-small m (sign_of f c p) (omega (arith, drawers, room.some))))

  head_there : (h : ℕ) → (h ≡ D → ⊥) → get_or H h 0 ≡ get_or heads h 0
  head_there h d = get_or-set_other heads D h (p + 1) 0 d

  link_here : get_or L p 0 ≡ get_or heads D 0
  link_here = get_or-set_same l p (get_or heads D 0) 0 (omega (arith, room.places))

  -- the number i, or another
  by_number : (i : ℕ) (P : ℕ → Type 0) (h : ℕ) → P i → ((h ≡ i → ⊥) → P h) → P h
  by_number i P h a b = go (dec_lt h i) (dec_lt i h)
    where
      go : Dec (h < i) → Dec (i < h) → P h
      go (yes x) y = b (λ e. omega arith)
      go (no x) (yes y) = b (λ e. omega arith)
      go (no x) (no y) = let e : i ≡ h = omega arith in subst P e a

  put_opens : (h : ℕ) → get_or H h 0 ≤ p + 1
  put_opens h = by_number D (λ (h : ℕ). get_or H h 0 ≤ p + 1) h (omega (arith, head_here)) (λ d. omega (arith, head_there h d, z.opens h))

  put_links : (r : ℕ) → get_or L r 0 ≤ r
  put_links r =
      by_number p (λ (r : ℕ). get_or L r 0 ≤ r) r (omega (arith, link_here, z.opens D)) (λ d. omega (arith, get_or-set_other l p r (get_or heads D 0) 0 d, z.links r))

  found_there : (q : ℕ) → q < p → get_or c q 0 ≡ q → Bare f c q → Falls L (get_or H (shelf m (sign_of f c q)) 0) q
  found_there q a e b =
      let old : Falls L (get_or heads (shelf m (sign_of f c q)) 0) q = falls_set p (get_or heads D 0) z.links (z.opens (shelf m (sign_of f c q))) (z.found q a e b) in
      by_number D (λ (h : ℕ). Falls L (get_or heads h 0) q → Falls L (get_or H h 0) q) (shelf m (sign_of f c q))
      (λ k.
      let at : p ≡ get_or H D 0 - 1 = omega (arith, head_here) in
      next (omega (arith, head_here)) (subst (λ (x : ℕ). Falls L (get_or L x 0) q) at (subst (λ (x : ℕ). Falls L x q) (sym link_here) k)))
      (λ d k. subst (λ (x : ℕ). Falls L x q) (sym (head_there (shelf m (sign_of f c q)) d)) k) old

  pub falling_put : Falling f c H L m (p + 1)
  falling_put =
      record {
        opens = put_opens;
        links = put_links;
        found = λ q a e b. go q a e b (dec_lt q p);
      }
    where
      go : (q : ℕ) → q < p + 1 → get_or c q 0 ≡ q → Bare f c q → Dec (q < p) → Falls L (get_or H (shelf m (sign_of f c q)) 0) q
      go q a e b (yes x) = found_there q x e b
      go q a e b (no x) = let g : p ≡ q = omega arith in subst (λ (q : ℕ). Falls L (get_or H (shelf m (sign_of f c q)) 0) q) g (here head_here)

-- the sign of p is new to the bare positions before it, if it is to the chain of its drawer
pub falls_new : {f : Forest} {c heads l : List ℕ} {m p : ℕ} → Falling f c heads l m p
    → ((q : ℕ) → Falls l (get_or heads (shelf m (sign_of f c p)) 0) q → SameSign f c p q → ⊥)
    → (q : ℕ) → q < p → get_or c q 0 ≡ q → Bare f c q → SameSign f c p q → ⊥
falls_new {f} {c} {heads} {l} {m} {p} z k q a e b s =
    k q (subst (λ (d : ℕ). Falls l (get_or heads (shelf m d) 0) q) (sym (same_sign_of s)) (z.found q a e b)) s

-- Nothing is in the chains.
pub entered_none : (f : Forest) (c heads l : List ℕ) (m : ℕ) → ((h : ℕ) → get_or heads h 0 ≡ 0) → ((h : ℕ) → get_or l h 0 ≡ 0) → Entered f c heads l m 0
entered_none f c heads l m a b =
    record {
      falling = record { opens = λ h. omega (arith, a h); links = λ r. omega (arith, b r); found = λ q h. absurd (omega arith) };
      new = λ q h. absurd (omega arith);
    }

-- p is put into the chains
pub entered_put : {f : Forest} {c heads l heads' l' : List ℕ} {m p : ℕ} → Entered f c heads l m p → Falling f c heads' l' m (p + 1) → New f c p → Entered f c heads' l' m (p + 1)
entered_put {f} {c} {heads} {l} {heads'} {l'} {m} {p} z w fresh = record { falling = w; new = λ q a g b. go q a g b (dec_lt q p) }
  where
    go : (q : ℕ) → q < p + 1 → get_or c q 0 ≡ q → Bare f c q → Dec (q < p) → New f c q
    go q a g b (yes x) = z.new q x g b
    go q a g b (no x) = let i : p ≡ q = omega arith in subst (New f c) i fresh

-- further on, where no bare position stands
pub entered_on : {f : Forest} {c heads l : List ℕ} {m p k : ℕ} → Entered f c heads l m p → p ≤ k → ((q : ℕ) → p ≤ q → q < k → get_or c q 0 ≡ q → Bare f c q → ⊥)
    → Entered f c heads l m k
entered_on {f} {c} {heads} {l} {m} {p} {k} z h none_between =
    record {
      falling =
          record {
            opens = λ x. omega (arith, z.falling.opens x);
            links = z.falling.links;
            found = λ q a e b. found q a e b (dec_lt q p);
          };
      new = λ q a e b. new q a e b (dec_lt q p);
    }
  where
    found : (q : ℕ) → q < k → get_or c q 0 ≡ q → Bare f c q → Dec (q < p) → Falls l (get_or heads (shelf m (sign_of f c q)) 0) q
    found q a e b (yes x) = z.falling.found q x e b
    found q a e b (no x) = absurd (none_between q (omega arith) a e b)

    new : (q : ℕ) → q < k → get_or c q 0 ≡ q → Bare f c q → Dec (q < p) → New f c q
    new q a e b (yes x) = z.new q x e b
    new q a e b (no x) = absurd (none_between q (omega arith) a e b)

-- The scan starts at a first position that names itself.
pub reached_start : (f : Forest) (c : List ℕ) → get_or c 0 0 ≡ 0 → Reached f c 0 1
reached_start f c e = record { rightly = local_leader (local_none f c) e; before = omega arith; itself = e; between = λ x h k. absurd (omega arith) }

module _ {f : Forest} {w t c : List ℕ} {last p : ℕ} (s : Shown f w t) (inside : p < length w) (z : Reached f c last p) where
  -- past a subtree that was there before
  pub reached_past : (q : ℕ) → Repeat w c p q (get_or t p 0 - p) → Reached f c last (get_or t p 0)
  reached_past q r =
      record {
        rightly = skipped s c p q inside r z.rightly;
        before = omega (arith, z.before, end_fits s p inside);
        itself = z.itself;
        between = λ x a b e. go x a b e (dec_lt x p);
      }
    where
      go : (x : ℕ) → last < x → x < get_or t p 0 → get_or c x 0 ≡ x → Dec (x < p) → ⊥
      go x a b e (yes k) = z.between x a k e
      go x a b e (no k) = skipped_follow s c p q inside r z.rightly x (omega arith) b e

  -- to p, which names itself
  module _ (itself : get_or c p 0 ≡ p) where
    pub reached_next : Reached f c p (p + 1)
    reached_next = record { rightly = local_leader z.rightly itself; before = omega arith; itself = itself; between = λ x a b. absurd (omega arith) }

    -- it stands below the last one, which is not bare then
    pub unbare_below : (start : ℕ) → Unbare f c start last → p < get_or t last 0 → Unbare f c start p
    unbare_below start u below q a b e bare = go (dec_lt q last) (dec_lt last q)
      where
        go : Dec (q < last) → Dec (last < q) → ⊥
        go (yes x) y = u q a x e bare
        go (no x) (yes y) = z.between q y b e
        go (no x) (no y) =
            let same : q ≡ last = omega arith in
            subst (Bare f c) same bare p z.before (omega (arith, s.ends last (omega (arith, z.before)))) itself

-- a run goes on, and stays in the row
pub run_more : {t c : List ℕ} {p q : ℕ} → Run t c p q → q + 1 < get_or t q 0 → get_or c (q + 1) 0 ≡ q + 1 → Run t c p (q + 1)
run_more {t} {c} {p} {q} z h e =
    record {
      from = omega (arith, z.from);
      itself = λ x a b. at_last (λ (x : ℕ). get_or c x 0 ≡ x) x (q + 1) b e (λ m. z.itself x a (omega arith));
      below = λ x a b. at_last (λ (x : ℕ). x + 1 < get_or t x 0) x q (omega arith) h (λ m. z.below x a m);
    }
  where
    at_last : (P : ℕ → Type 0) (x n : ℕ) → x ≤ n → P n → (x < n → P x) → P x
    at_last P x n m a b = go (dec_lt x n)
      where
        go : Dec (x < n) → P x
        go (yes k) = b k
        go (no k) = let g : n ≡ x = omega arith in subst P g a

pub run_none : (t c : List ℕ) (p : ℕ) → get_or c p 0 ≡ p → Run t c p p
run_none t c p e =
    record {
      from = omega arith;
      itself = λ x a b. let g : p ≡ x = omega arith in subst (λ (x : ℕ). get_or c x 0 ≡ x) g e;
      below = λ x a b. absurd (omega arith);
    }

-- along a run the scan comes to its end, and none of its positions before that is bare
pub run_reached : {f : Forest} {w t : List ℕ} (c : List ℕ) (start p k : ℕ) → Shown f w t → p < length w → Run t c p (p + k) → Reached f c p (p + 1) → Unbare f c start p
    → (p + k < length w) × Reached f c (p + k) (p + k + 1) × Unbare f c start (p + k)
run_reached {f} {w} {t} c start p zero s h z r u =
    let e : p ≡ p + 0 = omega arith in
    (omega arith, subst (λ (n : ℕ). Reached f c n (n + 1)) e r, subst (Unbare f c start) e u)
run_reached {f} {w} {t} c start p (suc k) s h z r u =
    let shorter : Run t c p (p + k) =
    record { from = omega arith; itself = λ x a b. z.itself x a (omega arith); below = λ x a b. z.below x a (omega arith) } in
    let got = run_reached c start p k s h shorter r u in
    let low : p + k + 1 < get_or t (p + k) 0 = z.below (p + k) (omega arith) (omega arith) in
    let inside : p + k + 1 < length w = omega (arith, low, end_fits s (p + k) got.0) in
    let itself : get_or c (p + k + 1) 0 ≡ p + k + 1 = z.itself (p + k + 1) (omega arith) (omega arith) in
    let e : p + k + 1 ≡ p + suc k = omega arith in (
      omega arith,
      subst (λ (n : ℕ). Reached f c n (n + 1)) e (reached_next s inside got.1 itself),
      subst (Unbare f c start) e (unbare_below s inside got.1 itself start got.2 low),
    )

-- the bare position is in the chains now, and so are all before the next that names itself
pub entered_next : {f : Forest} {c heads l : List ℕ} {m last p : ℕ} → Reached f c last p → Entered f c heads l m (last + 1) → Entered f c heads l m p
entered_next z k = entered_on k (omega (arith, z.before)) (λ q a b e bare. z.between q (omega arith) b e)

-- the scan's end: all positions hold first places
pub reached_end : {f : Forest} {c heads l : List ℕ} {m last p : ℕ} → p ≡ size f → Reached f c last p → Entered f c heads l m (last + 1)
    → (x : ℕ) → x < size f → FirstEqual f x (get_or c x 0)
reached_end {f} {c} {heads} {l} {m} {last} {p} e z k =
    let all = subst (Entered f c heads l m) e (entered_next z k) in
    bare_first f c (subst (Local f c) e z.rightly) all.new

pub along_none : (t c : List ℕ) (p n : ℕ) (r : Rooted t c p) → r.length_of ≡ n → Along t c n p p
along_none t c p n r e = record { run = run_none t c p r.itself; root = r; row = e }

-- one position more, and k
pub along_more : {t c : List ℕ} {n p q : ℕ} → Along t c n p q → q + 1 < get_or t q 0 → get_or c (q + 1) 0 ≡ q + 1 → Along t c n p (q + 1)
along_more {t} {c} {n} {p} {q} a h e =
    let r = a.root in
    record {
      run = run_more a.run h e;
      root =
          record {
            length_of = r.length_of;
            most = r.most;
            table = r.table;
            entries = r.entries;
            ends = r.ends;
            inside = omega (arith, h, r.ends q r.inside);
            itself = e;
          };
      row = a.row;
    }

pub along_many : {t c : List ℕ} {n p q : ℕ} (k : ℕ) → Along t c n p q → ((i : ℕ) → i < k → q + i + 1 < get_or t (q + i) 0)
    → ((i : ℕ) → i < k → get_or c (q + 1 + i) 0 ≡ q + 1 + i) → Along t c n p (q + k)
along_many {t} {c} {n} {p} {q} zero a h e = subst (Along t c n p) (sym (add-zero q)) a
along_many {t} {c} {n} {p} {q} (suc k) a h e =
    let up : q + k + 1 ≡ q + suc k = omega arith in
    let on : q + 1 + k ≡ q + k + 1 = omega arith in
    subst (Along t c n p) up
    (along_more (along_many k a (λ i m. h i (omega arith)) (λ i m. e i (omega arith))) (h k (omega arith)) (subst (λ (x : ℕ). get_or c x 0 ≡ x) on (e k (omega arith))))

-- one run after another
pub run_then : {t c : List ℕ} {p q r : ℕ} → Run t c p q → Run t c q r → Run t c p r
run_then {t} {c} {p} {q} {r} a b =
    record {
      from = omega (arith, a.from, b.from);
      itself = λ x h m. go (λ (y : ℕ). get_or c y 0 ≡ y) x (dec_lt x q) (λ l. a.itself x h (omega arith)) (λ l. b.itself x l m);
      below = λ x h m. go (λ (y : ℕ). y + 1 < get_or t y 0) x (dec_lt x q) (λ l. a.below x h l) (λ l. b.below x l m);
    }
  where
    go : (P : ℕ → Type 0) (x : ℕ) → Dec (x < q) → (x < q → P x) → (q ≤ x → P x) → P x
    go P x (yes l) f g = f l
    go P x (no l) f g = g (omega arith)

-- a yes that was asked for
pub granted : {X : Type 0} (b : Bool) → Grants b X → b ≡ true → X
granted {X} b g e = subst (λ (x : Bool). Grants x X) e g

-- what holds of all before k, and of k
pub one_more : (P : ℕ → Type 0) (k : ℕ) → ((x : ℕ) → x < k → P x) → P k → (x : ℕ) → x < k + 1 → P x
one_more P k all own x h = go (dec_lt x k)
  where
    go : Dec (x < k) → P x
    go (yes l) = all x l
    go (no l) = let e : k ≡ x = omega arith in subst P e own
