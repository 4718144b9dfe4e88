-- The law of the bare positions: a list that is right place by place, and whose bare positions are new, holds first places.
-- Assumes nothing.
use Prim.Native.Nat.{ℕ, zero, suc, ◌+◌, ◌-◌, ◌≤◌, ◌<◌}
use mathlib.Core.Path.{◌≡◌, sym, ap, ◌∙◌, subst}
use mathlib.Core.List.{List}
use native.Mathlib.Decide.{dec_lt}
use native.Mathlib.Omega.{arith}
use lib.ListN.{get_or}
use Rattle.rows.specs.Tree.{Forest, Forest.none, Forest.grow, Tree, size, subtree_at}
use Rattle.rows.specs.Classes.{FirstEqual, SameSign}
use Rattle.classes.specs.Shown.{Bare, Nowhere}
use Rattle.class_checks.specs.Repeats.{Local, Twin, New}
use Rattle.rows.proofs.Classes.{Tells, Told, sign_equal, equal_sign, sign_sym, sign_trans}
use Rattle.rows.proofs.Children.{Stands, kids_stand}
use Rattle.classes.proofs.Within.{fits_within, within_equal, within_ends}

module _ (f : Forest) (c : List ℕ) (z : Local f c (size f)) where
  lead_in : (p : ℕ) → p < size f → get_or c p 0 < size f
  lead_in p h = omega (arith, z.upto p h)

  same_sign : (p q : ℕ) → p < size f → q < size f → get_or c p 0 ≡ get_or c q 0 → SameSign f c p q
  same_sign p q h m e = sign_trans (z.same p h) (sign_sym (subst (SameSign f c q) (sym e) (z.same q m)))

  tells : (k : ℕ) → Tells f c k
  tells zero p q h m small e = absurd (omega arith)
  tells (suc k) p q h m small e = sign_equal f c k p q (tells k) h m (omega arith) (same_sign p q h m e)

  lead_equal : (p : ℕ) → p < size f → subtree_at f (get_or c p 0) ≡ subtree_at f p
  lead_equal p h = tells (suc (size (subtree_at f (get_or c p 0)).children)) (get_or c p 0) p (lead_in p h) h (omega arith) (z.leads p h)

  -- up to subtrees with fewer than k nodes below them: of equal ones only one names itself
  abbrev Once : ℕ → Type 0
  Once k = (p q : ℕ) → p < q → q < size f → size (subtree_at f q).children < k → get_or c p 0 ≡ p → get_or c q 0 ≡ q → subtree_at f p ≡ subtree_at f q → ⊥

  once_told : (k : ℕ) → Once k → Told f c k
  once_told k once p q h m small e = go (dec_lt (get_or c p 0) (get_or c q 0)) (dec_lt (get_or c q 0) (get_or c p 0))
    where
      same : subtree_at f (get_or c p 0) ≡ subtree_at f (get_or c q 0)
      same = lead_equal p h ∙ e ∙ sym (lead_equal q m)

      few_p : size (subtree_at f (get_or c p 0)).children < k
      few_p = omega (arith, ap (λ (t : Tree). size t.children) (lead_equal p h))

      few_q : size (subtree_at f (get_or c q 0)).children < k
      few_q = omega (arith, few_p, ap (λ (t : Tree). size t.children) same)

      go : Dec (get_or c p 0 < get_or c q 0) → Dec (get_or c q 0 < get_or c p 0) → get_or c p 0 ≡ get_or c q 0
      go (yes l) d = absurd (once (get_or c p 0) (get_or c q 0) l (lead_in q m) few_q (z.leads p h) (z.leads q m) same)
      go (no l) (yes d) = absurd (once (get_or c q 0) (get_or c p 0) d (lead_in p h) few_p (z.leads q m) (z.leads p h) (sym same))
      go (no l) (no d) = omega arith

  -- a position that has an equal subtree before it does not name itself
  no_lead : (k : ℕ) → Told f c k → (x y : ℕ) → x < y → y < size f → size (subtree_at f y).children < k → subtree_at f y ≡ subtree_at f x → get_or c y 0 ≡ y → ⊥
  no_lead k told x y l h small e d =
      let m : x < size f = omega arith in
      let g : get_or c y 0 ≡ get_or c x 0 = told y x h m small e in
      omega (arith, z.upto x m)

  -- where something below a names itself, so does a
  lead_above : (k : ℕ) → Told f c k → (a i : ℕ) → a < size f → i < 1 + size (subtree_at f a).children → size (subtree_at f a).children < k
      → get_or c (a + i) 0 ≡ a + i → get_or c a 0 ≡ a
  lead_above k told a i h m small e = go (dec_lt (get_or c a 0) a)
    where
      go : Dec (get_or c a 0 < a) → get_or c a 0 ≡ a
      go (no l) = omega (arith, z.upto a h)
      go (yes l) =
          let b : ℕ = get_or c a 0 in
          let same : subtree_at f (a + i) ≡ subtree_at f (b + i) = within_equal f a b i h (lead_in a h) (sym (lead_equal a h)) m in
          absurd (no_lead k told (b + i) (a + i) (omega arith) (omega (arith, fits_within f a h)) (omega (arith, within_ends f a i h m)) same e)

  -- the children g of p and of q: where one of p's has a position that names itself, the class of q's child tells p
  twin_found : (k p q : ℕ) → Told f c k → p < q → get_or c p 0 ≡ p → SameSign f c q p → (g : Forest) (d x : ℕ) → size g ≤ k → Stands f (p + d) g → Stands f (q + d) g
      → p + d ≤ x → x < p + d + size g → get_or c x 0 ≡ x → Nowhere (Twin f c q) (q + d) g → ⊥
  unfolding Stands Nowhere size
  twin_found k p q told l e s none d x m u v a b i t = omega arith
  twin_found k p q told l e s (grow y cs g) d x m u v a b i t = go (dec_lt x (p + d + size cs + 1)) (λ h. twin_found k p q told l e s g (d + size cs + 1) x (omega arith) (subst (λ (n : ℕ). Stands f n g) pd u.2) (subst (λ (n : ℕ). Stands f n g) qd v.2) (omega arith) (omega arith) i (subst (λ (n : ℕ). Nowhere (Twin f c q) n g) qd t.1))
    where
      pd : p + d + size cs + 1 ≡ p + (d + size cs + 1)
      pd = omega arith

      qd : q + d + size cs + 1 ≡ q + (d + size cs + 1)
      qd = omega arith

      kp : size (subtree_at f (p + d)).children ≡ size cs
      kp = ap (λ (t : Tree). size t.children) u.1

      kq : size (subtree_at f (q + d)).children ≡ size cs
      kq = ap (λ (t : Tree). size t.children) v.1

      go : Dec (x < p + d + size cs + 1) → (p + d + size cs + 1 ≤ x → ⊥) → ⊥
      go (no h) more = more (omega arith)
      go (yes h) more =
          let o : ℕ = x - (p + d) in
          let at : x ≡ p + d + o = omega arith in
          let low : o < 1 + size (subtree_at f (p + d)).children = omega (arith, kp) in
          let itself : get_or c (p + d + o) 0 ≡ p + d + o = subst (λ (n : ℕ). get_or c n 0 ≡ n) at i in
          let few : size (subtree_at f (p + d)).children < k = omega (arith, kp) in
          let lead : get_or c (p + d) 0 ≡ p + d = lead_above k told (p + d) o u.0 low few itself in
          let class : get_or c (q + d) 0 ≡ get_or c (p + d) 0 = told (q + d) (p + d) v.0 u.0 (omega (arith, kq)) (v.1 ∙ sym u.1) in
          t.0 (record { place = p; there = omega arith; before = l; itself = e; sign = s })

  module _ (new : (q : ℕ) → q < size f → get_or c q 0 ≡ q → Bare f c q → New f c q) where
    module _ (k : ℕ) (once : Once k) (p q : ℕ) (l : p < q) (h : q < size f) (small : size (subtree_at f q).children < suc k)
        (ep : get_or c p 0 ≡ p) (eq : get_or c q 0 ≡ q) (e : subtree_at f p ≡ subtree_at f q) where
      told : Told f c k
      told = once_told k once

      hp : p < size f
      hp = omega arith

      sizes : size (subtree_at f p).children ≡ size (subtree_at f q).children
      sizes = ap (λ (t : Tree). size t.children) e

      sign : SameSign f c q p
      sign = equal_sign f c k q p told h hp (omega arith) (sym e)

      q_bare : Bare f c q
      q_bare x a b d =
          let i : ℕ = x - q in
          let at : q + i ≡ x = omega arith in
          let low : i < 1 + size (subtree_at f q).children = omega arith in
          let same : subtree_at f (q + i) ≡ subtree_at f (p + i) = within_equal f q p i h hp (sym e) low in
          let itself : get_or c (q + i) 0 ≡ q + i = subst (λ (n : ℕ). get_or c n 0 ≡ n) (sym at) d in
          no_lead k told (p + i) (q + i) (omega arith) (omega (arith, fits_within f q h)) (omega (arith, within_ends f q i h low)) same itself

      kids_q : Stands f (q + 1) (subtree_at f p).children
      kids_q = subst (λ (t : Tree). Stands f (q + 1) t.children) (sym e) (kids_stand f q h)

      p_bare : Bare f c p
      p_bare x a b d =
          twin_found k p q told l ep sign (subtree_at f p).children 1 x (omega (arith, sizes)) (kids_stand f p hp) kids_q (omega arith) (omega arith) d
          (subst (λ (t : Tree). Nowhere (Twin f c q) (q + 1) t.children) (sym e) (new q h eq q_bare).twins)

      clash : ⊥
      clash = (new q h eq q_bare).bare p l ep p_bare sign

    all_once : (k : ℕ) → Once k
    all_once zero p q l h small ep eq e = absurd (omega arith)
    all_once (suc k) p q l h small ep eq e = clash k (all_once k) p q l h small ep eq e

    pub bare_first : (p : ℕ) → p < size f → FirstEqual f p (get_or c p 0)
    bare_first p h =
        record {
          upto = z.upto p h;
          equal = lead_equal p h;
          first = λ r m e.
              let k : ℕ = suc (size (subtree_at f r).children) in
              let in_f : r < size f = omega (arith, z.upto p h) in
              let same : get_or c r 0 ≡ get_or c p 0 = once_told k (all_once k) r p in_f h (omega arith) e in
              omega (arith, z.upto r in_f);
        }
