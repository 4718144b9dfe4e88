-- A subtree that was there before: where that is right, all of it is.
-- Assumes nothing.
use Prim.Native.Nat.{ℕ, zero, suc, ◌+◌, ◌-◌, ◌≤◌, ◌<◌}
use mathlib.Core.Path.{◌≡◌, refl, sym, ap, ◌∙◌, subst}
use mathlib.Core.List.{List}
use native.Mathlib.Nat.{add-zero}
use native.Mathlib.Decide.{dec_lt}
use native.Mathlib.Omega.{arith}
use lib.ListN.{length, get_or}
use Rattle.rows.specs.Tree.{Forest, size, subtree_at}
use Rattle.rows.specs.Classes.{SameSign}
use Rattle.classes.specs.Shown.{Shown}
use Rattle.class_checks.specs.Repeats.{Local, SamePart, Repeat}
use Rattle.rows.proofs.Classes.{sign_trans}
use Rattle.classes.proofs.Within.{within_equal, within_ends}
use Rattle.class_checks.proofs.Parts.{part_sign, part_equal, part_on}

-- before n, or at n
at_end : (P : ℕ → Type 0) (n x : ℕ) → x < n + 1 → (x < n → P x) → P n → P x
at_end P n x h a b = go (dec_lt x n)
  where
    go : Dec (x < n) → P x
    go (yes m) = a m
    go (no m) = let e : n ≡ x = omega arith in subst P e b

pub local_none : (f : Forest) (c : List ℕ) → Local f c 0
local_none f c = record { upto = λ x h. absurd (omega arith); leads = λ x h. absurd (omega arith); same = λ x h. absurd (omega arith) }

pub local_more : {f : Forest} {c : List ℕ} {n : ℕ} → Local f c n → get_or c n 0 ≤ n → get_or c (get_or c n 0) 0 ≡ get_or c n 0 → SameSign f c n (get_or c n 0)
    → Local f c (n + 1)
local_more {f} {c} {n} z a b d =
    record {
      upto = λ x h. at_end (λ (y : ℕ). get_or c y 0 ≤ y) n x h (z.upto x) a;
      leads = λ x h. at_end (λ (y : ℕ). get_or c (get_or c y 0) 0 ≡ get_or c y 0) n x h (z.leads x) b;
      same = λ x h. at_end (λ (y : ℕ). SameSign f c y (get_or c y 0)) n x h (z.same x) d;
    }

pub local_leader : {f : Forest} {c : List ℕ} {n : ℕ} → Local f c n → get_or c n 0 ≡ n → Local f c (n + 1)
local_leader {f} {c} {n} z e =
    local_more z (omega arith) (ap (λ (k : ℕ). get_or c k 0) e) (subst (SameSign f c n) (sym e) (record { symbol = refl; children = refl }))

module _ {f : Forest} {w t : List ℕ} (s : Shown f w t) (c : List ℕ) (p q : ℕ) (h : p < length w) (r : Repeat w c p q (get_or t p 0 - p)) where
  abbrev K : ℕ
  K = size (subtree_at f p).children

  long : get_or t p 0 - p ≡ 1 + K
  long = omega (arith, s.ends p h)

  in_p : p < size f
  in_p = omega (arith, s.many)

  in_q : q < size f
  in_q = omega (arith, s.many, r.before)

  symbols : SamePart w p q (1 + K)
  symbols = subst (SamePart w p q) long r.symbols

  classes : SamePart c p q (1 + K)
  classes = subst (SamePart c p q) long r.classes

  equal : subtree_at f p ≡ subtree_at f q
  equal = part_equal s p q h (omega (arith, r.before)) symbols

  sign_at : (i : ℕ) → i < 1 + K → SameSign f c (p + i) (q + i)
  sign_at i m =
      let e : subtree_at f (p + i) ≡ subtree_at f (q + i) = within_equal f p q i in_p in_q equal m in
      let fit = within_ends f p i in_p m in
      let D : ℕ = size (subtree_at f (p + i)).children in
      let x : p + (i + 1) ≡ p + i + 1 = omega arith in
      let y : q + (i + 1) ≡ q + i + 1 = omega arith in
      let part : SamePart c (p + (i + 1)) (q + (i + 1)) D = part_on c p q (1 + K) (i + 1) D classes (omega arith) in
      part_sign f c (p + i) (q + i) e
      (subst (λ (n : ℕ). SamePart c (p + i + 1) n D) y (subst (λ (n : ℕ). SamePart c n (q + (i + 1)) D) x part))

  skip_to : (i : ℕ) → i ≤ 1 + K → Local f c p → Local f c (p + i)
  skip_to zero m z = subst (Local f c) (sym (add-zero p)) z
  skip_to (suc i) m z =
      let l : Local f c (p + i) = skip_to i (omega arith) z in
      let less : q + i < p + i = omega (arith, r.before) in
      let e : get_or c (p + i) 0 ≡ get_or c (q + i) 0 = classes i (omega arith) in
      let on : p + i + 1 ≡ p + suc i = omega arith in
      subst (Local f c) on
      (local_more l (omega (arith, l.upto (q + i) less))
      (ap (λ (k : ℕ). get_or c k 0) e ∙ l.leads (q + i) less ∙ sym e)
      (sign_trans (sign_at i (omega arith)) (subst (SameSign f c (q + i)) (sym e) (l.same (q + i) less))))

  follow_at : (i : ℕ) → i < 1 + K → Local f c p → get_or c (p + i) 0 < p + i
  follow_at i m z =
      let l : Local f c (p + i) = skip_to i (omega arith) z in
      let less : q + i < p + i = omega (arith, r.before) in
      omega (arith, classes i m, l.upto (q + i) less)

  -- all of it is right, and no position of it names itself
  pub skipped : Local f c p → Local f c (get_or t p 0)
  skipped z = let e : p + (1 + K) ≡ get_or t p 0 = omega (arith, s.ends p h) in subst (Local f c) e (skip_to (1 + K) (omega arith) z)

  pub skipped_follow : Local f c p → (x : ℕ) → p ≤ x → x < get_or t p 0 → get_or c x 0 ≡ x → ⊥
  skipped_follow z x a b e =
      let i : ℕ = x - p in
      let y : p + i ≡ x = omega arith in
      let m : get_or c (p + i) 0 < p + i = follow_at i (omega (arith, s.ends p h)) z in
      let g : get_or c (p + i) 0 ≡ get_or c x 0 = ap (λ (n : ℕ). get_or c n 0) y in
      omega arith
