-- What a check that reads a list from left to right says at position i, from the element there: the step of each loop.
-- Assumes nothing.
use Rattle.std.specs.Prelude.{Result, Ok, Err, ⊤}
use Prim.Native.Nat.{ℕ, zero, suc, ◌+◌, ◌-◌, ◌≤◌, ◌<◌}
use mathlib.Core.Path.{◌≡◌, refl, ap, ◌∙◌, subst}
use mathlib.Core.List.{List, [], ◌∷◌}
use mathlib.Core.Bool.{Bool, true, false}
use native.Mathlib.Numerals.{add-one}
use native.Mathlib.Omega.{arith}
use native.Mathlib.Decide.{dec_lt}
use lib.Dec.{ltb, eqb}
use lib.ListN.{length, get_or, take, drop, length-drop, drop_of_length-le}
use lib.Seq.{drop-cons, length-take-le, get_or-take, get_or-drop}
use borrow.Author.Tests.{lt-ltb, le-ltb, ltb-false}
use Rattle.rows.specs.Row.{pick, verdict, allowed, sized}
use Rattle.rows.specs.Reading.{ReadTo, BelowTo}
use Rattle.rows.specs.declared.Leaves.{Leaves}
use Rattle.rows.specs.declared.Leaves.TheVariants.{Symbols, Blanks}
use Rattle.rows.specs.Refusals.{arities_fit, some_leaf}
use Rattle.rows.specs.declared.Fault.{Fault}
use Rattle.rows.specs.declared.Fault.TheVariants.{Empty, Long, Stray, Early, Extra}
use Rattle.rows.specs.Limits.{arity_most}
use Rattle.rows.specs.declared.Arities.TheVariants.{Over}
use Rattle.rows.specs.declared.Refusal.TheVariants.{Arities}

-- the list from i on is its element there and the list from i + 1 on
pub drop_more : (l : List ℕ) (i : ℕ) → i < length l → drop i l ≡ get_or l i 0 ∷ drop (i + 1) l
drop_more l i h = rw add-one (drop-cons l i 0 h)

pub arity_at : (l : List ℕ) (i : ℕ) → i < length l
    → arities_fit i (drop i l) ≡ pick (ltb arity_most (get_or l i 0)) (Err (Arities (Over i))) (arities_fit (i + 1) (drop (i + 1) l))
unfolding arities_fit
arity_at l i h = ap (arities_fit i) (drop_more l i h)

-- what the check says of the alphabet it says of the arities behind those that fit
pub arities-behind : (l : List ℕ) (n : ℕ) → BelowTo (arity_most + 1) l n → arities_fit 0 l ≡ arities_fit n (drop n l)
arities-behind l zero h = refl
arities-behind l (suc n) h =
    arities-behind l n (omega (arith, h.0), λ k u. h.1 k (omega arith))
    ∙ arity_at l n (omega (arith, h.0))
    ∙ simp (le-ltb arity_most (get_or l n 0) (omega (arith, h.1 n (omega arith))), add-one)

pub leaf_at : (l : List ℕ) (i : ℕ) → i < length l → some_leaf (drop i l) ≡ pick (eqb (get_or l i 0) 0) (Ok tt) (some_leaf (drop (i + 1) l))
unfolding some_leaf
leaf_at l i h = ap some_leaf (drop_more l i h)

verdict_at : (A : List ℕ) (ok : ℕ → Bool) (l : List ℕ) (k i : ℕ) → i < length l → 0 < k
    → verdict A ok k i (drop i l)
    ≡ pick (ok (get_or l i 0)) (verdict A ok (k - 1 + get_or A (get_or l i 0) 0) (i + 1) (drop (i + 1) l)) (Err (Stray i))
unfolding verdict
verdict_at A ok l k i h more =
    let one : k ≡ suc (k - 1) = omega arith in
    ap (λ (n : ℕ). verdict A ok n i (drop i l)) one ∙ ap (verdict A ok (suc (k - 1)) i) (drop_more l i h)

verdict_extra : (A : List ℕ) (ok : ℕ → Bool) (l : List ℕ) (i : ℕ) → i < length l → verdict A ok 0 i (drop i l) ≡ Err (Extra i)
unfolding verdict
verdict_extra A ok l i h = ap (verdict A ok 0 i) (drop_more l i h)

pub verdict_whole : (A : List ℕ) (ok : ℕ → Bool) (i : ℕ) → verdict A ok 0 i [] ≡ Ok tt
unfolding verdict
verdict_whole A ok i = refl

pub verdict_early : (A : List ℕ) (ok : ℕ → Bool) (k i : ℕ) → 0 < k → verdict A ok k i [] ≡ Err (Early i)
unfolding verdict
verdict_early A ok zero i h = absurd (omega arith)
verdict_early A ok (suc k) i h = refl

-- past its last number a list is read as the empty one
verdict_end : (A : List ℕ) (ok : ℕ → Bool) (l : List ℕ) (k i : ℕ) → length l ≤ i → verdict A ok k i (drop i l) ≡ verdict A ok k i []
verdict_end A ok l k i h = ap (verdict A ok k i) (drop_of_length-le l h)

-- a list that is read up to position i
pub read_start : (A : List ℕ) (ok : ℕ → Bool) (w : List ℕ) → ReadTo A ok w 0 1
read_start A ok w = (omega arith, omega arith, omega arith, refl)

module _ (A : List ℕ) (ok : ℕ → Bool) (w : List ℕ) (i due : ℕ) (r : ReadTo A ok w i due) where
  -- its numbers have run out
  pub read_done : length w ≤ i → verdict A ok 1 0 w ≡ verdict A ok (due - length w) (length w) []
  read_done h =
      let end : i ≡ length w = omega arith in
      r.3 ∙ verdict_end A ok w (due - i) i h ∙ ap (λ (n : ℕ). verdict A ok (due - n) n []) end

  -- the number at i: nothing is due there, or it may not stand, or its children are due
  module _ (h : i < length w) where
    pub read_extra : due ≡ i → verdict A ok 1 0 w ≡ Err (Extra i)
    read_extra e =
        let none : due - i ≡ 0 = omega arith in
        r.3 ∙ ap (λ (n : ℕ). verdict A ok n i (drop i w)) none ∙ verdict_extra A ok w i h

    module _ (more : i < due) where
      read_here : (b : Bool) → ok (get_or w i 0) ≡ b
          → verdict A ok 1 0 w ≡ pick b (verdict A ok (due - i - 1 + get_or A (get_or w i 0) 0) (i + 1) (drop (i + 1) w)) (Err (Stray i))
      read_here b q =
          r.3
          ∙ verdict_at A ok w (due - i) i h (omega arith)
          ∙ ap (λ (c : Bool). pick c (verdict A ok (due - i - 1 + get_or A (get_or w i 0) 0) (i + 1) (drop (i + 1) w)) (Err (Stray i))) q

      pub read_stray : ok (get_or w i 0) ≡ false → verdict A ok 1 0 w ≡ Err (Stray i)
      read_stray q = read_here false q

      pub read_next : ok (get_or w i 0) ≡ true → get_or A (get_or w i 0) 0 ≤ 65535 → ReadTo A ok w (i + 1) (due + get_or A (get_or w i 0) 0)
      read_next q few =
          let same : due - i - 1 + get_or A (get_or w i 0) 0 ≡ due + get_or A (get_or w i 0) 0 - (i + 1) = omega arith in (
            omega arith,
            omega arith,
            omega (arith, r.2),
            read_here true q ∙ ap (λ (n : ℕ). verdict A ok n (i + 1) (drop (i + 1) w)) same,
          )

-- a symbol of the alphabet is allowed everywhere
pub allowed-symbol : (k : Leaves) (A : List ℕ) (s : ℕ) → s < length A → allowed k A s ≡ true
allowed-symbol Symbols A s h = lt-ltb s (length A) h
allowed-symbol Blanks A s h = simp (lt-ltb s (length A) h)

-- a stretch that has no number above r is below the bound, if r is
pub below_more : (m : ℕ) (w : List ℕ) (n k r : ℕ) → BelowTo m w n → n + k ≤ length w
    → ((j : ℕ) → j < length (take k (drop n w)) → get_or (take k (drop n w)) j 0 ≤ r) → r < m → BelowTo m w (n + k)
below_more m w n k r front within all small = (within, λ j h. at j h (dec_lt j n))
  where
    long : length (take k (drop n w)) ≡ k
    long = length-take-le k (drop n w) (omega (arith, length-drop n w))

    at : (j : ℕ) → j < n + k → Dec (j < n) → get_or w j 0 < m
    at j h (yes l) = front.1 j l
    at j h (no l) =
        let back : n + (j - n) ≡ j = omega arith in
        let same : get_or (take k (drop n w)) (j - n) 0 ≡ get_or w j 0 =
        get_or-take k (drop n w) (j - n) 0 (omega arith) ∙ get_or-drop n w (j - n) 0 ∙ ap (λ (i : ℕ). get_or w i 0) back in
        omega (arith, all (j - n) (omega (arith, long)), same)

-- and a part that ends where the list does may be shorter
pub below_part : (m : ℕ) (w s : List ℕ) (n e r : ℕ) → BelowTo m w n → n ≤ e → e ≤ length w → s ≡ take (e - n) (drop n w)
    → ((j : ℕ) → j < length s → get_or s j 0 ≤ r) → r < m → BelowTo m w e
below_part m w s n e r front on within is all small =
    let end : n + (e - n) ≡ e = omega arith in
    subst (BelowTo m w) end
    (below_more m w n (e - n) r front (omega arith) (subst (λ (l : List ℕ). (j : ℕ) → j < length l → get_or l j 0 ≤ r) is all) small)

-- a length that is accepted is from 1 to the most
pub sized_fits : (n m : ℕ) → sized n m ≡ Ok tt → (0 < n) × (n ≤ m)
unfolding sized
sized_fits n m e = go (ltb n 1) (ltb m n) refl refl e
  where
    go : (a b : Bool) → ltb n 1 ≡ a → ltb m n ≡ b → pick {X = Result ⊤ Fault} a (Err Empty) (pick b (Err (Long n)) (Ok tt)) ≡ Ok tt → (0 < n) × (n ≤ m)
    go true b p q e = let z : ◌≡◌ {A = ℕ} 0 1 = cc in absurd (omega arith)
    go false true p q e = let z : ◌≡◌ {A = ℕ} 0 1 = cc in absurd (omega arith)
    go false false p q e = (ltb-false n 1 p, ltb-false m n q)

-- and a length from 1 to the most is accepted
pub sized_whole : (n most : ℕ) → 0 < n → n ≤ most → sized n most ≡ Ok tt
unfolding sized
sized_whole n most h k = rw (le-ltb n 1 h, le-ltb most n k) refl
