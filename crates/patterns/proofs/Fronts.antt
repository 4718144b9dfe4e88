-- How many symbols at the front of two lists are the same: all of them exactly if the lists are equal.
-- Assumes nothing.
use Prim.Native.Nat.{ℕ, zero, suc, ◌+◌, ◌-◌, ◌≤◌, ◌<◌}
use mathlib.Core.Path.{◌≡◌, refl, sym, ap, ◌∙◌}
use mathlib.Core.List.{List, [], ◌∷◌}
use mathlib.Core.Bool.{Bool, true, false}
use native.Mathlib.Omega.{arith}
use native.Mathlib.Nat.{add-zero, zero-add}
use native.Mathlib.Numerals.{add-one}
use borrow.Author.Tests.{eq-eqb, eqb-true}
use lib.Dec.{eqb}
use lib.ListN.{get_or, length, take, drop}
use lib.Seq.{drop-cons}
use Rattle.rows.specs.Row.{pick}
use Rattle.patterns.specs.Walk.{same_symbol, same_front, Alike}

pub front_same : (xs : List ℕ) → same_front xs xs ≡ length xs
unfolding same_front
front_same [] = refl
front_same (x ∷ xs) = rw (eq-eqb x x refl) (ap suc (front_same xs))

pub front_all : (xs ys : List ℕ) (n : ℕ) → length xs ≤ n → length ys ≤ n → same_front xs ys ≡ n → xs ≡ ys
unfolding same_front
front_all [] [] n a b q = refl
front_all [] (y ∷ ys) n a b q = absurd (omega arith)
front_all (x ∷ xs) [] n a b q = absurd (omega arith)
front_all (x ∷ xs) (y ∷ ys) n a b q = go (eqb x y) refl q (front_all xs ys (n - 1) (omega arith) (omega arith))
  where
    go : (c : Bool) → eqb x y ≡ c → pick c (suc (same_front xs ys)) 0 ≡ n → (same_front xs ys ≡ n - 1 → xs ≡ ys) → x ∷ xs ≡ y ∷ ys
    go true p r ih = cc (eqb-true x y p, ih (omega arith))
    go false p r ih = absurd (omega arith)

pub front_most : (n : ℕ) (l ys : List ℕ) → same_front (take n l) ys ≤ n
unfolding same_front
front_most zero l ys = omega arith
front_most (suc n) [] ys = omega arith
front_most (suc n) (x ∷ l) [] = omega arith
front_most (suc n) (x ∷ l) (y ∷ ys) = go (eqb x y) (front_most n l ys)
  where
    go : (c : Bool) → same_front (take n l) ys ≤ n → pick c (suc (same_front (take n l) ys)) 0 ≤ suc n
    go true h = omega arith
    go false h = omega arith

-- n symbols of the row, from place i of the n on
unfoldable pub run : List ℕ → ℕ → ℕ → ℕ → List ℕ
run w a n i = take (n - i) (drop (a + i) w)

run_cons : (w : List ℕ) (a n i : ℕ) → i < n → a + n ≤ length w → run w a n i ≡ get_or w (a + i) 0 ∷ run w a n (i + 1)
unfolding run
run_cons w a n i l h =
    let m : n - i ≡ suc (n - (i + 1)) = omega arith in
    let p : suc (a + i) ≡ a + (i + 1) = omega arith in
    rw (m, drop-cons w (a + i) 0 (omega arith), p) refl

-- i symbols are the same, and as many more as at the fronts of what is left
abbrev pub counted : List ℕ → ℕ → ℕ → ℕ → ℕ → ℕ
counted w a b n i = i + same_front (run w a n i) (run w b n i)

module _ (w : List ℕ) (a b n i : ℕ) (ha : a + n ≤ length w) (hb : b + n ≤ length w) where
  pub counted_start : same_front (take n (drop a w)) (take n (drop b w)) ≡ counted w a b n 0
  unfolding run
  counted_start =
      let z : n - 0 ≡ n = omega arith in
      rw (z, add-zero a, add-zero b, zero-add (same_front (take n (drop a w)) (take n (drop b w)))) refl

  counted_step : i < n → (c : Bool) → same_symbol (get_or w (a + i) 0) (get_or w (b + i) 0) ≡ c
      → counted w a b n i ≡ pick c (counted w a b n (i + 1)) i
  unfolding same_front
  counted_step l c q = rw (run_cons w a n i l ha, run_cons w b n i l hb, q) (go c)
    where
      go : (c : Bool) → i + pick c (suc (same_front (run w a n (i + 1)) (run w b n (i + 1)))) 0 ≡ pick c (counted w a b n (i + 1)) i
      go true = omega arith
      go false = add-zero i

  pub counted_more : i < n → same_symbol (get_or w (a + i) 0) (get_or w (b + i) 0) ≡ true → counted w a b n i ≡ counted w a b n (i + 1)
  counted_more l q = counted_step l true q

  pub counted_left : i < n → same_symbol (get_or w (a + i) 0) (get_or w (b + i) 0) ≡ false → counted w a b n i ≡ i
  counted_left l q = counted_step l false q

  pub counted_end : n ≤ i → counted w a b n i ≡ i
  unfolding same_front run
  counted_end l = let z : n - i ≡ 0 = omega arith in rw z (add-zero i)

-- SYMBOLS THAT ARE THE SAME, PLACE BY PLACE
-- so many are counted
pub alike_counted : (w : List ℕ) (a b n i : ℕ) → a + n ≤ length w → b + n ≤ length w → i ≤ n → Alike w a w b i → counted w a b n 0 ≡ counted w a b n i
alike_counted w a b n zero ha hb l h = refl
alike_counted w a b n (suc i) ha hb l h =
    alike_counted w a b n i ha hb (omega arith) (λ k u. h k (omega arith))
    ∙ counted_more w a b n i ha hb (omega arith) (eq-eqb _ _ (h i (omega arith)))
    ∙ ap (counted w a b n) (add-one i)

-- r of the m symbols that are left behind place i are the same
pub stretch_last : (w : List ℕ) (a b n i m r : ℕ) → r ≡ same_front (take m (drop (a + i) w)) (take m (drop (b + i) w)) → m ≡ n - i → counted w a b n i ≡ i + r
unfolding run
stretch_last w a b n i m r q z = ap (◌+◌ i) (ap (λ (x : ℕ). same_front (take x (drop (a + i) w)) (take x (drop (b + i) w))) (sym z) ∙ sym q)
