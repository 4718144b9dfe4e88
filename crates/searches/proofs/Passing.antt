-- Positions that pass a test, in the order of a row.
-- Assumes nothing.
use Prim.Native.Nat.{ℕ, zero, suc, ◌+◌, ◌-◌, ◌≤◌, ◌<◌}
use mathlib.Core.Path.{◌≡◌, refl, sym, ap, ap₂, ◌∙◌}
use mathlib.Core.List.{List, [], ◌∷◌, ◌++◌, append-nil}
use mathlib.Core.Bool.{Bool, true, false}
use native.Mathlib.Omega.{arith}
use native.Mathlib.Decide.{ℕ_discrete}
use native.Mathlib.Nat.{zero-add}
use native.Mathlib.Numerals.{add-one}
use lib.ListN.{length, get_or, take, set}
use lib.Seq.{take-suc, take-suc-set, take-set-le}
use Rattle.rows.specs.Row.{pick}
use Rattle.patterns.specs.Walk.{below}
use Rattle.searches.specs.Searches.{range, passing}

pub range_length : (a n : ℕ) → length (range a n) ≡ n
unfolding range
range_length a zero = refl
range_length a (suc n) = ap suc (range_length (suc a) n)

pub range-joined : (a n m : ℕ) → range a (n + m) ≡ range a n ++ range (a + n) m
unfolding range
range-joined a zero m = let z : 0 + m ≡ m = omega arith in let y : a + 0 ≡ a = omega arith in rw (z, y) refl
range-joined a (suc n) m =
    let z : suc n + m ≡ suc (n + m) = omega arith in let y : a + suc n ≡ suc a + n = omega arith in rw (z, y) (ap (◌∷◌ a) (range-joined (suc a) n m))

module _ (f : ℕ → Bool) where
  pub passing-joined : (xs ys : List ℕ) → passing f (xs ++ ys) ≡ passing f xs ++ passing f ys
  unfolding passing
  passing-joined [] ys = refl
  passing-joined (x ∷ xs) ys = go (f x) (passing-joined xs ys)
    where
      go : (b : Bool) → passing f (xs ++ ys) ≡ passing f xs ++ passing f ys
          → pick b (x ∷ passing f (xs ++ ys)) (passing f (xs ++ ys)) ≡ pick b (x ∷ passing f xs) (passing f xs) ++ passing f ys
      go true h = ap (◌∷◌ x) h
      go false h = h

  pub passing_one : (x : ℕ) → passing f (x ∷ []) ≡ pick (f x) (x ∷ []) []
  unfolding passing
  passing_one x = refl

  pub passing-length : (xs : List ℕ) → length (passing f xs) ≤ length xs
  unfolding passing
  passing-length [] = omega arith
  passing-length (x ∷ xs) = go (f x) (passing-length xs)
    where
      go : (b : Bool) → length (passing f xs) ≤ length xs → length (pick b (x ∷ passing f xs) (passing f xs)) ≤ suc (length xs)
      go true h = omega arith
      go false h = omega arith

  -- one position more
  pub passing_next : (a n : ℕ) → passing f (range a (n + 1)) ≡ passing f (range a n) ++ pick (f (a + n)) ((a + n) ∷ []) []
  unfolding range
  passing_next a n = ap (passing f) (range-joined a n 1) ∙ passing-joined (range a n) (range (a + n) 1) ∙ ap (◌++◌ (passing f (range a n))) (passing_one (a + n))

  pub passing_more : (ps : List ℕ) (i : ℕ) → i < length ps → passing f (take (i + 1) ps) ≡ passing f (take i ps) ++ pick (f (get_or ps i 0)) (get_or ps i 0 ∷ []) []
  passing_more ps i h =
      ap (λ (n : ℕ). passing f (take n ps)) (add-one i)
      ∙ ap (passing f) (take-suc ps i 0 h)
      ∙ passing-joined (take i ps) (get_or ps i 0 ∷ [])
      ∙ ap (◌++◌ (passing f (take i ps))) (passing_one (get_or ps i 0))

  -- another test that says the same
  pub passing-alike : (g : ℕ → Bool) (xs : List ℕ) → ((i : ℕ) → i < length xs → g (get_or xs i 0) ≡ f (get_or xs i 0)) → passing g xs ≡ passing f xs
  unfolding passing
  passing-alike g [] h = refl
  passing-alike g (x ∷ xs) h = ap₂ (λ (b : Bool) (l : List ℕ). pick b (x ∷ l) l) (h 0 (omega arith)) (passing-alike g xs (λ i l. h (suc i) (omega arith)))

  -- none of them
  pub passing_none : (a n : ℕ) → ((x : ℕ) → a ≤ x → x < a + n → f x ≡ false) → passing f (range a n) ≡ []
  unfolding passing range
  passing_none a zero h = refl
  passing_none a (suc n) h = rw (h a (omega arith) (omega arith)) (passing_none (suc a) n (λ x l u. h x (omega arith) (omega arith)))

  -- all of them
  pub passing_all : (xs : List ℕ) → ((i : ℕ) → i < length xs → f (get_or xs i 0) ≡ true) → passing f xs ≡ xs
  unfolding passing
  passing_all [] h = refl
  passing_all (x ∷ xs) h = rw (h 0 (omega arith)) (ap (◌∷◌ x) (passing_all xs (λ i l. h (suc i) (omega arith))))

  -- each of them
  pub passing_each : (a n i : ℕ) → i < length (passing f (range a n)) → (let x = get_or (passing f (range a n)) i 0 in (a ≤ x) × (x < a + n) × (f x ≡ true))
  unfolding passing range
  passing_each a zero i h = absurd (omega arith)
  passing_each a (suc n) i h = go (f a) refl i h (passing_each (suc a) n)
    where
      go : (b : Bool) → f a ≡ b → (i : ℕ) → i < length (pick b (a ∷ passing f (range (suc a) n)) (passing f (range (suc a) n)))
          → ((i : ℕ) → i < length (passing f (range (suc a) n)) → (let x = get_or (passing f (range (suc a) n)) i 0 in (suc a ≤ x) × (x < suc a + n) × (f x ≡ true)))
          → (let x = get_or (pick b (a ∷ passing f (range (suc a) n)) (passing f (range (suc a) n))) i 0 in (a ≤ x) × (x < a + suc n) × (f x ≡ true))
      go true e zero h ih = (omega arith, omega arith, e)
      go true e (suc i) h ih = let r = ih i (omega arith) in (omega (arith, r.0), omega (arith, r.1), r.2)
      go false e i h ih = let r = ih i h in (omega (arith, r.0), omega (arith, r.1), r.2)

  -- where there is none, none passes
  pub passing_empty : (a n : ℕ) → length (passing f (range a n)) ≡ 0 → (x : ℕ) → a ≤ x → x < a + n → f x ≡ false
  unfolding passing range
  passing_empty a zero h x l u = absurd (omega arith)
  passing_empty a (suc n) h x l u = go (f a) refl h (passing_empty (suc a) n)
    where
      go : (b : Bool) → f a ≡ b → length (pick b (a ∷ passing f (range (suc a) n)) (passing f (range (suc a) n))) ≡ 0
          → (length (passing f (range (suc a) n)) ≡ 0 → (x : ℕ) → suc a ≤ x → x < suc a + n → f x ≡ false) → f x ≡ false
      go true e h ih = absurd (omega arith)
      go false e h ih = at (ℕ_discrete x a)
        where
          at : Dec (x ≡ a) → f x ≡ false
          at (yes d) = ap f d ∙ e
          at (no d) = ih h x (omega arith) (omega arith)

  -- and before the first, none does
  pub passing-first : (a n : ℕ) → (x : ℕ) → a ≤ x → x < get_or (passing f (range a n)) 0 0 → f x ≡ false
  unfolding passing range
  passing-first a zero x l u = absurd (omega arith)
  passing-first a (suc n) x l u = go (f a) refl u (passing-first (suc a) n)
    where
      go : (b : Bool) → f a ≡ b → x < get_or (pick b (a ∷ passing f (range (suc a) n)) (passing f (range (suc a) n))) 0 0
          → ((x : ℕ) → suc a ≤ x → x < get_or (passing f (range (suc a) n)) 0 0 → f x ≡ false) → f x ≡ false
      go true e h ih = absurd (omega arith)
      go false e h ih = at (ℕ_discrete x a)
        where
          at : Dec (x ≡ a) → f x ≡ false
          at (yes d) = ap f d ∙ e
          at (no d) = ih x (omega arith) h

  -- the computed list is the same
  pub below-passing : (n : ℕ) → below f n ≡ passing f (range 0 n)
  unfolding below passing range
  below-passing zero = refl
  below-passing (suc n) =
      ap₂ (λ (l : List ℕ) (m : ℕ). l ++ pick (f m) (m ∷ []) []) (below-passing n) (sym (zero-add n))
      ∙ sym (passing_next 0 n)
      ∙ ap (λ (m : ℕ). passing f (range 0 m)) (add-one n)

  -- a test that is passed wherever f is may come first
  pub passing-twice : (g : ℕ → Bool) (a n : ℕ) → ((x : ℕ) → a ≤ x → x < a + n → g x ≡ false → f x ≡ false) → passing f (passing g (range a n)) ≡ passing f (range a n)
  unfolding passing range
  passing-twice g a zero h = refl
  passing-twice g a (suc n) h = go (g a) refl (passing-twice g (suc a) n (λ x l u. h x (omega arith) (omega arith)))
    where
      go : (b : Bool) → g a ≡ b → passing f (passing g (range (suc a) n)) ≡ passing f (range (suc a) n)
          → passing f (pick b (a ∷ passing g (range (suc a) n)) (passing g (range (suc a) n))) ≡ pick (f a) (a ∷ passing f (range (suc a) n)) (passing f (range (suc a) n))
      go true e ih = ap (λ (l : List ℕ). pick (f a) (a ∷ l) l) ih
      go false e ih = rw (h a (omega arith) (omega arith) e) ih

-- A position is written behind the m of the range that pass, and then it is one of them or not.
module _ (f : ℕ → Bool) (l : List ℕ) (a p m : ℕ) (on : a ≤ p) (room : m < length l) (h : take m l ≡ passing f (range a (p - a))) where
  next : (b : Bool) → f p ≡ b → passing f (range a (p - a)) ++ pick b (p ∷ []) [] ≡ passing f (range a (p + 1 - a))
  next b e =
      let here : a + (p - a) ≡ p = omega arith in
      let more : p - a + 1 ≡ p + 1 - a = omega arith in
      ap (λ (c : Bool). passing f (range a (p - a)) ++ pick c (p ∷ []) []) (sym e)
      ∙ ap (λ (x : ℕ). passing f (range a (p - a)) ++ pick (f x) (x ∷ []) []) (sym here)
      ∙ sym (passing_next f a (p - a))
      ∙ ap (λ (n : ℕ). passing f (range a n)) more

  pub noted_more : f p ≡ true → take (m + 1) (set l m p) ≡ passing f (range a (p + 1 - a))
  noted_more e = ap (λ (n : ℕ). take n (set l m p)) (add-one m) ∙ take-suc-set l m p room ∙ ap (λ (v : List ℕ). v ++ (p ∷ [])) h ∙ next true e

  pub noted_same : f p ≡ false → take m (set l m p) ≡ passing f (range a (p + 1 - a))
  noted_same e = take-set-le m l m p (omega arith) ∙ h ∙ sym (append-nil (passing f (range a (p - a)))) ∙ next false e
