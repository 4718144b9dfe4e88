-- What is written of the positions that pass a test.
-- Assumes nothing.
use Prim.Native.Nat.{ℕ, ◌+◌, ◌-◌, ◌≤◌, ◌<◌}
use mathlib.Core.Path.{◌≡◌, refl, sym, ap, ◌∙◌}
use mathlib.Core.List.{List, [], ◌∷◌, ◌++◌, append_assoc, append-nil}
use mathlib.Core.Bool.{Bool, true, false}
use native.Mathlib.Omega.{arith}
use native.Mathlib.Nat.{zero-add}
use lib.ListN.{length, get_or, take, drop, set, length-append}
use lib.Seq.{take_at, drop-append-add, drop-drop, length-take-le}
use Rattle.rows.specs.Row.{pick}
use Rattle.rows.specs.Buffers.{written}
use Rattle.rows.proofs.Buffers.{written_nil, written_snoc}
use Rattle.searches.specs.Searches.{range, passing, Kept}
use Rattle.searches.proofs.Passing.{range-joined, passing-joined, passing-length, passing_more, passing_none, passing-alike, passing_all, passing_each, passing-twice}

-- one list behind another at the front
written-joined : (y xs ys : List ℕ) → written (written y 0 xs) (length xs) ys ≡ written y 0 (xs ++ ys)
unfolding written
written-joined y xs ys =
    let front : take (length xs) (xs ++ drop (0 + length xs) y) ≡ xs = take_at xs _ (length xs) refl in
    let end : 0 + length xs + length ys ≡ 0 + length (xs ++ ys) = omega (arith, length-append xs ys) in
    let behind : drop (length xs + length ys) (xs ++ drop (0 + length xs) y) ≡ drop (0 + length (xs ++ ys)) y =
    drop-append-add xs (drop (0 + length xs) y) (length ys) ∙ drop-drop (length ys) (0 + length xs) y ∙ ap (λ (n : ℕ). drop n y) end in
    rw (front, behind) (sym (append_assoc xs ys (drop (0 + length (xs ++ ys)) y)))

front-first : (xs ys : List ℕ) → 0 < length xs → get_or (xs ++ ys) 0 0 ≡ get_or xs 0 0
front-first [] ys h = absurd (omega arith)
front-first (x ∷ xs) ys h = refl

module _ (f : ℕ → Bool) (y : List ℕ) where
  -- the first of them
  pub kept-first : (ps : List ℕ) (r : ℕ) (y' : List ℕ) → Kept f ps y 0 r y' → 0 < r → get_or y' 0 0 ≡ get_or (passing f ps) 0 0
  unfolding written
  kept-first ps r y' k h = ap (λ (l : List ℕ). get_or l 0 0) k.buffer ∙ front-first (passing f ps) _ (omega (arith, k.end))

  -- nothing yet
  pub kept_none : (n : ℕ) → Kept f [] y n n y
  unfolding passing
  kept_none n = record { end = omega arith; buffer = sym (written_nil y n) }

  module _ (ps : List ℕ) (n i r : ℕ) (y' : List ℕ) (k : Kept f (take i ps) y n r y') (h : i < length ps) where
    -- one position more, which passes
    pub kept_more : n + i < length y → f (get_or ps i 0) ≡ true → Kept f (take (i + 1) ps) y n (r + 1) (set y' r (get_or ps i 0))
    kept_more room e =
        let xs : List ℕ = passing f (take i ps) in
        let more : passing f (take (i + 1) ps) ≡ xs ++ (get_or ps i 0 ∷ []) = passing_more f ps i h ∙ ap (λ (b : Bool). xs ++ pick b (get_or ps i 0 ∷ []) []) e in
        let few : length xs ≤ i = omega (arith, passing-length f (take i ps), length-take-le i ps (omega arith)) in
        record {
          end = omega (arith, k.end, ap length more, length-append xs (get_or ps i 0 ∷ []));
          buffer =
              ap (λ (l : List ℕ). set l r (get_or ps i 0)) k.buffer
              ∙ ap (λ (m : ℕ). set (written y n xs) m (get_or ps i 0)) k.end
              ∙ written_snoc y n xs (get_or ps i 0) (omega arith)
              ∙ ap (written y n) (sym more);
        }

    -- or does not
    pub kept_same : f (get_or ps i 0) ≡ false → Kept f (take (i + 1) ps) y n r y'
    kept_same e =
        let same : passing f (take (i + 1) ps) ≡ passing f (take i ps) =
        passing_more f ps i h ∙ ap (λ (b : Bool). passing f (take i ps) ++ pick b (get_or ps i 0 ∷ []) []) e ∙ append-nil (passing f (take i ps)) in
        record { end = k.end ∙ ap (λ (l : List ℕ). n + length l) (sym same); buffer = k.buffer ∙ ap (written y n) (sym same) }

  -- by a test that says the same
  pub kept-alike : (g : ℕ → Bool) (ps : List ℕ) (b r : ℕ) (y' : List ℕ) → ((i : ℕ) → i < length ps → g (get_or ps i 0) ≡ f (get_or ps i 0)) → Kept g ps y b r y' → Kept f ps y b r y'
  kept-alike g ps b r y' h k =
      let same : passing g ps ≡ passing f ps = passing-alike f g ps h in
      record { end = k.end ∙ ap (λ (l : List ℕ). b + length l) same; buffer = k.buffer ∙ ap (written y b) same }

  -- CANDIDATES: of a range of positions, the first m of the list ps are those that pass a test g, which is passed wherever f is
  module _ (g : ℕ → Bool) (a n m : ℕ) (ps : List ℕ) (h : take m ps ≡ passing g (range a n)) (implied : (x : ℕ) → a ≤ x → x < a + n → g x ≡ false → f x ≡ false) where
    same_passing : passing f (take m ps) ≡ passing f (range a n)
    same_passing = ap (passing f) h ∙ passing-twice f g a n implied

    pub candidates_kept : (b r : ℕ) (y' : List ℕ) → Kept f (take m ps) y b r y' → Kept f (range a n) y b r y'
    candidates_kept b r y' k =
        record { end = k.end ∙ ap (λ (l : List ℕ). b + length l) same_passing; buffer = k.buffer ∙ ap (written y b) same_passing }

    -- or both tests are the same
    pub candidates_all : ((x : ℕ) → a ≤ x → x < a + n → g x ≡ true → f x ≡ true) → take m ps ≡ passing f (range a n)
    candidates_all also =
        h
        ∙ sym (passing_all f (passing g (range a n)) (λ i l. let e = passing_each g a n i l in also (get_or (passing g (range a n)) i 0) e.0 e.1 e.2))
        ∙ passing-twice f g a n implied

  -- all before p are kept, none passes up to `from`, and those of a stretch are kept
  pub kept_on : (p from to r r' : ℕ) (y' y'' : List ℕ) → Kept f (range 0 p) y 0 r y' → p ≤ from → from ≤ to → ((x : ℕ) → p ≤ x → x < from → f x ≡ false)
      → Kept f (range from (to - from)) y' r r' y'' → Kept f (range 0 to) y 0 r' y''
  kept_on p from to r r' y' y'' k l u none s =
      let xs : List ℕ = passing f (range 0 p) in
      let zs : List ℕ = passing f (range from (to - from)) in
      let gap : passing f (range p (from - p)) ≡ [] = passing_none f p (from - p) (λ x l u. none x l (omega arith)) in
      let to-from : p + (from - p) ≡ from = omega arith in
      let to-to : from + (to - from) ≡ to = omega arith in
      let first : passing f (range 0 from) ≡ xs =
      ap (λ (m : ℕ). passing f (range 0 m)) (sym to-from)
      ∙ ap (passing f) (range-joined 0 p (from - p))
      ∙ passing-joined f (range 0 p) (range (0 + p) (from - p))
      ∙ ap (λ (m : ℕ). xs ++ passing f (range m (from - p))) (zero-add p)
      ∙ ap (◌++◌ xs) gap
      ∙ append-nil xs in
      let all : passing f (range 0 to) ≡ xs ++ zs =
      ap (λ (m : ℕ). passing f (range 0 m)) (sym to-to)
      ∙ ap (passing f) (range-joined 0 from (to - from))
      ∙ passing-joined f (range 0 from) (range (0 + from) (to - from))
      ∙ ap (λ (m : ℕ). passing f (range 0 from) ++ passing f (range m (to - from))) (zero-add from)
      ∙ ap (λ (v : List ℕ). v ++ zs) first in
      let many : r ≡ length xs = omega (arith, k.end) in
      record {
        end = omega (arith, s.end, many, ap length all, length-append xs zs);
        buffer =
            s.buffer
            ∙ ap (λ (b : List ℕ). written b r zs) k.buffer
            ∙ ap (λ (m : ℕ). written (written y 0 xs) m zs) many
            ∙ written-joined y xs zs
            ∙ ap (written y 0) (sym all);
      }
