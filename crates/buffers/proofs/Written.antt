-- Laws of `written`: the turns of a loop that writes a list into a buffer, from its first number on or from its last; parts
-- that are written side by side; a part that was lent to a callee.
-- Assumes nothing.
use Prim.Native.Nat.{ℕ, zero, suc, ◌+◌, ◌-◌, ◌≤◌, ◌<◌}
use mathlib.Core.Path.{◌≡◌, refl, sym, ap, ◌∙◌}
use mathlib.Core.List.{List, [], ◌∷◌, ◌++◌, map, append_assoc, append-nil}
use native.Mathlib.Nat.{add-zero, add-suc, suc-add, zero-add, add_assoc}
use native.Mathlib.Numerals.{add-one}
use native.Mathlib.Omega.{arith}
use borrow.Rule.Slice.PartMut.{put_mid}
use lib.ListN.{length, length-map, take, drop, set, get_or, length-append, length-take, length-drop, take-append-drop, get_or-append, drop_of_length-le}
use lib.Seq.{drop-cons, take_all, take-take, drop-drop, take_at, drop_at, length-take-le, take-suc, set_at, set-get_or, get_or-append-add, take-append-le, get_or-take, get_or-drop}
use Rattle.std.proofs.lemmas.List.{get_or_at}
use Rattle.rows.specs.Buffers.{written}
use Rattle.rows.proofs.Buffers.{written_nil, written_snoc}

-- a part written at its own place
pub written_still : (b : List ℕ) (at len : ℕ) → at + len ≤ length b → written b at (take len (drop at b)) ≡ b
unfolding written
written_still b at len h =
    let l : len ≤ length (drop at b) = simp length-drop (omega arith) in
    rw (length-take-le len (drop at b) l, ← drop-drop len at b, take-append-drop len (drop at b), take-append-drop at b)

-- one number more at the front of what is written
written_cons : (b : List ℕ) (k : ℕ) (v : List ℕ) (x : ℕ) → k < length b → set (written b (suc k) v) k x ≡ written b k (x ∷ v)
unfolding written
written_cons b k v x h =
    let l : length (take k b) ≡ k = length-take-le k b (omega arith) in
    rw (take-suc b k 0 h, append_assoc, set_at (take k b) _ _ x _ l, add-suc, suc-add)

-- what the library says of a part that is copied, and of one that is lent and written over
pub written_to : {X : Type 0} (b v : List X) (at n : ℕ) → n ≡ at + length v → take at b ++ (v ++ drop n b) ≡ written b at v
unfolding written
written_to b v at n e = ap (λ (k : ℕ). take at b ++ (v ++ drop k b)) e

pub written_part : {X : Type 0} (b v : List X) (at k : ℕ) → length v ≡ k → put_mid at k b v ≡ written b at v
unfolding written
written_part b v at k e = rw (drop-drop k at b, ← e) refl

-- what stands behind the written part, and before it
written_after : (b : List ℕ) (at : ℕ) (v : List ℕ) (j : ℕ) → at + length v ≤ j → at + length v ≤ length b
    → get_or (written b at v) j 0 ≡ get_or b j 0
unfolding written
written_after b at v j h r =
    let k = j - (at + length v) in
    let l : length (take at b ++ v) ≡ at + length v = simp (length-append, length-take) (omega arith) in
    let e : j ≡ length (take at b ++ v) + k = omega arith in
    let e' : (at + length v) + k ≡ j = omega arith in
    rw (← append_assoc)
    (ap (λ (i : ℕ). get_or ((take at b ++ v) ++ drop (at + length v) b) i 0) e
    ∙ get_or-append-add (take at b ++ v) (drop (at + length v) b) k 0
    ∙ get_or-drop (at + length v) b k 0
    ∙ ap (λ (i : ℕ). get_or b i 0) e')

written-before : (b : List ℕ) (at : ℕ) (v : List ℕ) (j : ℕ) → j < at → at ≤ length b → get_or (written b at v) j 0 ≡ get_or b j 0
unfolding written
written-before b at v j h r =
    let l : length (take at b) ≡ at = length-take-le at b r in
    get_or-append (take at b) (v ++ drop (at + length v) b) 0 j (omega arith) ∙ get_or-take at b j 0 h

pub get_d_map : (g : ℕ → ℕ) (l : List ℕ) (i : ℕ) → i < length l → get_or (map g l) i 0 ≡ g (get_or l i 0)
get_d_map g [] i h = absurd (omega arith)
get_d_map g (x ∷ l) zero h = refl
get_d_map g (x ∷ l) (suc i) h = get_d_map g l i (omega arith)

-- A loop that writes the list s from place `at` on. From its first number on: after i turns the first i stand, and what is
-- behind them is as it was.
module _ (b : List ℕ) (at : ℕ) (s : List ℕ) (i : ℕ) where
  pub turn : i < length s → at + i < length b → set (written b at (take i s)) (at + i) (get_or s i 0) ≡ written b at (take (i + 1) s)
  turn h r =
      let l : length (take i s) ≡ i = length-take-le i s (omega arith) in
      let t : set (written b at (take i s)) (at + length (take i s)) (get_or s i 0) ≡ written b at (take i s ++ (get_or s i 0 ∷ [])) =
      written_snoc b at (take i s) (get_or s i 0) (omega arith) in
      rw (add-one, take-suc s i 0 h, ← t, l)

  pub unturned : (j : ℕ) → i ≤ length s → at + i ≤ j → at + i ≤ length b → get_or (written b at (take i s)) j 0 ≡ get_or b j 0
  unturned j h o r =
      let l : length (take i s) ≡ i = length-take-le i s h in
      written_after b at (take i s) j (omega arith) (omega arith)

  -- from its last number on: while i are left, the others stand, and what is before them is as it was
  pub turn_back : i < length s → at + i < length b
      → set (written b (at + (i + 1)) (drop (i + 1) s)) (at + i) (get_or s i 0) ≡ written b (at + i) (drop i s)
  turn_back h r = rw (add-one, add-suc, written_cons b (at + i) (drop (suc i) s) (get_or s i 0) r, ← drop-cons s i 0 h)

  pub unturned_back : (j : ℕ) → j < at + i → at + i ≤ length b → get_or (written b (at + i) (drop i s)) j 0 ≡ get_or b j 0
  unturned_back j o r = written-before b (at + i) (drop i s) j o r

-- a loop that writes a list of whatever elements to the front: x is the one that is next
pub turn_front : {X : Type 0} (b s : List X) (i : ℕ) (x : X) → x ≡ get_or s i x → i < length s → i < length b
    → set (written b 0 (take i s)) i x ≡ written b 0 (take (i + 1) s)
turn_front b s i x is h r =
    let l : length (take i s) ≡ i = length-take-le i s (omega arith) in
    let front : 0 + length (take i s) ≡ i = omega arith in
    let next : take (i + 1) s ≡ take i s ++ (x ∷ []) = rw add-one (take-suc s i x h ∙ ap (λ y. take i s ++ (y ∷ [])) (sym is)) in
    ap (λ (k : ℕ). set (written b 0 (take i s)) k x) (sym front) ∙ written_snoc b 0 (take i s) x (omega arith) ∙ ap (written b 0) (sym next)

-- numbers that are as they were need no writing
pub unwritten : (b : List ℕ) (at : ℕ) (s : List ℕ) (i d : ℕ) → i + d ≤ length s → at + length s ≤ length b
    → ((k : ℕ) → i ≤ k → k < i + d → get_or s k 0 ≡ get_or b (at + k) 0) → written b at (take i s) ≡ written b at (take (i + d) s)
unwritten b at s i zero h r same = ap (λ (k : ℕ). written b at (take k s)) (sym (add-zero i))
unwritten b at s i (suc d) h r same =
    let j = i + d in
    let e : i + suc d ≡ j + 1 = omega arith in
    let w = written b at (take j s) in
    let old : get_or w (at + j) 0 ≡ get_or s j 0 =
    unturned b at s j (at + j) (omega arith) (omega arith) (omega arith) ∙ sym (same j (omega arith) (omega arith)) in
    unwritten b at s i d (omega arith) r (λ k o m. same k o (omega arith))
    ∙ sym (ap (set w (at + j)) (sym old) ∙ set-get_or w (at + j) 0)
    ∙ turn b at s j (omega arith) (omega arith)
    ∙ ap (λ (k : ℕ). written b at (take k s)) (sym e)

pub written_same : (b : List ℕ) (at : ℕ) (s : List ℕ) → at + length s ≤ length b
    → ((k : ℕ) → k < length s → get_or s k 0 ≡ get_or b (at + k) 0) → written b at s ≡ b
written_same b at s r same =
    sym (sym (written_nil b at)
    ∙ unwritten b at s 0 (length s) (omega arith) r (λ k o h. same k (omega arith))
    ∙ ap (written b at) (take_all (0 + length s) s (omega arith)))

-- what is read where a part was written, and behind it; and a part written over another
module _ (b : List ℕ) (at : ℕ) (v : List ℕ) (r : at + length v ≤ length b) where
  pub get_d_written : (k : ℕ) → k < length v → get_or (written b at v) (at + k) 0 ≡ get_or v k 0
  unfolding written
  get_d_written k h =
      let l : length (take at b) ≡ at = length-take-le at b (omega arith) in
      let e : at + k ≡ length (take at b) + k = omega arith in
      ap (λ (i : ℕ). get_or (take at b ++ (v ++ drop (at + length v) b)) i 0) e
      ∙ get_or-append-add (take at b) (v ++ drop (at + length v) b) k 0
      ∙ get_or-append v (drop (at + length v) b) 0 k h

  pub drop-written : (k : ℕ) → at + length v ≤ k → drop k (written b at v) ≡ drop k b
  unfolding written
  drop-written k h =
      let l : length (take at b ++ v) ≡ at + length v = simp (length-append, length-take) (omega arith) in
      let e : k ≡ (at + length v) + (k - (at + length v)) = omega arith in
      rw (
        ← append_assoc,
        e,
        ← drop-drop (k - (at + length v)) (at + length v) ((take at b ++ v) ++ drop (at + length v) b),
        drop_at (take at b ++ v) _ _ l,
        drop-drop (k - (at + length v)) (at + length v) b,
      )

  pub take-written : (n : ℕ) → length v ≡ n → take n (drop at (written b at v)) ≡ v
  unfolding written
  take-written n e =
      let l : length (take at b) ≡ at = length-take-le at b (omega arith) in
      rw (drop_at (take at b) (v ++ drop (at + length v) b) at l) (take_at v (drop (at + length v) b) n e)

  pub written_over : (w : List ℕ) → length v ≡ length w → written (written b at v) at w ≡ written b at w
  unfolding written
  written_over w e =
      let l : length (take at b) ≡ at = length-take-le at b (omega arith) in
      let d : drop (at + length w) (written b at v) ≡ drop (at + length w) b = drop-written (at + length w) (omega arith) in
      let x : take at (take at b ++ (v ++ drop (at + length v) b)) ≡ take at b = take_at (take at b) (v ++ drop (at + length v) b) at l in
      rw x (ap (λ (y : List ℕ). take at b ++ (w ++ y)) d)

-- Two parts written side by side, the right one first, or the left one first, are one part.
module _ (b : List ℕ) (p : ℕ) (v t : List ℕ) (k : ℕ) (e : k ≡ p + length v) (room : k + length t ≤ length b) where
  pub written_left : written (written b k t) p v ≡ written b p (v ++ t)
  unfolding written
  written_left =
      let l : length (take (p + length v) b) ≡ p + length v = length-take-le (p + length v) b (omega arith) in
      let o : p ≤ length (take (p + length v) b) = omega arith in
      let q : p ≤ p + length v = omega arith in
      rw (e, take-append-le p (take (p + length v) b) _ o, take-take p (p + length v) b q, drop_at (take (p + length v) b) _ _ l, length-append v t, ← add_assoc p)
      (simp append_assoc)

  pub written_right : written (written b p v) k t ≡ written b p (v ++ t)
  unfolding written
  written_right =
      let l : length (take p b ++ v) ≡ p + length v = simp (length-append, length-take) (omega arith) in
      rw (
        e,
        ← append_assoc (take p b) v,
        ← drop-drop (length t) (p + length v) ((take p b ++ v) ++ drop (p + length v) b),
        take_at (take p b ++ v) _ _ l,
        drop_at (take p b ++ v) _ _ l,
        drop-drop (length t) (p + length v) b,
        length-append v t,
        ← add_assoc p,
      )
      (simp append_assoc)

-- a callee that was lent `&mut b[p..]`, and wrote at its front: what it wrote stands in the whole from p on
pub lent_tail : (b : List ℕ) (p : ℕ) (v : List ℕ)
    → take p b ++ (written (take (length b - p) (drop p b)) 0 v ++ drop (length b - p) (drop p b)) ≡ written b p v
unfolding written
lent_tail b p v =
    let l : length (drop p b) ≤ length b - p = simp length-drop (omega arith) in
    rw (take_all (length b - p) (drop p b) l, drop_of_length-le (drop p b) l, append-nil, zero-add, drop-drop (length v) p b)

-- A loop that changes the numbers of a list, one after the other: the number that is next is still as it was.
pub mapped_next : (g : ℕ → ℕ) (xs : List ℕ) (i : ℕ) → i < length xs → get_or (map g (take i xs) ++ drop i xs) i 0 ≡ get_or xs i 0
mapped_next g xs i h = rw (drop-cons xs i 0 h) (get_or_at (map g (take i xs)) _ _ 0 i (length-map (take i xs) g ∙ length-take-le i xs (omega arith)))
