-- Laws of `spliced` and `renewed`: what a buffer holds when the parts of a new row or table were written into it one by one.
-- Assumes nothing.
use Prim.Native.Nat.{ℕ, ◌+◌, ◌-◌, ◌≤◌, ◌<◌, max}
use mathlib.Core.Path.{◌≡◌, sym, ap, ◌∙◌}
use mathlib.Core.List.{List, ◌++◌, append_assoc}
use native.Mathlib.Omega.{arith}
use lib.ListN.{length, take, drop, get_or, get_or-replicate, get_or-append, replicate, length-append, length-drop, length-replicate}
use lib.Seq.{get_or-append-add, take-take, take-add, take_at, drop_at, length-take-le}
use Rattle.rows.specs.Buffers.{written}
use Rattle.buffers.specs.Renewed.{renewed}
use Rattle.buffers.specs.Shift.{spliced}
use Rattle.buffers.proofs.Written.{written_left, written_right}
use Rattle.rows.proofs.Buffers.{length-written}

pub drop-take : (e n : ℕ) (b : List ℕ) → e ≤ n → n ≤ length b → drop e (take n b) ≡ take (n - e) (drop e b)
drop-take e n b h r =
    let q : n ≡ e + (n - e) = omega arith in
    let t : take n b ≡ take e b ++ take (n - e) (drop e b) = ap (λ (k : ℕ). take k b) q ∙ take-add e (n - e) b in
    rw t (drop_at (take e b) (take (n - e) (drop e b)) e (length-take-le e b (omega arith)))

-- a list at the front of a buffer, spliced
pub spliced-front : (b : List ℕ) (n p e : ℕ) (v : List ℕ) → p ≤ e → e ≤ n → n ≤ length b
    → spliced (take n b) p e v ≡ take p b ++ (v ++ take (n - e) (drop e b))
unfolding spliced
spliced-front b n p e v pe en nb =
    let q : p ≤ n = omega arith in
    rw (take-take p n b q, drop-take e n b en nb)

-- writing over the places in use, and blanks behind up to the old length
renewed-front : (b : List ℕ) (n x : ℕ) (w : List ℕ) → written b 0 (w ++ replicate (n - length w) x) ≡ renewed b n x w
unfolding written renewed
renewed-front b n x w =
    let l : 0 + length (w ++ replicate (n - length w) x) ≡ max n (length w) = simp (length-append, length-replicate) (omega arith) in
    rw l (append_assoc w (replicate (n - length w) x) (drop (max n (length w)) b))

-- The first part a is written, then the last one t, then v between them, and then the blanks: the buffer is renewed.
pub renewed_parts : (b : List ℕ) (n x p k m : ℕ) (a v t : List ℕ) → length a ≡ p → k ≡ p + length v → m ≡ k + length t
    → n ≤ length b → m ≤ length b
    → written (written (written (written b 0 a) k t) p v) m (replicate (n - m) x) ≡ renewed b n x (a ++ (v ++ t))
renewed_parts b n x p k m a v t ea ek em nb mb =
    let c = written b 0 a in
    let lc : length c ≡ length b = length-written b 0 a (omega arith) in
    let w = a ++ (v ++ t) in
    let lw : length w ≡ m = simp length-append (omega arith) in
    let pa : p ≡ 0 + length a = omega arith in
    let lR : length (replicate (n - m) x) ≡ n - m = length-replicate (n - m) x in
    let lvt : length (v ++ t) ≡ length v + length t = length-append v t in
    ap (λ (l : List ℕ). written l m (replicate (n - m) x))
    (written_left c p v t k ek (omega arith) ∙ written_right b 0 a (v ++ t) p pa (omega arith))
    ∙ written_right b 0 w (replicate (n - m) x) m (omega arith) (omega arith)
    ∙ ap (λ (j : ℕ). written b 0 (w ++ replicate (n - j) x)) (sym lw)
    ∙ renewed-front b n x w

-- The whole is written at once, and then the blanks.
pub renewed_whole : (b : List ℕ) (n x m : ℕ) (w : List ℕ) → length w ≡ m → n ≤ length b → m ≤ length b
    → written (written b 0 w) m (replicate (n - m) x) ≡ renewed b n x w
renewed_whole b n x m w e nb mb =
    let lR : length (replicate (n - m) x) ≡ n - m = length-replicate (n - m) x in
    written_right b 0 w (replicate (n - m) x) m (omega arith) (omega arith)
    ∙ ap (λ (j : ℕ). written b 0 (w ++ replicate (n - j) x)) (sym e)
    ∙ renewed-front b n x w

-- a renewed buffer begins with what is new, and keeps its length
pub take-renewed : (b : List ℕ) (n x : ℕ) (w : List ℕ) (k : ℕ) → length w ≡ k → take k (renewed b n x w) ≡ w
unfolding renewed
take-renewed b n x w k e = take_at w _ k e

pub length-renewed : (b : List ℕ) (n x : ℕ) (w : List ℕ) → n ≤ length b → length w ≤ length b → length (renewed b n x w) ≡ length b
unfolding renewed
length-renewed b n x w h r = simp (length-append, length-replicate, length-drop) (omega arith)

-- the places that are freed hold the blank, and later ones stay
pub renewed_freed : (b : List ℕ) (n x : ℕ) (w : List ℕ) (k : ℕ) → length w ≤ k → k < n → get_or (renewed b n x w) k 0 ≡ x
unfolding renewed
renewed_freed b n x w k h i =
    let blanks : List ℕ = replicate (n - length w) x in
    let e : k ≡ length w + (k - length w) = omega arith in
    ap (λ (j : ℕ). get_or (w ++ (blanks ++ drop (max n (length w)) b)) j 0) e
    ∙ get_or-append-add w (blanks ++ drop (max n (length w)) b) (k - length w) 0
    ∙ get_or-append blanks (drop (max n (length w)) b) 0 (k - length w) (omega (arith, length-replicate (n - length w) x))
    ∙ get_or-replicate (n - length w) (k - length w) x 0 (omega arith)

pub renewed_later : (b : List ℕ) (n x : ℕ) (w : List ℕ) (k : ℕ) → length w ≡ k → drop (max n k) (renewed b n x w) ≡ drop (max n k) b
unfolding renewed
renewed_later b n x w k e =
    let blanks : List ℕ = replicate (n - length w) x in
    let l : length (w ++ blanks) ≡ max n k = simp (length-append, length-replicate) (omega arith) in
    ap (drop (max n k)) (sym (append_assoc w blanks (drop (max n (length w)) b)))
    ∙ drop_at (w ++ blanks) (drop (max n (length w)) b) (max n k) l
    ∙ ap (λ (j : ℕ). drop (max n j) b) e
