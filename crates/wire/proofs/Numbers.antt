-- Laws of numbers as bytes: reading, writing, and each undone by the other.
-- Assumes nothing.
use Prim.Native.Nat.{ℕ, zero, suc, ◌+◌, ◌*◌, ◌/◌, ◌%◌, ◌≤◌, ◌<◌}
use mathlib.Core.Path.{◌≡◌, refl, sym, ap, ap₂, ◌∙◌}
use mathlib.Core.List.{List, [], ◌∷◌, ◌++◌}
use native.Mathlib.Nat.{zero-add}
use native.Mathlib.Numerals.{add-one}
use native.Mathlib.Omega.{arith}
use lib.ListN.{length, get_or, set, take, drop, length-set}
use lib.Seq.{length-take-le, take_at}
use Rattle.rows.specs.Buffers.{written}
use Rattle.rows.specs.Bytes.{numbers}
use Rattle.wire.specs.Wire.{bytes_of, with_number, Bytes}
pub use Rattle.rows.proofs.Bytes.{twice, twice_and_one, pair_is, numbers-length, pair_within, pairs, number_at, numbers_part}

pub bytes_of-length : (vs : List ℕ) → length (bytes_of vs) ≡ 2 * length vs
unfolding bytes_of
bytes_of-length [] = refl
bytes_of-length (v ∷ vs) = omega (arith, bytes_of-length vs)

-- one number more read to the front of a list
next : (ns out : List ℕ) (i : ℕ) → i < length ns → i < length out → set (take i ns ++ drop i out) i (get_or ns i 0) ≡ take (suc i) ns ++ drop (suc i) out
next [] out i h k = absurd (omega arith)
next (x ∷ xs) [] i h k = absurd (omega arith)
next (x ∷ xs) (y ∷ ys) zero h k = refl
next (x ∷ xs) (y ∷ ys) (suc i) h k = ap (λ (l : List ℕ). x ∷ l) (next xs ys i (omega arith) (omega arith))

pub read_more : (ns out : List ℕ) (i : ℕ) → i < length ns → i < length out → set (take i ns ++ drop i out) i (get_or ns i 0) ≡ take (i + 1) ns ++ drop (i + 1) out
read_more ns out i h k = rw add-one (next ns out i h k)

-- the first n stand at the front, and are read there
pub read_front : (ns out : List ℕ) (n : ℕ) → n ≤ length ns → take n ns ++ drop n out ≡ written out 0 (take n ns)
unfolding written
read_front ns out n h = ap (λ (m : ℕ). take n ns ++ drop m out) (sym (zero-add (length (take n ns)) ∙ length-take-le n ns h))

pub front_read : (ns out : List ℕ) (n : ℕ) → n ≤ length ns → take n (written out 0 (take n ns)) ≡ take n ns
front_read ns out n h = ap (take n) (sym (read_front ns out n h)) ∙ take_at (take n ns) (drop n out) n (length-take-le n ns h)

-- a store keeps the number of bytes
pub with_length : (bs : List ℕ) (i v : ℕ) → length (with_number bs i v) ≡ length bs
unfolding with_number
with_length bs i v = simp length-set

-- a store at the first number, and past it
with_first : (a b : ℕ) (rest : List ℕ) (v : ℕ) → with_number (a ∷ (b ∷ rest)) 0 v ≡ (v % 256) ∷ ((v / 256) ∷ rest)
unfolding with_number
with_first a b rest v = refl

with_more : (a b : ℕ) (rest : List ℕ) (j v : ℕ) → with_number (a ∷ (b ∷ rest)) (suc j) v ≡ a ∷ (b ∷ with_number rest j v)
unfolding with_number
with_more a b rest j v = rw (twice_and_one, twice) refl

-- a store sets the number
pub with_numbers : (bs : List ℕ) (i v : ℕ) → i < length (numbers bs) → numbers (with_number bs i v) ≡ set (numbers bs) i v
unfolding numbers
with_numbers [] i v h = absurd (omega arith)
with_numbers (a ∷ []) i v h = absurd (omega arith)
with_numbers (a ∷ (b ∷ rest)) zero v h = ap numbers (with_first a b rest v) ∙ ap (λ (x : ℕ). x ∷ numbers rest) (pair_is v)
with_numbers (a ∷ (b ∷ rest)) (suc j) v h =
    ap numbers (with_more a b rest j v) ∙ ap (λ (l : List ℕ). (a + 256 * b) ∷ l) (with_numbers rest j v (omega arith))

-- a store among written numbers
with_bytes : (vs z : List ℕ) (i v : ℕ) → i < length vs → with_number (bytes_of vs ++ z) i v ≡ bytes_of (set vs i v) ++ z
unfolding bytes_of
with_bytes [] z i v h = absurd (omega arith)
with_bytes (x ∷ xs) z zero v h = with_first (x % 256) (x / 256) (bytes_of xs ++ z) v
with_bytes (x ∷ xs) z (suc j) v h =
    with_more (x % 256) (x / 256) (bytes_of xs ++ z) j v
    ∙ ap (λ (l : List ℕ). (x % 256) ∷ ((x / 256) ∷ l)) (with_bytes xs z j v (omega arith))

-- one number more written at the front
with_next : (vs bs : List ℕ) (i : ℕ) → i < length vs → 2 * i + 1 < length bs
    → with_number (bytes_of (take i vs) ++ drop (2 * i) bs) i (get_or vs i 0) ≡ bytes_of (take (suc i) vs) ++ drop (2 * suc i) bs
unfolding bytes_of
with_next [] bs i h k = absurd (omega arith)
with_next (x ∷ xs) [] i h k = absurd (omega arith)
with_next (x ∷ xs) (p ∷ []) i h k = absurd (omega arith)
with_next (x ∷ xs) (p ∷ (q ∷ rest)) zero h k = with_first p q rest x
with_next (x ∷ xs) (p ∷ (q ∷ rest)) (suc j) h k =
    rw (twice j, twice (suc j)) (with_more (x % 256) (x / 256) (bytes_of (take j xs) ++ drop (2 * j) rest) j (get_or xs j 0)
    ∙ ap (λ (l : List ℕ). (x % 256) ∷ ((x / 256) ∷ l)) (with_next xs rest j (omega arith) (omega arith)))

-- numbers written to the front: their bytes, and the bytes behind them
pub written_is : (bs vs : List ℕ) → written bs 0 (bytes_of vs) ≡ bytes_of vs ++ drop (2 * length vs) bs
unfolding written
written_is bs vs = ap (λ (n : ℕ). bytes_of vs ++ drop n bs) (zero-add (length (bytes_of vs)) ∙ bytes_of-length vs)

pub written_none : (bs : List ℕ) → written bs 0 (bytes_of []) ≡ bs
unfolding bytes_of
written_none bs = written_is bs []

-- a store among numbers written to the front
pub with_written : (bs vs : List ℕ) (i v : ℕ) → i < length vs → with_number (written bs 0 (bytes_of vs)) i v ≡ written bs 0 (bytes_of (set vs i v))
with_written bs vs i v h =
    ap (λ (l : List ℕ). with_number l i v) (written_is bs vs)
    ∙ with_bytes vs (drop (2 * length vs) bs) i v h
    ∙ sym (written_is bs (set vs i v) ∙ ap (λ (n : ℕ). bytes_of (set vs i v) ++ drop (2 * n) bs) (length-set vs i v))

-- bytes that have only numbers written over them are so after a store
pub with_kept : (own bs : List ℕ) (i v : ℕ) → i < length (numbers bs) → bs ≡ written own 0 (bytes_of (numbers bs))
    → with_number bs i v ≡ written own 0 (bytes_of (numbers (with_number bs i v)))
with_kept own bs i v h e =
    ap (λ (l : List ℕ). with_number l i v) e
    ∙ with_written own (numbers bs) i v h
    ∙ ap (λ (l : List ℕ). written own 0 (bytes_of l)) (sym (with_numbers bs i v h))

-- a store of the next number behind those written to the front
pub write_more : (bs vs : List ℕ) (i : ℕ) → i < length vs → i < length (numbers bs)
    → with_number (written bs 0 (bytes_of (take i vs))) i (get_or vs i 0) ≡ written bs 0 (bytes_of (take (i + 1) vs))
write_more bs vs i h k =
    let here : length (take i vs) ≡ i = length-take-le i vs (omega arith) in
    let next : length (take (suc i) vs) ≡ suc i = length-take-le (suc i) vs (omega arith) in
    rw add-one
    (ap (λ (l : List ℕ). with_number l i (get_or vs i 0)) (written_is bs (take i vs) ∙ ap (λ (n : ℕ). bytes_of (take i vs) ++ drop (2 * n) bs) here)
    ∙ with_next vs bs i h (pair_within bs i k)
    ∙ sym (written_is bs (take (suc i) vs) ∙ ap (λ (n : ℕ). bytes_of (take (suc i) vs) ++ drop (2 * n) bs) next))

-- reading what was written
pub read_written : (vs : List ℕ) → numbers (bytes_of vs) ≡ vs
unfolding numbers bytes_of
read_written [] = refl
read_written (v ∷ vs) = ap₂ (λ (x : ℕ) (l : List ℕ). x ∷ l) (pair_is v) (read_written vs)

-- writing what was read: the bytes are as they were
back : (bs : List ℕ) → Bytes bs → bytes_of (numbers bs) ++ drop (2 * length (numbers bs)) bs ≡ bs
unfolding numbers bytes_of
back [] small = refl
back (a ∷ []) small = refl
back (a ∷ (b ∷ rest)) small =
    let low : (a + 256 * b) % 256 ≡ a = omega (arith, small 0) in
    let high : (a + 256 * b) / 256 ≡ b = omega (arith, small 0) in
    rw (twice (length (numbers rest)), low, high)
    (ap (λ (l : List ℕ). a ∷ (b ∷ l)) (back rest (λ i. small (suc (suc i)))))

-- the bytes of the numbers stand at the front
pub bytes_front : (bs : List ℕ) → Bytes bs → take (2 * length (numbers bs)) bs ≡ bytes_of (numbers bs)
bytes_front bs small =
    let n = 2 * length (numbers bs) in
    ap (take n) (sym (back bs small)) ∙ take_at (bytes_of (numbers bs)) (drop n bs) n (bytes_of-length (numbers bs))

pub write_read : (bs : List ℕ) → Bytes bs → written bs 0 (bytes_of (numbers bs)) ≡ bs
write_read bs small = written_is bs (numbers bs) ∙ back bs small

-- the numbers of bytes to whose front numbers were written
over : (bs vs : List ℕ) → length vs ≤ length (numbers bs) → numbers (bytes_of vs ++ drop (2 * length vs) bs) ≡ vs ++ drop (length vs) (numbers bs)
unfolding numbers bytes_of
over bs [] h = refl
over [] (v ∷ vs) h = absurd (omega arith)
over (a ∷ []) (v ∷ vs) h = absurd (omega arith)
over (a ∷ (b ∷ rest)) (v ∷ vs) h =
    rw (twice (length vs)) (ap₂ (λ (x : ℕ) (l : List ℕ). x ∷ l) (pair_is v) (over rest vs (omega arith)))

pub numbers-written : (bs vs : List ℕ) → length vs ≤ length (numbers bs) → numbers (written bs 0 (bytes_of vs)) ≡ written (numbers bs) 0 vs
unfolding written
numbers-written bs vs h = ap numbers (written_is bs vs) ∙ over bs vs h ∙ ap (λ (n : ℕ). vs ++ drop n (numbers bs)) (sym (zero-add (length vs)))

-- writing all numbers, of which only the first are new, is writing these
again : (bs vs : List ℕ) → Bytes bs → length vs ≤ length (numbers bs)
    → bytes_of (vs ++ drop (length vs) (numbers bs)) ++ drop (2 * length (vs ++ drop (length vs) (numbers bs))) bs ≡ bytes_of vs ++ drop (2 * length vs) bs
unfolding numbers bytes_of
again bs [] small h = back bs small
again [] (v ∷ vs) small h = absurd (omega arith)
again (a ∷ []) (v ∷ vs) small h = absurd (omega arith)
again (a ∷ (b ∷ rest)) (v ∷ vs) small h =
    rw (twice (length vs), twice (length (vs ++ drop (length vs) (numbers rest))))
    (ap (λ (l : List ℕ). (v % 256) ∷ ((v / 256) ∷ l)) (again rest vs (λ i. small (suc (suc i))) (omega arith)))

pub written_again : (bs vs : List ℕ) → Bytes bs → length vs ≤ length (numbers bs)
    → written bs 0 (bytes_of (written (numbers bs) 0 vs)) ≡ written bs 0 (bytes_of vs)
unfolding written
written_again bs vs small h =
    ap (λ (n : ℕ). written bs 0 (bytes_of (vs ++ drop n (numbers bs)))) (zero-add (length vs))
    ∙ written_is bs (vs ++ drop (length vs) (numbers bs))
    ∙ again bs vs small h
    ∙ sym (written_is bs vs)

-- the bytes of numbers behind others
pub bytes_of-append : (us vs : List ℕ) → bytes_of (us ++ vs) ≡ bytes_of us ++ bytes_of vs
unfolding bytes_of
bytes_of-append [] vs = refl
bytes_of-append (u ∷ us) vs = ap (λ (l : List ℕ). (u % 256) ∷ ((u / 256) ∷ l)) (bytes_of-append us vs)
