-- The two calls, one after the other.
-- Assumes nothing.
use Rattle.std.specs.Prelude.{Result, Ok, Err, ⊤}
use Prim.Native.Nat.{ℕ, ◌*◌, ◌≤◌}
use mathlib.Core.Path.{◌≡◌, refl, sym, ap, ap₂, ◌∙◌, subst}
use mathlib.Core.List.{List}
use native.Mathlib.Omega.{arith}
use borrow.Author.Tests.{le-ltb}
use lib.ListN.{length, take}
use Rattle.rows.specs.Limits.{row_most, bars_most}
use Rattle.rows.specs.Row.{allowed, reading}
use Rattle.rows.specs.Buffers.{written, after}
use Rattle.rows.specs.Refusals.{output}
use Rattle.rows.specs.declared.Leaves.TheVariants.{Symbols}
use Rattle.rows.proofs.Accept.{row_of_whole, whole_of_row}
use Rattle.rows.proofs.Buffers.{written-front}
use Rattle.rows.proofs.Scan.{sized_whole}
use Rattle.bars.specs.Bars.{bars_of, unbarred, read_check, write_check}
use Rattle.bars.specs.Calls.{bars_read, bars_written, ReadsBars, WritesBars}
use Rattle.bars.specs.Promises.{WriteThenRead, ReadThenWrite}
use Rattle.rows.proofs.Alphabets.{symbols_most}
use Rattle.bars.proofs.Forms.{length_bars}
use Rattle.bars.proofs.Passing.{write_legible, read_readable}
use Rattle.bars.proofs.Trips.{write_read, read_write}
use Rattle.rows.specs.declared.Refusal.{Refusal}

-- what an answer tells of the check
pub read_told : (k : Result ⊤ Refusal) (m n : ℕ) → Ok n ≡ bars_read k m → (k ≡ Ok tt) × (n ≡ m)
read_told (Ok _) m n e = (refl, cc)
read_told (Err r) m n e = let z : ◌≡◌ {A = ℕ} 0 1 = cc in absurd (omega arith)

pub written_told : (k : Result ⊤ Refusal) (m n : ℕ) → Ok n ≡ bars_written k m → (k ≡ Ok tt) × (n ≡ m)
written_told (Ok _) m n e = (refl, cc)
written_told (Err r) m n e = let z : ◌≡◌ {A = ℕ} 0 1 = cc in absurd (omega arith)

-- an output with room is not refused
pub output-room : (n m : ℕ) → n ≤ m → output n m ≡ Ok tt
unfolding output
output-room n m h = simp (le-ltb m n h)

-- what is accepted has as many bars as symbols
pub twice : (A v : List ℕ) (m : ℕ) → read_check A v m ≡ Ok tt → 2 * length (unbarred v) ≡ length v
twice A v m e =
    let l = read_readable A v m e in
    sym (length_bars A (unbarred v)) ∙ ap length (read_write A v (symbols_most A l.fine) l.closed).1

-- the alphabet is as good for the one call as for the other
written_reads : (A w : List ℕ) (m n : ℕ) → write_check A w m ≡ Ok tt → length w ≤ n → read_check A (bars_of A w) n ≡ Ok tt
unfolding read_check
written_reads A w m n e room =
    let l = write_legible A w m e in
    let trip = write_read A w (symbols_most A l.fine) (row_of_whole A (allowed Symbols A) w l.accepted) in
    let size = sized_whole (length (bars_of A w)) bars_most (omega (arith, length_bars A w, l.some)) (omega (arith, length_bars A w, l.most)) in
    let rest = output-room (length (unbarred (bars_of A w))) n (omega (arith, ap length trip.1)) in
    simp (l.fine, size, trip.0, rest)

read_writes : (A v : List ℕ) (m n : ℕ) → read_check A v m ≡ Ok tt → length v ≤ n → write_check A (unbarred v) n ≡ Ok tt
unfolding write_check reading
read_writes A v m n e room =
    let l = read_readable A v m e in
    let trip = read_write A v (symbols_most A l.fine) l.closed in
    let long = twice A v m e in
    let size = sized_whole (length (unbarred v)) row_most (omega (arith, long, l.some)) (omega (arith, long, l.most)) in
    let whole = whole_of_row A (allowed Symbols A) (unbarred v) trip.0 in
    let rest = output-room (2 * length (unbarred v)) n (omega (arith, long)) in
    simp (l.fine, size, whole, rest)

pub write_then_read : WriteThenRead
write_then_read A w b b' x x' n r o room p =
    let form = bars_of A w in
    let t = written_told (write_check A w (length b)) (length form) n o.answer in
    let made : b' ≡ written b 0 form = o.bars ∙ ap (λ (k : Result ⊤ Refusal). after k (written b 0 form) b) t.0 in
    let front : take n b' ≡ form = ap₂ take t.1 made ∙ written-front b form in
    let q : ReadsBars A form x r x' = subst (λ (v : List ℕ). ReadsBars A v x r x') front p in
    let good = written_reads A w (length b) (length x) t.0 room in
    let l = write_legible A w (length b) t.0 in
    let trip = write_read A w (symbols_most A l.fine) (row_of_whole A (allowed Symbols A) w l.accepted) in (
      q.answer ∙ ap₂ bars_read good (ap length trip.1),
      q.row ∙ ap (λ (k : Result ⊤ Refusal). after k (written x 0 (unbarred form)) x) good ∙ ap (written x 0) trip.1,
    )

pub read_then_write : ReadThenWrite
read_then_write A v x x' b b' n r o room p =
    let row = unbarred v in
    let t = read_told (read_check A v (length x)) (length row) n o.answer in
    let made : x' ≡ written x 0 row = o.row ∙ ap (λ (k : Result ⊤ Refusal). after k (written x 0 row) x) t.0 in
    let front : take n x' ≡ row = ap₂ take t.1 made ∙ written-front x row in
    let q : WritesBars A row b r b' = subst (λ (w : List ℕ). WritesBars A w b r b') front p in
    let good = read_writes A v (length x) (length b) t.0 room in
    let l = read_readable A v (length x) t.0 in
    let trip = read_write A v (symbols_most A l.fine) l.closed in (
      q.answer ∙ ap₂ bars_written good (ap length trip.1),
      q.bars ∙ ap (λ (k : Result ⊤ Refusal). after k (written b 0 (bars_of A row)) b) good ∙ ap (written b 0) trip.1,
    )
