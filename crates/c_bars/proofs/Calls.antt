-- What meets the contracts for C: refusals, and what is laid out beside the lent buffer and written to it.
-- Assumes nothing.
use Rattle.std.specs.Prelude.{Result, Ok, Err, ⊤}
use Prim.Native.Nat.{ℕ, ◌*◌, ◌/◌, ◌<◌}
use mathlib.Core.Path.{◌≡◌, sym, ap, ap₂, ◌∙◌}
use mathlib.Core.List.{List}
use native.Mathlib.Omega.{arith}
use borrow.Author.Tests.{lt-ltb, le-ltb}
use lib.ListN.{length, take}
use lib.Seq.{take-length}
use Rattle.rows.specs.Limits.{alphabet_most, row_most, bars_most}
use Rattle.rows.specs.Buffers.{written, after}
use Rattle.rows.specs.Row.{sized, reading}
use Rattle.rows.specs.declared.Arities.TheVariants.{Count}
use Rattle.rows.specs.declared.Refusal.{Refusal}
use Rattle.rows.specs.declared.Refusal.TheVariants.{Arities}
use Rattle.rows.proofs.Buffers.{written-front}
use Rattle.rows.proofs.Passing.{alphabet_long}
use Rattle.wire.specs.Wire.{numbers, bytes_of, Bytes}
use Rattle.wire.proofs.Numbers.{write_read, written_again, front_read}
use Rattle.bars.specs.Bars.{bars_of, unbarred, read_check, write_check}
use Rattle.bars.specs.Calls.{bars_read, bars_written}
use Rattle.bars.proofs.Forms.{length_bars}
use Rattle.bars.proofs.Passing.{read_readable, write_legible}
use Rattle.bars.proofs.Calls.{twice}
use Rattle.c_bars.specs.Copies.{too_long, Read, Written}

module _ (A v b : List ℕ) (small : Bytes b) where
  abbrev n : ℕ
  n = length (numbers b)

  -- a refusal, with the row's buffer as it was
  pub read_refused : (x : Refusal) (r : Result ℕ Refusal) → read_check A v n ≡ Err x → r ≡ Err x → Read A v b r b
  read_refused x r h e =
      record {
        left = numbers b;
        call =
            record {
              answer = e ∙ sym (ap (λ (c : Result ⊤ Refusal). bars_read c (length (unbarred v))) h);
              row = sym (ap (λ (c : Result ⊤ Refusal). after c (written (numbers b) 0 (unbarred v)) (numbers b)) h);
            };
        bytes = sym (write_read b small);
      }

  -- the row, gathered at the front of a room
  pub read_all : (room room' b' : List ℕ) → read_check A v n ≡ Ok tt → room' ≡ written room 0 (unbarred v)
      → b' ≡ written b 0 (bytes_of (take (length v / 2) room')) → Read A v b (Ok (length v / 2)) b'
  read_all room room' b' h e q =
      let row : List ℕ = unbarred v in
      let half : length v / 2 ≡ length row = omega (arith, twice A v n h) in
      let front : take (length v / 2) room' ≡ row = ap₂ take half e ∙ written-front room row in
      record {
        left = written (numbers b) 0 row;
        call =
            record {
              answer = ap Ok half ∙ sym (ap (λ (c : Result ⊤ Refusal). bars_read c (length row)) h);
              row = sym (ap (λ (c : Result ⊤ Refusal). after c (written (numbers b) 0 row) (numbers b)) h);
            };
        bytes = q ∙ ap (λ (l : List ℕ). written b 0 (bytes_of l)) front ∙ sym (written_again b row small (read_readable A v n h).room);
      }

module _ (A w b : List ℕ) (small : Bytes b) where
  abbrev m : ℕ
  m = length (numbers b)

  -- a refusal, with the buffer of the bars as it was
  pub write_refused : (x : Refusal) (r : Result ℕ Refusal) → write_check A w m ≡ Err x → r ≡ Err x → Written A w b r b
  write_refused x r h e =
      record {
        left = numbers b;
        call =
            record {
              answer = e ∙ sym (ap (λ (c : Result ⊤ Refusal). bars_written c (length (bars_of A w))) h);
              bars = sym (ap (λ (c : Result ⊤ Refusal). after c (written (numbers b) 0 (bars_of A w)) (numbers b)) h);
            };
        bytes = sym (write_read b small);
      }

  -- the bar form, laid out at the front of a room
  pub write_all : (room room' b' : List ℕ) → write_check A w m ≡ Ok tt → room' ≡ written room 0 (bars_of A w)
      → b' ≡ written b 0 (bytes_of (take (2 * length w) room')) → Written A w b (Ok (2 * length w)) b'
  write_all room room' b' h e q =
      let form : List ℕ = bars_of A w in
      let long : 2 * length w ≡ length form = sym (length_bars A w) in
      let front : take (2 * length w) room' ≡ form = ap₂ take long e ∙ written-front room form in
      record {
        left = written (numbers b) 0 form;
        call =
            record {
              answer = ap Ok long ∙ sym (ap (λ (c : Result ⊤ Refusal). bars_written c (length form)) h);
              bars = sym (ap (λ (c : Result ⊤ Refusal). after c (written (numbers b) 0 form) (numbers b)) h);
            };
        bytes = q ∙ ap (λ (l : List ℕ). written b 0 (bytes_of l)) front ∙ sym (written_again b form small (omega (arith, long, (write_legible A w m h).room)));
      }

-- a copy of all numbers, at the front of its room
pub copied : (ns room room' : List ℕ) (n : ℕ) → n ≡ length ns → room' ≡ written room 0 (take n ns) → take n room' ≡ ns
copied ns room room' n e d =
    ap (take n) d ∙ front_read ns room n (omega arith) ∙ ap (λ (k : ℕ). take k ns) e ∙ take-length ns

-- an alphabet that is too long is refused for that, whatever is behind it
pub read_alphabet_long : (A v : List ℕ) (k : ℕ) → alphabet_most < length A → read_check A v k ≡ Err (Arities (Count (length A)))
unfolding read_check
read_alphabet_long A v k h = simp (alphabet_long A h)

pub write_alphabet_long : (A w : List ℕ) (k : ℕ) → alphabet_most < length A → write_check A w k ≡ Err (Arities (Count (length A)))
unfolding write_check
write_alphabet_long A w k h = simp (alphabet_long A h)

-- numbers that are too many are refused for that, once the alphabet is accepted
pub read_long : (A v : List ℕ) (k : ℕ) → bars_most < length v → read_check A v k ≡ too_long A (length v)
unfolding read_check sized
read_long A v k h = simp (le-ltb (length v) 1 (omega arith), lt-ltb bars_most (length v) h)

pub write_long : (A w : List ℕ) (k : ℕ) → row_most < length w → write_check A w k ≡ too_long A (length w)
unfolding write_check reading sized
write_long A w k h = simp (le-ltb (length w) 1 (omega arith), lt-ltb row_most (length w) h)
