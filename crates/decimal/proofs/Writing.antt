-- Laws of what is written into a buffer piece by piece.
-- Assumes nothing.
use Prim.Native.Nat.{ℕ, ◌+◌, ◌≤◌, ◌<◌}
use mathlib.Core.Path.{◌≡◌, sym, ap, ◌∙◌}
use mathlib.Core.List.{List, [], ◌∷◌, ◌++◌, append_assoc}
use native.Mathlib.Nat.{add-zero, add_assoc}
use native.Mathlib.Numerals.{add-one}
use native.Mathlib.Omega.{arith}
use lib.ListN.{length, take, drop, set, length-append}
use lib.Seq.{length-take-le, take_at, set_split, drop-append-add, drop-drop}
use Rattle.rows.specs.Buffers.{written}
use Rattle.rows.proofs.Buffers.{written_nil}
use Rattle.decimal.specs.Inside.{Printed}

pub written_byte : (b : List ℕ) (at x : ℕ) → at < length b → set b at x ≡ written b at (x ∷ [])
unfolding written
written_byte b at x h = set_split b at x h ∙ rw (add-one at)

-- a text, and then another behind it
pub written-append : (b : List ℕ) (at : ℕ) (u v : List ℕ) → at + length u ≤ length b
    → written (written b at u) (at + length u) v ≡ written b at (u ++ v)
unfolding written
written-append b at u v h =
    let n : length (take at b ++ u) ≡ at + length u = length-append (take at b) u ∙ ap (λ k. k + length u) (length-take-le at b (omega arith)) in
    let s : take at b ++ (u ++ drop (at + length u) b) ≡ (take at b ++ u) ++ drop (at + length u) b = sym (append_assoc (take at b) u (drop (at + length u) b)) in
    let t : (take at b ++ u) ++ (v ++ drop (at + (length u + length v)) b) ≡ take at b ++ ((u ++ v) ++ drop (at + (length u + length v)) b)
    = append_assoc (take at b) u (v ++ drop (at + (length u + length v)) b) ∙ rw (append_assoc u v (drop (at + (length u + length v)) b)) in
    rw (s, take_at (take at b ++ u) (drop (at + length u) b) (at + length u) n, ← n, drop-append-add (take at b ++ u) (drop (length (take at b ++ u)) b) (length v), n, drop-drop (length v) (at + length u) b, length-append u v, add_assoc at (length u) (length v)) t

-- nothing was printed yet
pub printed_none : (b : List ℕ) (at : ℕ) → Printed b at [] at b
printed_none b at = record { next = sym (add-zero at); buffer = sym (written_nil b at) }

-- a text was printed, and then another behind it
pub printed_more : {b : List ℕ} {at : ℕ} {u : List ℕ} {m : ℕ} {b' : List ℕ} {v : List ℕ} {r : ℕ} {b'' : List ℕ}
    → m ≤ length b → Printed b at u m b' → Printed b' m v r b'' → Printed b at (u ++ v) r b''
printed_more {b} {at} {u} {m} {b'} {v} {r} {b''} h p q =
    record {
      next = q.next ∙ rw (p.next, length-append, add_assoc);
      buffer = q.buffer ∙ rw (p.next, p.buffer, written-append b at u v (omega (arith, p.next)));
    }
