-- The promises of specs/Promises, each with its proof.
-- Assumes nothing.
use Prim.Native.Nat.{ℕ, ◌+◌, ◌*◌}
use mathlib.Core.Path.{ap, ◌∙◌}
use mathlib.Core.List.{List, ◌++◌, append-nil}
use native.Mathlib.Omega.{arith}
use lib.ListN.{length, drop, drop_of_length-le}
use lib.Seq.{drop_at}
use Rattle.rows.specs.Buffers.{written}
use Rattle.wire.specs.Wire.{numbers, bytes_of}
use Rattle.wire.specs.Promises.{ReadsBack, WritesBack, OddByteIsKept}
use Rattle.wire.proofs.Numbers.{read_written, write_read, numbers-written, written_is, bytes_of-length}

pub reads_back : ReadsBack
reads_back = read_written

pub writes_back : WritesBack
writes_back = write_read

pub odd_byte_is_kept : OddByteIsKept
unfolding written
odd_byte_is_kept b v h = (
  numbers-written b v (omega arith)
      ∙ ap (λ (l : List ℕ). v ++ l) (drop_of_length-le (numbers b) {i = 0 + length v} (omega arith))
      ∙ append-nil v,
  ap (drop (2 * length v)) (written_is b v) ∙ drop_at (bytes_of v) (drop (2 * length v) b) (2 * length v) (bytes_of-length v),
)
