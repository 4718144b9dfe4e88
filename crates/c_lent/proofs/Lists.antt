-- Laws of lent bytes and the numbers that they hold.
-- Assumes nothing.
use mathlib.Core.Path.{◌≡◌, sym}
use mathlib.Core.List.{List}
use Prim.Native.Nat.{ℕ}
use lib.ListN.{length}
use Rattle.rows.specs.Programme.{Programme}
use Rattle.rows.proofs.Buffers.{same_programme}
use Rattle.wire.specs.Wire.{Bytes}
use Rattle.wire.proofs.Numbers.{write_read}
use Rattle.wire.proofs.Promises.{odd_byte_is_kept}
use Rattle.c_lent.specs.Lent.{Lent, lent, AreBytes, numbers_of, beside, rewritten}

-- the same bytes
pub same_lent : {w w' t t' c c' : List ℕ} → w ≡ w' → t ≡ t' → c ≡ c' → lent w t c ≡ lent w' t' c'
same_lent x y z = λ i. record { row = x i; table = y i; classes = z i }

-- writing the numbers that are there changes no byte
pub beside_same : (b : Lent) → Bytes b.table → Bytes b.classes → beside b (numbers_of b) ≡ b
beside_same b table classes = same_lent (λ i. b.row) (write_read b.table table) (write_read b.classes classes)

pub rewritten_same : (b : Lent) → AreBytes b → rewritten b (numbers_of b) ≡ b
rewritten_same b small = same_lent (write_read b.row small.row) (write_read b.table small.table) (write_read b.classes small.classes)

-- as many numbers as the bytes hold
pub record Covers (b : Lent) (P : Programme) : Type 0 where
  pub row : length P.row ≡ length (numbers_of b).row
  pub table : length P.table ≡ length (numbers_of b).table
  pub classes : length P.classes ≡ length (numbers_of b).classes

-- bytes over which as many numbers are written as they hold, hold these
pub beside_reads : (b : Lent) (P : Programme) → Covers b P → P.row ≡ (numbers_of b).row → numbers_of (beside b P) ≡ P
beside_reads b P c e = same_programme (sym e) (odd_byte_is_kept b.table P.table c.table).0 (odd_byte_is_kept b.classes P.classes c.classes).0

pub rewritten_reads : (b : Lent) (P : Programme) → Covers b P → numbers_of (rewritten b P) ≡ P
rewritten_reads b P c =
    same_programme
    (odd_byte_is_kept b.row P.row c.row).0
    (odd_byte_is_kept b.table P.table c.table).0
    (odd_byte_is_kept b.classes P.classes c.classes).0
