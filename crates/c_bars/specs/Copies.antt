-- Inside: no public contract cites what stands in this file, and no reader has to believe it.
-- Copies of lent numbers: what is refused and what is left, before the answer crosses.
use Rattle.std.specs.Prelude.{ℕ, ◌≡◌, List, Result, Err, ⊤}
use Rattle.rows.specs.Buffers.{written}
use Rattle.rows.specs.Programme.{alphabet_of}
use Rattle.rows.specs.Refusals.{◌then◌, alphabet}
use Rattle.rows.specs.declared.Fault.TheVariants.{Long}
use Rattle.rows.specs.declared.Kept.TheVariants.{Misread}
use Rattle.rows.specs.declared.Refusal.TheVariants.{Row}
use Rattle.rows.specs.declared.Refusal.{Refusal}
use Rattle.wire.specs.Wire.{numbers, bytes_of}
use Rattle.bars.specs.Calls.{ReadsBars, WritesBars}

-- what is refused under the arities A of n numbers that are too many
abbrev pub too_long : List ℕ → ℕ → Result ⊤ Refusal
too_long A n = alphabet (alphabet_of A) then Err (Row (Misread (Long n)))

-- `outcome` answers a reading of the bars v under the arities A, and `b'` are the bytes of the row's buffer afterwards
pub record Read (A v b : List ℕ) (outcome : Result ℕ Refusal) (b' : List ℕ) : Type 0 where
  pub left : List ℕ
  pub call : ReadsBars A v (numbers b) outcome left
  pub bytes : b' ≡ written b 0 (bytes_of left)

-- `outcome` answers a writing of the row w under the arities A, and `b'` are the bytes of the bars' buffer afterwards
pub record Written (A w b : List ℕ) (outcome : Result ℕ Refusal) (b' : List ℕ) : Type 0 where
  pub left : List ℕ
  pub call : WritesBars A w (numbers b) outcome left
  pub bytes : b' ≡ written b 0 (bytes_of left)
