-- The calls for C on bar notation. Each answers as the Rattle call of its name does on the numbers of the lent bytes, and the buffer that
-- is written holds the bytes of the numbers that the Rattle call leaves. An odd last byte stands behind these and stays.
-- Lists that are only read are given by their numbers, buffers that are written by their bytes.
use Rattle.std.specs.Prelude.{ℕ, ◌≡◌, List, Result}
use Rattle.rows.specs.Buffers.{written}
use Rattle.wire.specs.Wire.{numbers, bytes_of}
use Rattle.bars.specs.Calls.{ReadsBars, WritesBars}
use Rattle.c_lent.specs.declared.Answer.{Answer}
use Rattle.c_bars.specs.Answer.{read_answer, write_answer}
use Rattle.rows.specs.declared.Refusal.{Refusal}

-- `r` answers a reading of the bars v under the arities A, and `b'` are the bytes of the row's buffer afterwards
pub record BarsReadBytes (A v b : List ℕ) (r : Answer) (b' : List ℕ) : Type 0 where
  pub outcome : Result ℕ Refusal
  pub left : List ℕ
  pub call : ReadsBars A v (numbers b) outcome left
  pub answer : r ≡ read_answer outcome
  pub bytes : b' ≡ written b 0 (bytes_of left)

-- `r` answers a writing of the row w under the arities A, and `b'` are the bytes of the bars' buffer afterwards
pub record BarsWrittenBytes (A w b : List ℕ) (r : Answer) (b' : List ℕ) : Type 0 where
  pub outcome : Result ℕ Refusal
  pub left : List ℕ
  pub call : WritesBars A w (numbers b) outcome left
  pub answer : r ≡ write_answer outcome
  pub bytes : b' ≡ written b 0 (bytes_of left)
