-- The calls for C. Each answers as the Rattle call of its name does on the numbers of the lent bytes, and a buffer that is
-- written holds the bytes of the numbers that the Rattle call leaves. An odd last byte stands behind these and stays.
-- Lists that are only read are given by their numbers, buffers that are written by their bytes.
use Rattle.std.specs.Prelude.{ℕ, ◌≡◌, List, length, ℤ, Result, ⊤}
use Rattle.rows.specs.Programme.{Alphabet, Programme}
use Rattle.rows.specs.Buffers.{written}
use Rattle.wire.specs.Wire.{numbers, bytes_of}
use Rattle.sparrowhem.specs.Build.{Built}
use Rattle.sparrowhem.specs.Search.{Finds}
use Rattle.sparrowhem.specs.Sheet.{SheetAnswers}
use Rattle.sparrowhem.specs.Edit.{Replacement}
use Rattle.c_lent.specs.Answer.{build_answer, find_answer, sheet_answer, replace_answer}
use Rattle.c_lent.specs.Lent.{Lent, numbers_of, beside, rewritten}
use Rattle.c_lent.specs.declared.Answer.{Answer}
use Rattle.rows.specs.declared.Refusal.{Refusal}

-- `r` answers a build, and `b'` are the bytes afterwards
pub record BuiltBytes (a : Alphabet) (b : Lent) (r : Answer) (b' : Lent) : Type 0 where
  pub outcome : Result ⊤ Refusal
  pub left : Programme
  pub call : Built a (numbers_of b) outcome left
  pub answer : r ≡ build_answer outcome (length (numbers_of b).row)
  pub bytes : b' ≡ beside b left

-- `r` answers a search for the pattern `q`, and `out'` are the output's bytes afterwards
pub record FoundBytes (a : Alphabet) (P : Programme) (q out : List ℕ) (r : Answer) (out' : List ℕ) : Type 0 where
  pub outcome : Result ℕ Refusal
  pub left : List ℕ
  pub call : Finds a P q (numbers out) outcome left
  pub answer : r ≡ find_answer outcome
  pub bytes : out' ≡ written out 0 (bytes_of left)

-- `r` answers a sheet of the patterns `qs` of the lengths `ls`, and `out'` and `res'` are the bytes of its outputs, for the positions and
-- for the results, afterwards
pub record SheetBytes (a : Alphabet) (P : Programme) (qs ls out res : List ℕ) (r : Answer) (out' res' : List ℕ) : Type 0 where
  pub outcome : Result (ℕ × ℕ) Refusal
  pub left : List ℕ
  pub results_left : List ℕ
  pub call : SheetAnswers a P qs ls (numbers out) (numbers res) outcome left results_left
  pub answer : r ≡ sheet_answer outcome
  pub bytes : out' ≡ written out 0 (bytes_of left)
  pub result-bytes : res' ≡ written res 0 (bytes_of results_left)

-- `r` answers a replacement by the row `v` at position p of the row of the first n numbers, and `b'` are the bytes afterwards
pub record ReplacedBytes (a : Alphabet) (b : Lent) (n : ℕ) (v : List ℕ) (p : ℕ) (r : Answer) (b' : Lent) : Type 0 where
  pub outcome : Result (ℕ × ℤ) Refusal
  pub left : Programme
  pub call : Replacement a (numbers_of b) n v p outcome left
  pub answer : r ≡ replace_answer outcome
  pub bytes : b' ≡ rewritten b left
