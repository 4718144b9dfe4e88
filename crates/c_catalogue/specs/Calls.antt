-- The calls for C on catalogue files. Each answers as the Rattle call does. A file is bytes in both; of the writer's lists the arities and
-- the rows are given by the numbers of their bytes.
use Rattle.std.specs.Prelude.{ℕ, ◌≡◌, List, Result}
use Rattle.catalogue.specs.declared.Entry.{Entry}
use Rattle.catalogue_read.specs.Answers.{Reads}
use Rattle.catalogue_read.specs.declared.Opened.{Opened}
use Rattle.catalogue_write.specs.Answers.{Writes}
use Rattle.c_catalogue.specs.Answer.{read_answer, write_answer}
use Rattle.c_catalogue.specs.declared.CatalogueAnswer.{CatalogueAnswer}
use Rattle.rows.specs.declared.Refusal.{Refusal}

-- `r` answers a reading of the file f, and `es'` are the records afterwards
pub record FileRead (f : List ℕ) (es : List Entry) (r : CatalogueAnswer) (es' : List Entry) : Type 0 where
  pub outcome : Result Opened Refusal
  pub call : Reads f es outcome es'
  pub answer : r ≡ read_answer outcome

-- `r` answers a writing of the programmes with the numbers ns, the lengths ls and the rows w laid end to end, under the arities A, and
-- `b'` are the bytes of the file's buffer afterwards
pub record FileWritten (A ns ls w b : List ℕ) (r : CatalogueAnswer) (b' : List ℕ) : Type 0 where
  pub outcome : Result ℕ Refusal
  pub call : Writes A ns ls w b outcome b'
  pub answer : r ≡ write_answer outcome
