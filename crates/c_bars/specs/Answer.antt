-- How answers on bar notation cross to C: the numbers of the answer's struct, for each answer of the Rattle calls.
use Rattle.std.specs.Prelude.{pos, ℕ, Result, Ok, Err}
use Rattle.c_lent.specs.Answer.{granted, refused}
use Rattle.c_lent.specs.declared.Answer.{Answer}
use Rattle.rows.specs.declared.Refusal.{Refusal}

-- read: the count is the row's length
abbrev pub read_answer : Result ℕ Refusal → Answer
read_answer (Ok n) = granted n (pos 0)
read_answer (Err r) = refused r

-- write: the count is the length of the bar form
abbrev pub write_answer : Result ℕ Refusal → Answer
write_answer (Ok n) = granted n (pos 0)
write_answer (Err r) = refused r
