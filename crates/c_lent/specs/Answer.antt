-- How answers cross to C: the numbers of the answer's struct, for each answer of the Rattle calls.
use Rattle.std.specs.Prelude.{ℕ, ℤ, pos, Result, Ok, Err, ⊤}
use Rattle.refusal_numbers.specs.Numbers.{number, place}
use Rattle.rows.specs.declared.Refusal.{Refusal}
use Rattle.c_lent.specs.declared.Answer.{Answer}

-- nothing is refused: a count, and a change in length
abbrev pub granted : ℕ → ℤ → Answer
granted n d = record { refusal = 0; change = d; place = 0; count = n }

-- a refusal: its number and its place, the rest 0
abbrev pub refused : Refusal → Answer
refused r = record { refusal = number r; change = pos 0; place = place r; count = 0 }

-- build: the count is the row's length n
abbrev pub build_answer : Result ⊤ Refusal → ℕ → Answer
build_answer (Ok _) n = granted n (pos 0)
build_answer (Err r) n = refused r

-- find: the count is the number of the matches
abbrev pub find_answer : Result ℕ Refusal → Answer
find_answer (Ok n) = granted n (pos 0)
find_answer (Err r) = refused r

-- sheet: the count is the number of all positions
abbrev pub sheet_answer : Result (ℕ × ℕ) Refusal → Answer
sheet_answer (Ok (n, m)) = granted m (pos 0)
sheet_answer (Err r) = refused r

-- replace: the count is the new length, beside the change
abbrev pub replace_answer : Result (ℕ × ℤ) Refusal → Answer
replace_answer (Ok (n, d)) = granted n d
replace_answer (Err r) = refused r
