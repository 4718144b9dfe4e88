-- What find and the variables call answer, and what they leave in the output.
use Rattle.std.specs.Prelude.{ℕ, ◌≡◌, List, Bool, true, false, ◌↔◌, length, Result, Ok, Err, ⊤}
use Rattle.rows.specs.Programme.{Alphabet, Programme}
use Rattle.rows.specs.Row.{pick}
use Rattle.rows.specs.Buffers.{written, after}
use Rattle.patterns.specs.Answers.{MatchesAt, Listed, spans}
use Rattle.checks.specs.Checks.{search_check, find_check, variables_check}
use Rattle.rows.specs.declared.Refusal.{Refusal}

-- the number of the matches, or the refusal
abbrev pub found : Result ⊤ Refusal → ℕ → Result ℕ Refusal
found (Ok _) n = Ok n
found (Err r) n = Err r

-- `r` answers find with the output `y`, which is `y'` afterwards. Where refusals 1 to 15 leave anything to search,
-- `positions` is the list of all matches.
pub record Finds (a : Alphabet) (P : Programme) (q y : List ℕ) (r : Result ℕ Refusal) (y' : List ℕ) : Type 0 where
  pub positions : List ℕ
  pub listed : search_check a P q ≡ Ok tt → Listed a P.row q (length P.row) positions
  pub answer : r ≡ found (find_check a P q (length positions) (length y)) (length positions)
  pub output : y' ≡ after (find_check a P q (length positions) (length y)) (written y 0 positions) y

-- matched or not, or the refusal
abbrev pub bound : Result ⊤ Refusal → Bool → Result Bool Refusal
bound (Ok _) true = Ok true
bound (Ok _) false = Ok false
bound (Err r) b = Err r

-- `r` answers the variables call at position `p` with the output `y`, which is `y'` afterwards. Where nothing is refused,
-- `matched` says whether the pattern matches there.
pub record Binds (a : Alphabet) (P : Programme) (q : List ℕ) (p : ℕ) (y : List ℕ) (r : Result Bool Refusal) (y' : List ℕ) : Type 0 where
  pub matched : Bool
  pub exactly : variables_check a P q p (length y) ≡ Ok tt → (matched ≡ true) ↔ MatchesAt a P.row q p
  pub answer : r ≡ bound (variables_check a P q p (length y)) matched
  pub output : y' ≡ after (variables_check a P q p (length y)) (pick matched (written y 0 (spans a.arities P.row q p)) y) y
