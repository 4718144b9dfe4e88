-- What a sheet of patterns answers, and what it leaves in its two outputs.
use Rattle.std.specs.Prelude.{ℕ, ◌<◌, ◌≡◌, List, [], length, Result, Ok, Err, ⊤}
use Rattle.rows.specs.Programme.{Alphabet, Programme}
use Rattle.rows.specs.Sheet.{pattern_at, laid}
use Rattle.rows.specs.Buffers.{written, after}
use Rattle.rows.specs.Refusals.{pattern}
use Rattle.rows.specs.declared.Refusal.{Refusal}
use Rattle.patterns.specs.Answers.{Listed}
use Rattle.checks.specs.Checks.{results_check, sheet_check}
use Rattle.sheets.specs.Result.{result_of}

-- the number of the patterns and that of all positions, or the refusal
abbrev pub sheet_found : Result ⊤ Refusal → ℕ → ℕ → Result (ℕ × ℕ) Refusal
sheet_found (Ok _) n m = Ok (n, m)
sheet_found (Err r) n m = Err r

-- `ps` are the positions of the pattern q: all its matches, or none where it is refused
pub record Positions (a : Alphabet) (w q ps : List ℕ) : Type 0 where
  pub listed : pattern a.arities q ≡ Ok tt → Listed a w q (length w) ps
  pub refused : (x : Refusal) → pattern a.arities q ≡ Err x → ps ≡ []

-- the positions `at` of the patterns, laid end to end in the order of the patterns
abbrev pub all_positions : List ℕ → (ℕ → List ℕ) → List ℕ
all_positions ls at = laid at (length ls)

-- their results, likewise
abbrev pub all_results : Alphabet → List ℕ → List ℕ → (ℕ → List ℕ) → List ℕ
all_results a qs ls at = laid (λ i. result_of (pattern a.arities (pattern_at qs ls i)) (length (at i))) (length ls)

-- what the sheet refuses, where the patterns have the positions `at`
abbrev pub check_of : Alphabet → Programme → (qs ls y z : List ℕ) → (ℕ → List ℕ) → Result ⊤ Refusal
check_of a P qs ls y z at = sheet_check a P qs ls (length z) (length (all_positions ls at)) (length y)

-- `r` answers a sheet of the patterns qs of lengths ls, with the output `y` for the positions and `z` for the results, which are `y'` and
-- `z'` afterwards. Where what is refused before leaves anything to search, `positions` are those of each pattern.
pub record SheetAnswers (a : Alphabet) (P : Programme) (qs ls y z : List ℕ) (r : Result (ℕ × ℕ) Refusal) (y' z' : List ℕ) : Type 0 where
  pub positions : ℕ → List ℕ
  pub each : results_check a P qs ls (length z) ≡ Ok tt → (i : ℕ) → i < length ls → Positions a P.row (pattern_at qs ls i) (positions i)
  pub answer : r ≡ sheet_found (check_of a P qs ls y z positions) (length ls) (length (all_positions ls positions))
  pub output : y' ≡ after (check_of a P qs ls y z positions) (written y 0 (all_positions ls positions)) y
  pub results : z' ≡ after (check_of a P qs ls y z positions) (written z 0 (all_results a qs ls positions)) z
