-- The result of one pattern of a sheet.
use Rattle.std.specs.Prelude.{ℕ, List, [], ◌∷◌, Result, Ok, Err, ⊤}
use Rattle.refusal_numbers.specs.Numbers.{number, place}
use Rattle.rows.specs.declared.Refusal.{Refusal}

-- three numbers, for a pattern with n matches: refusal or 0, place or 0, count
abbrev pub result_of : Result ⊤ Refusal → ℕ → List ℕ
result_of (Ok _) n = 0 ∷ 0 ∷ n ∷ []
result_of (Err r) n = number r ∷ place r ∷ 0 ∷ []
