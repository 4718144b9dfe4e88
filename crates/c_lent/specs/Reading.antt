-- Inside: no public contract cites what stands in this file, and no reader has to believe it.
-- What is read before a row's numbers are.
use Rattle.std.specs.Prelude.{ℕ, ◌≤◌, ◌≡◌, List, length, take, Result, Ok, ⊤}
use Rattle.rows.specs.Limits.{alphabet_most}
use Rattle.rows.specs.Programme.{Alphabet}
use Rattle.rows.specs.Refusals.{◌then◌, alphabet, sizes}
use Rattle.rows.specs.declared.Refusal.TheVariants.{Row}
use Rattle.rows.specs.declared.Refusal.{Refusal}

-- refusals 1 to 6, for a row of n numbers in and beside lists of which the shortest has `places` places
abbrev pub sizes_check : Alphabet → ℕ → ℕ → Result ⊤ Refusal
sizes_check a n places = alphabet a then sizes Row n places

-- the check says `r`, and where it refuses nothing the alphabet stands at the front of `room`
pub record Read (A : List ℕ) (check r : Result ⊤ Refusal) (room : List ℕ) : Type 0 where
  pub answer : r ≡ check
  pub few : r ≡ Ok tt → length A ≤ alphabet_most
  pub front : r ≡ Ok tt → take (length A) room ≡ A
