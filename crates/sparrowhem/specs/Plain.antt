-- What the plain matcher answers.
use Rattle.std.specs.Prelude.{ℕ, ◌≡◌, List, Bool, true, false, Result, Ok, Err}
use Rattle.rows.specs.Programme.{Alphabet}
use Rattle.patterns.specs.Answers.{MatchesAt}
use Rattle.checks.specs.Checks.{plain_check}
use Rattle.rows.specs.declared.Refusal.{Refusal}

-- what an answer at position p says: nothing is refused and the pattern matches there, or does not; or the first refusal
abbrev pub PlainSays : Alphabet → List ℕ → List ℕ → ℕ → Result Bool Refusal → Type 0
PlainSays a w q p (Ok true) = (plain_check a w q p ≡ Ok tt) × MatchesAt a w q p
PlainSays a w q p (Ok false) = (plain_check a w q p ≡ Ok tt) × (MatchesAt a w q p → ⊥)
PlainSays a w q p (Err r) = plain_check a w q p ≡ Err r
