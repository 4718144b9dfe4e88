-- What a call leaves in the lent buffers, and that it is one.
use Rattle.std.specs.Prelude.{ℕ, ◌+◌, ◌≡◌, List, ◌++◌, length, take, drop, Result, Ok, Err, ⊤}
use Rattle.rows.specs.declared.Refusal.{Refusal}

-- the buffer with the elements `v` written from place `at` on; the others stay
unfoldable pub written : {X : Type 0} → List X → ℕ → List X → List X
written b at v = take at b ++ (v ++ drop (at + length v) b)

-- what is there after a call: the new if the check is fine, else the old
abbrev pub after {ℓ} : {X : Type ℓ} → Result ⊤ Refusal → X → X → X
after (Ok _) new old = new
after (Err r) new old = old

-- there is one outcome, and no other
pub record One {X : Type 0} (admits : X → Type 0) : Type 0 where
  pub some : X
  pub holds : admits some
  pub only : (x : X) → admits x → x ≡ some
