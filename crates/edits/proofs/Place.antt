-- Laws of refusals 17 and 18.
-- Assumes nothing.
use Rattle.std.specs.Prelude.{Result, Ok, Err, ⊤}
use Prim.Native.Nat.{ℕ, ◌≤◌, ◌<◌, min}
use mathlib.Core.Path.{◌≡◌}
use lib.Dec.{ltb}
use borrow.Author.Tests.{lt-ltb, le-ltb, le-leb, lt-leb, ltb-false}
use Rattle.rows.specs.Limits.{row_most}
use Rattle.rows.specs.Refusals.{◌then◌, position, grown}
use Rattle.rows.specs.declared.Refusal.TheVariants.{Position, TooLong}
use Rattle.rows.proofs.Passing.{refuse_fine}
use Rattle.rows.specs.declared.Refusal.{Refusal}

pub position_past : (n p : ℕ) (c : Result ⊤ Refusal) → n ≤ p → position n p then c ≡ Err (Position p)
unfolding position
position_past n p c h = simp (le-leb n p h)

pub position_in : (n p : ℕ) (c : Result ⊤ Refusal) → p < n → position n p then c ≡ c
unfolding position
position_in n p c h = simp (lt-leb n p h)

pub grown-over : (m room : ℕ) → min row_most room < m → grown m room ≡ Err (TooLong m)
unfolding grown
grown-over m room h = simp (lt-ltb (min row_most room) m h)

pub grown_fits : (m room : ℕ) → m ≤ min row_most room → grown m room ≡ Ok tt
unfolding grown
grown_fits m room h = simp (le-ltb (min row_most room) m h)

-- what 18 leaves
pub grown_fine : (m room : ℕ) → grown m room ≡ Ok tt → m ≤ min row_most room
unfolding grown
grown_fine m room e = ltb-false (min row_most room) m (refuse_fine (ltb (min row_most room) m) (TooLong m) e)
