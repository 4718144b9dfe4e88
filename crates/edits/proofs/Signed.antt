-- The difference of two numbers as a signed one.
-- Assumes nothing.
use mathlib.Core.Path.{◌≡◌, ap}
use Prim.Native.Nat.{ℕ, zero, suc, ◌-◌, ◌^◌, ◌≤◌, ◌<◌}
use native.Mathlib.Nat.{not-suc-le-zero}
use native.Mathlib.Omega.{arith}
use lib.IntN.{pos, negsuc, ◌-ℤ◌}
use mir.Syntax.{Width}
use mir.Val.{SFits, hbits}
use borrow.Author.Tests.{lt-ltb, le-ltb}
use Rattle.rows.proofs.Passing.{below}

pub minus_ge : (a b : ℕ) → b ≤ a → pos a -ℤ pos b ≡ pos (a - b)
minus_ge a zero h = ap pos (omega arith)
minus_ge a (suc b) h = rw (le-ltb a (suc b) h)

pub minus_lt : (a b : ℕ) → a < b → pos a -ℤ pos b ≡ negsuc (b - suc a)
minus_lt a zero h = absurd (not-suc-le-zero h)
minus_lt a (suc b) h = rw (lt-ltb a (suc b) h)

pub minus_fits : (w : Width) (a b : ℕ) → a < 2 ^ hbits w → b < 2 ^ hbits w → SFits w (pos a -ℤ pos b)
minus_fits w a b ha hb =
    below a b
    (λ h. rw (minus_lt a b h) (record { sfits = omega arith }))
    (λ h. rw (minus_ge a b h) (record { sfits = omega arith }))
