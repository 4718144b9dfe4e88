-- What `differs` says of two lists.
-- Assumes nothing.
use Rattle.std.specs.Prelude.{Result, Ok, Err, ⊤}
use Prim.Native.Nat.{ℕ, ◌+◌}
use mathlib.Core.Path.{◌≡◌, refl, ap₂}
use mathlib.Core.List.{List, [], ◌∷◌, ◌++◌}
use mathlib.Core.Bool.{Bool, true, false}
use native.Mathlib.Omega.{arith}
use borrow.Author.Tests.{eq-eqb, eqb-true}
use lib.Dec.{eqb}
use lib.ListN.{length, take}
use Rattle.rows.specs.Row.{pick}
use Rattle.rows.specs.Refusals.{differs}
use Rattle.rows.specs.declared.Refusal.{Refusal}

-- a list that starts with the other one does not differ from it
pub differs_same : (wrong : ℕ → Refusal) (at : ℕ) (l r : List ℕ) → differs wrong at l (l ++ r) ≡ Ok tt
unfolding differs
differs_same wrong at [] r = refl
differs_same wrong at (x ∷ l) r = simp (eq-eqb x x refl) (differs_same wrong (at + 1) l r)

picked : (wrong : ℕ → Refusal) (b : Bool) (c : Result ⊤ Refusal) (p : ℕ) → pick b c (Err (wrong p)) ≡ Ok tt → (b ≡ true) × (c ≡ Ok tt)
picked wrong true c p e = (refl, e)
picked wrong false c p e = let z : ◌≡◌ {A = ℕ} 0 1 = cc in absurd (omega arith)

-- the second list starts with the first
pub differs_whole : (wrong : ℕ → Refusal) (at : ℕ) (l t : List ℕ) → differs wrong at l t ≡ Ok tt → take (length l) t ≡ l
unfolding differs
differs_whole wrong at [] t e = refl
differs_whole wrong at (x ∷ l) [] e = let z : ◌≡◌ {A = ℕ} 0 1 = cc in absurd (omega arith)
differs_whole wrong at (x ∷ l) (y ∷ t) e =
    let h = picked wrong (eqb y x) _ at e in
    ap₂ (λ (n : ℕ) (m : List ℕ). n ∷ m) (eqb-true y x h.0) (differs_whole wrong (at + 1) l t h.1)
