-- S at the pattern's end always fits.
-- Assumes nothing.
use Prim.Native.Nat.{ℕ, suc, ◌+◌, ◌<◌}
use mathlib.Core.Path.{◌≡◌, refl, sym, subst}
use mathlib.Core.List.{List, [], ◌∷◌}
use mathlib.Core.Bool.{Bool, true, false}
use native.Mathlib.Omega.{arith}
use lib.ListN.{length, get_or}
use Rattle.patterns.specs.Pattern.{leaf}
use Rattle.patterns.specs.Walk.{same_symbol, Outcome, steps, onward, walk}
use Rattle.patterns.specs.declared.Leaf.TheVariants.{Blank}
use Rattle.patterns.proofs.Steps.{steps_same, steps-blank}
use Rattle.plain.specs.Plain.{Comes}

-- a walk along S comes through
pub blanks_come : (w e : List ℕ) (b : ℕ) (q : List ℕ) (j : ℕ) (ms : List ℕ) → ((i : ℕ) → i < length q → leaf (get_or q i 0) ≡ Blank) → Comes (walk w e b q j ms)
unfolding walk
blanks_come w e b [] j ms h = record { to = j; marks = ms; reaches = refl }
blanks_come w e b (s ∷ q) j ms h =
    go (same_symbol (get_or w j 0) s) refl (λ n. blanks_come w e (b + 1) q n ms (λ i l. h (suc i) (omega arith)))
  where
    go : (c : Bool) → same_symbol (get_or w j 0) s ≡ c → ((n : ℕ) → Comes (walk w e (b + 1) q n ms)) → Comes (onward (steps w e b s j ms) (λ j' ms'. walk w e (b + 1) q j' ms'))
    go true y ih = subst (λ (o : Outcome). Comes (onward o (λ j' ms'. walk w e (b + 1) q j' ms'))) (sym (steps_same w e b s j ms y)) (ih (j + 1))
    go false y ih = subst (λ (o : Outcome). Comes (onward o (λ j' ms'. walk w e (b + 1) q j' ms'))) (sym (steps-blank w e b s j ms y (h 0 (omega arith)))) (ih (get_or e j 0))
