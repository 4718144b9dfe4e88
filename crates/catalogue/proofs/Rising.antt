-- Refusal 67 is given exactly where numbers do not rise strictly.
-- Assumes nothing.
use Rattle.std.specs.Prelude.{Ok}
use Prim.Native.Nat.{ℕ, zero, suc, ◌+◌, ◌≤◌, ◌<◌}
use mathlib.Core.Path.{◌≡◌, refl}
use mathlib.Core.List.{List, [], ◌∷◌}
use native.Mathlib.Omega.{arith}
use borrow.Author.Tests.{ltb-false, le-ltb}
use lib.Dec.{ltb}
use lib.ListN.{length, get_or}
use Rattle.rows.proofs.Passing.{not-refused}
use Rattle.catalogue.specs.Refusals.{rises}
use Rattle.catalogue.specs.Catalogue.{Rising}
use Rattle.rows.specs.declared.CatalogueFault.TheVariants.{NotRising}
use Rattle.rows.specs.declared.Refusal.TheVariants.{Catalogue as OfCatalogue}

pub rising_of : (step at least : ℕ) (ns : List ℕ) → rises step at least ns ≡ Ok tt → Rising ns
unfolding rises
rising_of step at least [] e k h = absurd (omega arith)
rising_of step at least (n ∷ []) e k h = absurd (omega arith)
rising_of step at least (n ∷ (m ∷ ns)) e zero h =
    let a = (not-refused (ltb n least) (OfCatalogue (NotRising at)) _ e).1 in
    let b = ltb-false m (n + 1) (not-refused (ltb m (n + 1)) (OfCatalogue (NotRising (at + step))) _ a).0 in
    omega arith
rising_of step at least (n ∷ (m ∷ ns)) e (suc k) h =
    rising_of step (at + step) (n + 1) (m ∷ ns) (not-refused (ltb n least) (OfCatalogue (NotRising at)) _ e).1 k (omega arith)

pub of_rising : (step at least : ℕ) (ns : List ℕ) → (0 < length ns → least ≤ get_or ns 0 0) → Rising ns → rises step at least ns ≡ Ok tt
unfolding rises
of_rising step at least [] f r = refl
of_rising step at least (n ∷ ns) f r =
    simp (le-ltb n least (f (omega arith)))
    (of_rising step (at + step) (n + 1) ns (λ h. omega (arith, r 0 (omega arith))) (λ k h. r (suc k) (omega arith)))
