-- What checks that find nothing to refuse tell.
-- Assumes nothing.
use Rattle.std.specs.Prelude.{Result, Ok, Err, ⊤}
use Prim.Native.Nat.{ℕ, ◌+◌, ◌*◌, ◌≤◌}
use mathlib.Core.Path.{◌≡◌, refl}
use mathlib.Core.List.{List, [], ◌∷◌}
use mathlib.Core.Bool.{Bool, true, false}
use native.Mathlib.Omega.{arith}
use borrow.Author.Tests.{ltb-false, eqb-true}
use lib.Dec.{ltb, eqb}
use Rattle.rows.specs.Row.{pick}
use Rattle.rows.proofs.Passing.{not-refused}
use Rattle.catalogue.specs.Refusals.{placed}
use Rattle.catalogue.specs.declared.Entry.{Entry}
use Rattle.rows.specs.declared.Refusal.{Refusal}
use Rattle.rows.specs.declared.CatalogueFault.TheVariants.{Misplaced, LeftOver}
use Rattle.rows.specs.declared.Refusal.TheVariants.{Catalogue as OfCatalogue}

-- a test that is wanted holds
pub is_wanted : (b : Bool) (c : Result ⊤ Refusal) (r : Refusal) → pick b c (Err r) ≡ Ok tt → (b ≡ true) × (c ≡ Ok tt)
is_wanted true c r e = (refl, e)
is_wanted false c r e = let z : ◌≡◌ {A = ℕ} 0 1 = cc in absurd (omega arith)

-- the first of entries that are placed right starts at the next byte, its row ends within the file, and the others follow
pub record Follows (size at next : ℕ) (e : Entry) (es : List Entry) : Type 0 where
  pub begins : e.start ≡ next
  pub within : next + 2 * e.length ≤ size
  pub rest : placed size (at + 12) (next + 2 * e.length) es ≡ Ok tt

pub placed_first : (size at next : ℕ) (e : Entry) (es : List Entry) → placed size at next (e ∷ es) ≡ Ok tt → Follows size at next e es
unfolding placed
placed_first size at next e es h =
    let a = is_wanted (eqb e.start next) _ (OfCatalogue (Misplaced at)) h in
    let b = not-refused (ltb size (next + 2 * e.length)) (OfCatalogue (Misplaced at)) _ a.1 in
    record { begins = eqb-true e.start next a.0; within = ltb-false size (next + 2 * e.length) b.0; rest = b.1 }

pub placed_last : (size at next : ℕ) → placed size at next [] ≡ Ok tt → next ≡ size
unfolding placed
placed_last size at next h = eqb-true next size (is_wanted (eqb next size) (Ok tt) (OfCatalogue (LeftOver next)) h).0
