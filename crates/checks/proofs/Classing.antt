-- The classes are checked behind row and table, and only where these are found right.
-- Assumes nothing.
use Rattle.std.specs.Prelude.{Result, Ok, Err, ⊤}
use Prim.Native.Nat.{ℕ}
use mathlib.Core.Path.{◌≡◌, sym, ap, ◌∙◌}
use mathlib.Core.List.{List}
use Rattle.rows.specs.Refusals.{◌then◌, keeps, symbols, fresh, classed}
use Rattle.rows.specs.declared.Kept.{Kept}
use Rattle.rows.specs.declared.Refusal.{Refusal}
use Rattle.rows.specs.declared.Refusal.TheVariants.{Row}
use Rattle.rows.proofs.Passing.{then_assoc}
use Rattle.tables.specs.Given.{Sized, Right}
use Rattle.tables.proofs.Given.{check_right}

-- what was found of row and table
module _ (A w t k : List ℕ) (found : Result ⊤ Kept) (told : (whose : Kept → Refusal) → keeps whose found ≡ symbols whose A w then fresh whose A w t) where
  ordered : (whose : Kept → Refusal) → keeps whose found then classed whose A w k ≡ symbols whose A w then fresh whose A w t then classed whose A w k
  ordered whose = ap (λ (x : Result ⊤ Refusal). x then classed whose A w k) (told whose) ∙ then_assoc (symbols whose A w) (fresh whose A w t) (classed whose A w k)

  pub found_right : Sized w t → found ≡ Ok tt → Right A w t
  found_right z e = check_right Row A w t z (sym (told Row) ∙ ap (keeps Row) e)

  -- a fault is told before the classes
  pub before-classes : {fault : Kept} → found ≡ Err fault → (whose : Kept → Refusal) → keeps whose found ≡ symbols whose A w then fresh whose A w t then classed whose A w k
  before-classes e whose = ap (keeps whose) e ∙ sym (ap (λ (x : Result ⊤ Kept). keeps whose x then classed whose A w k) e) ∙ ordered whose

  pub then_classes : found ≡ Ok tt → (r : Result ⊤ Kept) → ((whose : Kept → Refusal) → keeps whose r ≡ classed whose A w k)
      → (whose : Kept → Refusal) → keeps whose r ≡ symbols whose A w then fresh whose A w t then classed whose A w k
  then_classes e r says whose = says whose ∙ sym (ap (λ (x : Result ⊤ Kept). keeps whose x then classed whose A w k) e) ∙ ordered whose
