-- What an alphabet that is accepted tells: how many symbols it has, that no arity is above 15, and that there is a leaf.
-- Assumes nothing.
use Rattle.std.specs.Prelude.{Ok}
use Prim.Native.Nat.{ℕ, zero, suc, ◌+◌, ◌<◌, ◌≤◌}
use mathlib.Core.Path.{◌≡◌, refl}
use mathlib.Core.List.{List, [], ◌∷◌}
use mathlib.Core.Bool.{Bool, true, false}
use native.Mathlib.Omega.{arith}
use borrow.Author.Tests.{ltb-false, eqb-true}
use lib.Dec.{ltb, eqb}
use lib.ListN.{length, get_or}
use Rattle.rows.specs.Limits.{alphabet_most, arity_most}
use Rattle.rows.specs.Programme.{alphabet_of}
use Rattle.rows.specs.Row.{pick}
use Rattle.rows.specs.Refusals.{alphabet_size, arities_fit, some_leaf, alphabet}
use Rattle.rows.specs.declared.Arities.TheVariants.{Over}
use Rattle.rows.specs.declared.Refusal.TheVariants.{Arities}
use Rattle.rows.proofs.Passing.{both_fine, not-refused, few}

arities-small : (at : ℕ) (A : List ℕ) → arities_fit at A ≡ Ok tt → (k : ℕ) → get_or A k 0 ≤ arity_most
unfolding arities_fit
arities-small at [] e k = omega arith
arities-small at (a ∷ A) e zero = ltb-false arity_most a (not-refused (ltb arity_most a) (Arities (Over at)) _ e).0
arities-small at (a ∷ A) e (suc k) = arities-small (at + 1) A (not-refused (ltb arity_most a) (Arities (Over at)) _ e).1 k

-- a symbol of arity 0
abbrev pub Leaf : List ℕ → Type 0
Leaf l = (s : ℕ) × (s < length l) × (get_or l s 0 ≡ 0)

leaf_here : (a : ℕ) (l : List ℕ) (b : Bool) → eqb a 0 ≡ b → pick b (Ok tt) (some_leaf l) ≡ Ok tt → (some_leaf l ≡ Ok tt → Leaf l) → Leaf (a ∷ l)
leaf_here a l true p e on = (0, omega arith, eqb-true a 0 p)
leaf_here a l false p e on =
    let r = on e in
    (suc r.0, omega (arith, r.1), r.2)

leaf_of : (l : List ℕ) → some_leaf l ≡ Ok tt → Leaf l
unfolding some_leaf
leaf_of [] e = let z : ◌≡◌ {A = ℕ} 0 1 = cc in absurd (omega arith)
leaf_of (a ∷ l) e = leaf_here a l (eqb a 0) refl e (λ h. leaf_of l h)

module _ (A : List ℕ) (h : alphabet (alphabet_of A) ≡ Ok tt) where
  pub symbols_most : length A ≤ alphabet_most
  unfolding alphabet
  symbols_most = few (length A) (both_fine (alphabet_size (length A)) _ h).0

  pub arities_most : (k : ℕ) → get_or A k 0 ≤ arity_most
  unfolding alphabet
  arities_most = arities-small 0 A (both_fine (arities_fit 0 A) _ (both_fine (alphabet_size (length A)) _ h).1).0

  pub some_leaf_lem : Leaf A
  unfolding alphabet
  some_leaf_lem = leaf_of A (both_fine (arities_fit 0 A) _ (both_fine (alphabet_size (length A)) _ h).1).1
