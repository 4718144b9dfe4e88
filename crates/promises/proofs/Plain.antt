-- Plain matcher and find agree, answer by answer.
-- Assumes nothing.
use Rattle.std.specs.Prelude.{Result, Ok, Err, ⊤}
use Prim.Native.Nat.{ℕ, ◌≤◌}
use mathlib.Core.Path.{◌≡◌, refl, sym, ap, ◌∙◌, subst}
use mathlib.Core.List.{List, Memᴰ}
use mathlib.Core.Bool.{Bool, true, false}
use mathlib.Core.Logic.{◌↔◌}
use native.Mathlib.Omega.{arith}
use borrow.Author.Tests.{lt-leb}
use lib.Dec.{ltb, leb}
use lib.ListN.{length, take}
use Rattle.rows.specs.Programme.{Alphabet, Programme}
use Rattle.rows.specs.Refusals.{◌then◌, refuse_if, pattern, position, output}
use Rattle.rows.specs.declared.Refusal.{Refusal}
use Rattle.rows.specs.declared.Refusal.TheVariants.{Position, OutputShort}
use Rattle.rows.proofs.Passing.{both_fine, clash, position_fine}
use Rattle.refusal_numbers.specs.Numbers.{number}
use Rattle.checks.specs.Checks.{plain_check, search_check, find_check}
use Rattle.sparrowhem.specs.Search.{found, Finds}
use Rattle.sparrowhem.specs.Plain.{PlainSays}
use Rattle.sparrowhem.proofs.Searching.{finds_matches}
use Rattle.promises.specs.Demands.{Both}
use Rattle.promises.proofs.Agreeing.{row_check, search_left, plain_left}
use Rattle.promises.proofs.Calls.{find_all, plain_settled, plain_yes}

module _ (a : Alphabet) (P : Programme) (q y : List ℕ) (f : Result ℕ Refusal) (y' : List ℕ) (p : ℕ) (r : Result Bool Refusal) (b : Both a P q y f y' p r) where
  abbrev w : List ℕ
  w = P.row

  -- what both look at first
  abbrev first : Result ⊤ Refusal
  first = row_check a w then pattern a.arities q

  searched : search_check a P q ≡ first
  searched = search_left a b.old b.build P b.long b.built q

  abbrev many : ℕ
  many = length b.finds.positions

  found_by : (c : Result ⊤ Refusal) → first ≡ c → f ≡ found (c then output many (length y)) many
  unfolding find_check
  found_by c e = b.finds.answer ∙ ap (λ (c : Result ⊤ Refusal). found (c then output many (length y)) many) (searched ∙ e)

  -- find lists the positions, where it does not refuse
  lists : first ≡ Ok tt → ((n : ℕ) → f ≡ Err (OutputShort n) → ⊥) → (n : ℕ) × (f ≡ Ok n)
  unfolding output
  lists e room = go (ltb (length y) many) (found_by (Ok tt) e)
    where
      go : (c : Bool) → f ≡ found (refuse_if c (OutputShort many)) many → (n : ℕ) × (f ≡ Ok n)
      go true z = absurd (room _ z)
      go false z = (_, z)

  pub agree_yes : ((n : ℕ) → f ≡ Err (OutputShort n) → ⊥) → (r ≡ Ok true) ↔ ((n : ℕ) × (f ≡ Ok n) × Memᴰ p (take n y'))
  unfolding position
  agree_yes room = (to, from)
    where
      to : r ≡ Ok true → (n : ℕ) × (f ≡ Ok n) × Memᴰ p (take n y')
      to e =
          let yes = (plain_yes a w q p r b.says).0 e in
          let both = both_fine first (position (length w) p) (sym (plain_left a w q p) ∙ yes.0) in
          let l = lists both.0 room in
          let listed = (find_all a P q y l.0 y' (subst (λ (g : Result ℕ Refusal). Finds a P q y g y') l.1 b.finds)).0 in
          (l.0, l.1, (listed.exactly p).1 (position_fine (length w) p both.1, yes.1))

      from : (n : ℕ) × (f ≡ Ok n) × Memᴰ p (take n y') → r ≡ Ok true
      from m =
          let found_All = finds_matches a P q y f y' b.finds m.0 m.1 in
          let listed = (find_all a P q y m.0 y' (subst (λ (g : Result ℕ Refusal). Finds a P q y g y') m.1 b.finds)).0 in
          let here = (listed.exactly p).0 m.2 in
          let fine : plain_check a w q p ≡ (Ok tt) =
          plain_left a w q p
          ∙ ap (λ (c : Result ⊤ Refusal). c then position (length w) p) (sym searched ∙ found_All.checked)
          ∙ rw (lt-leb (length w) p here.0) refl in
          (plain_yes a w q p r b.says).1 (fine, here.1)

  -- a refusal of what both look at first comes from both; no other refusal is shared
  pub agree_no : (x : Refusal) → number x ≤ 15 → (r ≡ Err x) ↔ (f ≡ Err x)
  unfolding position output
  agree_no x s = go first refl
    where
      -- 17 and 19 are not
      not_seventeen : (c : Bool) → refuse_if c (Position p) ≡ Err x → ⊥
      not_seventeen true z = let same : Position p ≡ x = cc in omega (arith, s, ap number same)
      not_seventeen false z = clash (Ok tt) x refl z

      not_nineteen : (c : Bool) (n : ℕ) → Err x ≡ found (refuse_if c (OutputShort n)) n → ⊥
      not_nineteen true n z = let same : OutputShort n ≡ x = cc in omega (arith, s, ap number same)
      not_nineteen false n z = let k : ◌≡◌ {A = ℕ} 0 1 = cc in omega arith

      later_plain : first ≡ Ok tt → r ≡ Err x → ⊥
      later_plain e z =
          not_seventeen (leb (length w) p)
          (sym (plain_left a w q p ∙ ap (λ (c : Result ⊤ Refusal). c then position (length w) p) e) ∙ subst (PlainSays a w q p) z b.says)

      later_find : first ≡ Ok tt → f ≡ Err x → ⊥
      later_find e z = not_nineteen (ltb (length y) many) many (sym z ∙ found_by (Ok tt) e)

      go : (c : Result ⊤ Refusal) → first ≡ c → (r ≡ Err x) ↔ (f ≡ Err x)
      go (Ok _) e = (λ z. absurd (later_plain e z), λ z. absurd (later_find e z))
      go (Err k) e =
          let plain-is : r ≡ Err k =
          plain_settled a w q p r (Err k) b.says (plain_left a w q p ∙ ap (λ (c : Result ⊤ Refusal). c then position (length w) p) e) in
          let find-is : f ≡ Err k = found_by (Err k) e in
          (λ z. (let same : k ≡ x = cc in find-is ∙ ap Err same), λ z. (let same : k ≡ x = cc in plain-is ∙ ap Err same))
