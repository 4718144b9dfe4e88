-- A check does not look past the row: by copies of its first n numbers, and of what stands beside it, it finds what it finds in the whole.
-- Assumes nothing.
use Rattle.std.specs.Prelude.{Result, Err, ⊤}
use Prim.Native.Nat.{ℕ, zero, suc, ◌+◌, ◌≤◌}
use mathlib.Core.Path.{◌≡◌, refl, sym, ap, ap₂, ◌∙◌}
use mathlib.Core.List.{List, [], ◌∷◌}
use native.Mathlib.Omega.{arith}
use lib.Dec.{eqb}
use lib.ListN.{length, take, length-take}
use Rattle.rows.specs.Programme.{Programme}
use Rattle.rows.specs.Row.{pick}
use Rattle.rows.specs.Parse.{table}
use Rattle.rows.specs.Classes.{classes}
use Rattle.rows.specs.Refusals.{◌then◌, symbols, differs, fresh, classed}
use Rattle.rows.specs.declared.Kept.TheVariants.{Stale, Misclassed}
use Rattle.rows.specs.declared.Refusal.{Refusal}
use Rattle.rows.specs.declared.Refusal.TheVariants.{Row}
use Rattle.rows.proofs.Entry.{length-table}
use Rattle.rows.proofs.Classes.{class_of_row}

-- what stands behind the row's length is not looked at
differs-cut : (wrong : ℕ → Refusal) (at k : ℕ) (l t : List ℕ) → length l ≤ k → differs wrong at l (take k t) ≡ differs wrong at l t
unfolding differs
differs-cut wrong at k [] t h = refl
differs-cut wrong at zero (e ∷ l) t h = absurd (omega arith)
differs-cut wrong at (suc k) (e ∷ l) [] h = refl
differs-cut wrong at (suc k) (e ∷ l) (x ∷ t) h =
    ap (λ (c : Result ⊤ Refusal). pick (eqb x e) c (Err (wrong at))) (differs-cut wrong (at + 1) k l t (omega arith))

-- the check of a table, and of classes, by a copy
copy_differs : (wrong : ℕ → Refusal) (l t u : List ℕ) (n : ℕ) → length l ≤ n → take n u ≡ take n t → differs wrong 0 l u ≡ differs wrong 0 l t
copy_differs wrong l t u n short e =
    sym (differs-cut wrong 0 n l u short) ∙ ap (differs wrong 0 l) e ∙ differs-cut wrong 0 n l t short

-- refusals 7 to 10 and 62, by copies
pub lists_cut : (A : List ℕ) (P : Programme) (x u c : List ℕ) (n : ℕ) → take n x ≡ take n P.row → take n u ≡ take n P.table → take n c ≡ take n P.classes
    → symbols Row A (take n x) then fresh Row A (take n x) u then classed Row A (take n x) c
    ≡ symbols Row A (take n P.row) then fresh Row A (take n P.row) P.table then classed Row A (take n P.row) P.classes
unfolding fresh classed
lists_cut A P x u c n row_is table_is classes_are =
    let w : List ℕ = take n P.row in
    let short : length w ≤ n = simp length-take (omega arith) in
    ap (λ (l : List ℕ). symbols Row A l then fresh Row A l u then classed Row A l c) row_is
    ∙ ap₂ (λ (e k : Result ⊤ Refusal). symbols Row A w then e then k)
    (copy_differs (λ k. Row (Stale k)) (table A w) P.table u n (omega (arith, length-table A w)) table_is)
    (copy_differs (λ k. Row (Misclassed k)) (classes A w) P.classes c n (omega (arith, (class_of_row A w).0)) classes_are)
