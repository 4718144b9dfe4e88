-- What a check that goes through numbers and lengths says at entry k, from those that stand there: the step of each loop.
-- Assumes nothing.
use Rattle.std.specs.Prelude.{Result, Ok, Err, ⊤}
use Prim.Native.Nat.{ℕ, suc, ◌+◌, ◌-◌, ◌*◌, ◌≤◌, ◌<◌}
use mathlib.Core.Path.{◌≡◌, sym, ap, ap₂, ◌∙◌}
use mathlib.Core.List.{List, [], ◌∷◌}
use native.Mathlib.Omega.{arith}
use lib.Dec.{ltb}
use lib.ListN.{length, get_or, take, drop, drop_of_length-le}
use lib.Seq.{drop-drop}
use Rattle.rows.specs.Limits.{row_most}
use Rattle.rows.specs.Row.{pick, reading}
use Rattle.rows.specs.Refusals.{◌then◌}
use Rattle.rows.specs.declared.Leaves.TheVariants.{Symbols}
use Rattle.rows.specs.declared.Fault.{Fault}
use Rattle.rows.specs.declared.CatalogueFault.TheVariants.{NotRising}
use Rattle.rows.specs.declared.Refusal.TheVariants.{Catalogue as OfCatalogue}
use Rattle.rows.proofs.Scan.{drop_more}
use Rattle.catalogue.specs.Refusals.{rises, as_programme, rows_fit, numbered, total}

-- 67
pub rising_at : (ns : List ℕ) (k least : ℕ) → k < length ns
    → rises 1 k least (drop k ns)
    ≡ pick (ltb (get_or ns k 0) least) (Err (OfCatalogue (NotRising k))) (rises 1 (k + 1) (get_or ns k 0 + 1) (drop (k + 1) ns))
unfolding rises
rising_at ns k least h = ap (rises 1 k least) (drop_more ns k h)

pub rising_done : (ns : List ℕ) (k least : ℕ) → length ns ≤ k → rises 1 k least (drop k ns) ≡ Ok tt
unfolding rises
rising_done ns k least h = ap (rises 1 k least) (drop_of_length-le ns h)

-- the sum of the lengths from k on
pub total_at : (ls : List ℕ) (k : ℕ) → k < length ls → total (drop k ls) ≡ get_or ls k 0 + total (drop (k + 1) ls)
unfolding total
total_at ls k h = ap total (drop_more ls k h)

pub total_done : (ls : List ℕ) (k : ℕ) → length ls ≤ k → total (drop k ls) ≡ 0
unfolding total
total_done ls k h = ap total (drop_of_length-le ls h)

-- lengths of 32 bits add up to little
pub total_most : (ls : List ℕ) → ((i : ℕ) → get_or ls i 0 < 4294967296) → total ls ≤ 4294967295 * length ls
unfolding total
total_most [] small = omega arith
total_most (l ∷ ls) small = omega (arith, small 0, total_most ls (λ i. small (suc i)))

-- 4 to 9
pub rows_at : (A ns ls w : List ℕ) (k next : ℕ) → k < length ns → k < length ls
    → rows_fit A (numbered (drop k ns) (drop k ls) (drop next w))
    ≡ as_programme (get_or ns k 0) (reading A Symbols row_most (take (get_or ls k 0) (drop next w)))
    then rows_fit A (numbered (drop (k + 1) ns) (drop (k + 1) ls) (drop (next + get_or ls k 0) w))
unfolding rows_fit numbered
rows_at A ns ls w k next h j =
    let row = reading A Symbols row_most (take (get_or ls k 0) (drop next w)) in
    ap₂ (λ (x y : List ℕ). rows_fit A (numbered x y (drop next w))) (drop_more ns k h) (drop_more ls k j)
    ∙ ap (λ (v : List ℕ). as_programme (get_or ns k 0) row then rows_fit A (numbered (drop (k + 1) ns) (drop (k + 1) ls) v))
    (drop-drop (get_or ls k 0) next w)

-- the same, by the verdict on the row that stands there
pub rows_step : (A ns ls w : List ℕ) (k next : ℕ) (v : Result ⊤ Fault) → k < length ns → k < length ls
    → v ≡ reading A Symbols row_most (take (next + get_or ls k 0 - next) (drop next w))
    → rows_fit A (numbered (drop k ns) (drop k ls) (drop next w))
    ≡ as_programme (get_or ns k 0) v then rows_fit A (numbered (drop (k + 1) ns) (drop (k + 1) ls) (drop (next + get_or ls k 0) w))
rows_step A ns ls w k next v h j e =
    let part : get_or ls k 0 ≡ next + get_or ls k 0 - next = omega arith in
    rows_at A ns ls w k next h j
    ∙ ap (λ (x : Result ⊤ Fault). as_programme (get_or ns k 0) x then rows_fit A (numbered (drop (k + 1) ns) (drop (k + 1) ls) (drop (next + get_or ls k 0) w)))
    (ap (λ (i : ℕ). reading A Symbols row_most (take i (drop next w))) part ∙ sym e)

pub rows_done : (A ns ls w : List ℕ) (k : ℕ) → length ns ≤ k → rows_fit A (numbered (drop k ns) (drop k ls) w) ≡ Ok tt
unfolding rows_fit numbered
rows_done A ns ls w k h = ap (λ (x : List ℕ). rows_fit A (numbered x (drop k ls) w)) (drop_of_length-le ns h)
