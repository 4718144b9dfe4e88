-- One entry of the table of an accepted row: where it lies, that the symbols up to it are a row, and that no other
-- position has that property.
-- Assumes nothing.
use Rattle.std.specs.Prelude.{Ok}
use Prim.Native.Nat.{ℕ, zero, suc, ◌+◌, ◌-◌, ◌≤◌, ◌<◌}
use mathlib.Core.Path.{◌≡◌, refl, sym, ap, ap₂, ◌∙◌, subst}
use mathlib.Core.List.{List, ◌∷◌, ◌++◌, append-nil}
use mathlib.Core.Bool.{Bool}
use native.Mathlib.Nat.{add-zero}
use native.Mathlib.Numerals.{add-one}
use native.Mathlib.Decide.{dec_le}
use native.Mathlib.Omega.{arith}
use lib.ListN.{length, get_or, take, drop, length-drop}
use lib.Seq.{get_or-drop, drop-drop, take_at, take-add, length-take-le}
use Rattle.rows.specs.Tree.{Forest, Forest.none, Forest.grow, IsRow, count, size, prefix, Ranked, ends}
use Rattle.rows.specs.Parse.{first, over, parse, table, behind}
use Rattle.rows.specs.Row.{verdict}
use Rattle.rows.proofs.Tree.{length-ends, length-prefix, size_split}
use Rattle.rows.proofs.Parse.{prefix-parse, size-parse, no_longer}
use Rattle.rows.proofs.Accept.{whole_drop, ranked_parse}
use Rattle.rows.proofs.Scan.{drop_more}
use Rattle.rows.proofs.Behind.{ends-behind, size-behind}

pub length-table : (A w : List ℕ) → length (table A w) ≡ length w
unfolding table
length-table A w = length-ends 0 (parse A w) ∙ size-parse A w

-- the table from p on is that of the trees from p on
pub drop-table : (A w : List ℕ) (p : ℕ) → p ≤ length w → drop p (table A w) ≡ ends p (behind A w p)
unfolding table behind
drop-table A w zero h = refl
drop-table A w (suc p) h =
    ap (λ (n : ℕ). drop n (table A w)) (sym (add-one p))
    ∙ sym (drop-drop 1 p (table A w))
    ∙ ap (drop 1) (drop-table A w p (omega arith) ∙ ends-behind A w p p (omega arith))
    ∙ ap (λ (n : ℕ). ends n (behind A w n)) (add-one p)

-- the entry at p is the arity's number of trees behind p + 1
pub entry_at : (A w : List ℕ) (p : ℕ) → p < length w
    → get_or (table A w) p 0 ≡ p + 1 + size (first (get_or A (get_or w p 0) 0) (behind A w (p + 1)))
entry_at A w p h =
    ap (λ (n : ℕ). get_or (table A w) n 0) (sym (add-zero p))
    ∙ sym (get_or-drop p (table A w) 0 0)
    ∙ ap (λ (l : List ℕ). get_or l 0 0) (drop-table A w p (omega arith) ∙ ends-behind A w p p h)

-- some tree stands at each position
pub behind_some : (A w : List ℕ) (p : ℕ) → p < length w → 0 < count (behind A w p)
unfolding behind parse over count
behind_some A w p h =
    subst (λ (l : List ℕ). 0 < count (parse A l)) (sym (drop_more w p h)) (omega arith)

head_ends : (b : ℕ) (g : Forest) → 0 < count g → get_or (ends b g) 0 0 ≡ b + size (first 1 g)
unfolding count ends size first
head_ends b none h = absurd (omega arith)
head_ends b (grow s cs f) h = omega arith

-- the entry at p is the end of the first tree behind p
pub entry_first : (A w : List ℕ) (p : ℕ) → p < length w → get_or (table A w) p 0 ≡ p + size (first 1 (behind A w p))
entry_first A w p h =
    ap (λ (n : ℕ). get_or (table A w) n 0) (sym (add-zero p))
    ∙ sym (get_or-drop p (table A w) 0 0)
    ∙ ap (λ (l : List ℕ). get_or l 0 0) (drop-table A w p (omega arith))
    ∙ head_ends p (behind A w p) (behind_some A w p h)

-- p < entry p ≤ length
pub entry_bounds : (A w : List ℕ) (p : ℕ) → p < length w → (p < get_or (table A w) p 0) × (get_or (table A w) p 0 ≤ length w)
entry_bounds A w p h =
    let a = get_or A (get_or w p 0) 0 in (
      omega (arith, entry_at A w p h),
      omega (arith, entry_first A w p h, size_split 1 (behind A w p), size-behind A w p),
    )

head_row : (A : List ℕ) (ok : ℕ → Bool) (g : Forest) → 0 < count g → Ranked A ok g → IsRow A ok (take (size (first 1 g)) (prefix g))
unfolding count Ranked size first prefix
head_row A ok none h r = absurd (omega arith)
head_row A ok (grow s cs f) h r =
    record {
      tree = record { symbol = s; children = cs };
      ranked = (r.0, r.1, r.2, tt);
      reads = ap (λ (l : List ℕ). s ∷ l) (append-nil (prefix cs)) ∙ sym (take_at (s ∷ prefix cs) (prefix f) (size cs + 0 + 1) (omega (arith, length-prefix cs)));
    }

-- the symbols from p up to the entry at p are a row
pub entry_row : (A : List ℕ) (ok : ℕ → Bool) (w : List ℕ) (k at : ℕ) → verdict A ok k at w ≡ Ok tt → (p : ℕ) → p < length w
    → IsRow A ok (take (get_or (table A w) p 0 - p) (drop p w))
unfolding behind
entry_row A ok w k at e p h =
    let d = whole_drop A ok p w k at e in
    let long : get_or (table A w) p 0 - p ≡ size (first 1 (behind A w p)) = omega (arith, entry_first A w p h) in
    subst (λ (l : List ℕ). IsRow A ok l) (ap₂ take (sym long) (prefix-parse A (drop p w)))
    (head_row A ok (behind A w p) (behind_some A w p h) (ranked_parse A ok (drop p w) d.0 d.1 d.2))

pub same_end : (A : List ℕ) (ok ok' : ℕ → Bool) (l : List ℕ) (i j : ℕ) → i ≤ j → j ≤ length l → IsRow A ok (take i l) → IsRow A ok' (take j l) → i ≡ j
same_end A ok ok' l i j h m r q =
    let up : i + (j - i) ≡ j = omega arith in
    let cut : take j l ≡ take i l ++ take (j - i) (drop i l) = ap (λ (n : ℕ). take n l) (sym up) ∙ take-add i (j - i) l in
    let None-more = no_longer A ok ok' (take i l) (take (j - i) (drop i l)) r (subst (IsRow A ok') cut q) in
    let len = ap length None-more in
    let more : j - i ≤ length (drop i l) = omega (arith, length-drop i l) in
    omega (arith, length-take-le (j - i) (drop i l) more)

-- and no other position ends a row that starts at p: the entry is the first (and only) place where the open count of p's subtree falls to nothing
pub entry_only : (A : List ℕ) (ok ok' : ℕ → Bool) (w : List ℕ) (k at : ℕ) → verdict A ok k at w ≡ Ok tt → (p e : ℕ) → p < length w → p ≤ e → e ≤ length w
    → IsRow A ok' (take (e - p) (drop p w)) → e ≡ get_or (table A w) p 0
entry_only A ok ok' w k at acc p e h lo hi r = go (dec_le (e - p) (t - p))
  where
    t : ℕ
    t = get_or (table A w) p 0

    row : IsRow A ok (take (t - p) (drop p w))
    row = entry_row A ok w k at acc p h

    bounds : (p < t) × (t ≤ length w)
    bounds = entry_bounds A w p h

    go : Dec (e - p ≤ t - p) → e ≡ t
    go (yes m) = omega (arith, bounds, same_end A ok' ok (drop p w) (e - p) (t - p) m (omega (arith, bounds, length-drop p w)) r row)
    go (no m) = omega (arith, bounds, same_end A ok ok' (drop p w) (t - p) (e - p) (omega arith) (omega (arith, length-drop p w)) row r)
