-- The lengths of a sheet's patterns together are where one more pattern would begin.
-- Assumes nothing.
use Rattle.std.proofs.Common.{ℕ, zero, suc, ◌+◌, ◌≤◌, ◌≡◌, ◌∙◌, refl, sym, ap, List, length, take, sum, add-one, arith}
use Rattle.std.proofs.Math.Seq.{take-length}
use Rattle.std.proofs.lemmas.List.Sums.{fold_more}
use Rattle.rows.specs.Sheet.{begin_of}

begins : (ls : List ℕ) (i : ℕ) → i ≤ length ls → begin_of ls i ≡ sum (take i ls)
unfolding begin_of
begins ls zero h = refl
begins ls (suc i) h =
    rw (← add-one) (rw (begins ls i (omega arith), fold_more ◌+◌ 0 ls i 0 (omega arith)) refl)

pub sum_begins : (ls : List ℕ) → sum ls ≡ begin_of ls (length ls)
sum_begins ls = sym (begins ls (length ls) (omega arith) ∙ ap sum (take-length ls))
