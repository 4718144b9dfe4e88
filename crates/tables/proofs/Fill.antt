-- How a table is filled from right to left.
-- Assumes nothing.
use Prim.Native.Nat.{ℕ, ◌+◌, ◌≤◌, ◌<◌}
use mathlib.Core.Path.{◌≡◌, sym, ap, ap₂, ◌∙◌}
use mathlib.Core.List.{List, ◌∷◌, ◌++◌}
use native.Mathlib.Nat.{add-zero}
use native.Mathlib.Numerals.{add-one}
use native.Mathlib.Omega.{arith}
use lib.ListN.{length, get_or, take, drop, set, take-append-drop}
use lib.Seq.{set_at, take-suc, append_snoc, length-take-le, drop-length}
use Rattle.rows.specs.Tree.{size, ends}
use Rattle.rows.specs.Parse.{first, parse, behind}
use Rattle.rows.specs.Buffers.{written}
use Rattle.rows.proofs.Tree.{length-ends}
use Rattle.rows.proofs.Parse.{size-parse}
use Rattle.rows.proofs.Behind.{ends-behind}

-- a table into which the ends of the row w, which stands from position b on, are filled from the row's place p to its end
unfoldable pub partly : List ℕ → List ℕ → List ℕ → ℕ → ℕ → List ℕ
partly A w t b p = take (b + p) t ++ (ends (b + p) (behind A w p) ++ drop (b + length w) t)

pub partly_none : (A w t : List ℕ) (b : ℕ) → t ≡ partly A w t b (length w)
unfolding partly behind parse ends
partly_none A w t b =
    sym (ap (λ (l : List ℕ). take (b + length w) t ++ (ends (b + length w) (parse A l) ++ drop (b + length w) t)) (drop-length w)
    ∙ take-append-drop (b + length w) t)

pub partly_all : (A w t : List ℕ) (b : ℕ) → partly A w t b 0 ≡ written t b (ends b (parse A w))
unfolding partly behind written
partly_all A w t b =
    ap₂ (λ (n m : ℕ). take n t ++ (ends n (parse A w) ++ drop (b + m) t)) (add-zero b) (sym (length-ends b (parse A w) ∙ size-parse A w))

set_before : (t z : List ℕ) (p e : ℕ) → p < length t → set (take (p + 1) t ++ z) p e ≡ take p t ++ (e ∷ z)
set_before t z p e h =
    rw add-one
    (ap (λ (l : List ℕ). set (l ++ z) p e) (take-suc t p 0 h)
    ∙ ap (λ (l : List ℕ). set l p e) (append_snoc (take p t) (get_or t p 0) z)
    ∙ set_at (take p t) (get_or t p 0) z e p (length-take-le p t (omega arith)))

-- one entry more, that of the symbol at p
pub partly_more : (A w t : List ℕ) (b p : ℕ) → b + length w ≤ length t → p < length w
    → set (partly A w t b (p + 1)) (b + p) (b + p + 1 + size (first (get_or A (get_or w p 0) 0) (behind A w (p + 1)))) ≡ partly A w t b p
unfolding partly
partly_more A w t b p fits below =
    let up : b + (p + 1) ≡ b + p + 1 = omega arith in
    let e : ℕ = b + p + 1 + size (first (get_or A (get_or w p 0) 0) (behind A w (p + 1))) in
    ap (λ (n : ℕ). set (take n t ++ (ends n (behind A w (p + 1)) ++ drop (b + length w) t)) (b + p) e) up
    ∙ set_before t (ends (b + p + 1) (behind A w (p + 1)) ++ drop (b + length w) t) (b + p) e (omega arith)
    ∙ ap (λ (l : List ℕ). take (b + p) t ++ (l ++ drop (b + length w) t)) (sym (ends-behind A w (b + p) p below))
