-- The forest that a list spells from a position on, and its ends: the law by which a table is read from right to left.
-- Assumes nothing.
use Rattle.std.specs.Prelude.{Ok}
use Prim.Native.Nat.{ℕ, ◌+◌, ◌-◌, ◌≤◌, ◌<◌}
use mathlib.Core.Path.{◌≡◌, sym, ap, ap₂, ◌∙◌}
use mathlib.Core.List.{List, ◌∷◌, ◌++◌}
use mathlib.Core.Bool.{Bool}
use native.Mathlib.Omega.{arith}
use lib.ListN.{length, get_or, drop, length-drop}
use Rattle.rows.specs.Tree.{Forest, count, size, ends}
use Rattle.rows.specs.Parse.{first, rest, over, parse, behind}
use Rattle.rows.specs.Row.{verdict}
use Rattle.rows.proofs.Tree.{ends-beside, split, count-rest, count-size}
use Rattle.rows.proofs.Parse.{size-parse}
use Rattle.rows.proofs.Scan.{drop_more}
use Rattle.rows.proofs.Accept.{enough}

-- the ends of a symbol over the first a trees of g: its own, then those of g
pub ends-over : (b s a : ℕ) (g : Forest) → ends b (over s a g) ≡ (b + 1 + size (first a g)) ∷ ends (b + 1) g
unfolding over ends
ends-over b s a g =
    let same : b + size (first a g) + 1 ≡ b + 1 + size (first a g) = omega arith in
    ap₂ (λ (n : ℕ) (l : List ℕ). n ∷ l) same
    (ap (λ (n : ℕ). ends (b + 1) (first a g) ++ ends n (rest a g)) same
    ∙ sym (ends-beside (b + 1) (first a g) (rest a g))
    ∙ ap (ends (b + 1)) (split a g))

pub size-behind : (A w : List ℕ) (p : ℕ) → size (behind A w p) ≡ length w - p
unfolding behind
size-behind A w p = size-parse A (drop p w) ∙ length-drop p w

-- no more trees stand behind p than symbols
pub few-behind : (A w : List ℕ) (p : ℕ) → p ≤ length w → count (behind A w p) + p ≤ length w
few-behind A w p h = omega (arith, count-size (behind A w p), size-behind A w p)

-- one symbol on
pub behind-over : (A w : List ℕ) (p : ℕ) → p < length w → behind A w p ≡ over (get_or w p 0) (get_or A (get_or w p 0) 0) (behind A w (p + 1))
unfolding behind parse
behind-over A w p h = ap (parse A) (drop_more w p h)

-- the symbol at p takes as many trees as its arity says, where there are as many, and is one itself
pub count-behind : (A w : List ℕ) (p : ℕ) → p < length w → get_or A (get_or w p 0) 0 ≤ count (behind A w (p + 1))
    → count (behind A w p) + get_or A (get_or w p 0) 0 ≡ count (behind A w (p + 1)) + 1
unfolding over count
count-behind A w p h deep =
    omega (arith, ap count (behind-over A w p h), count-rest (get_or A (get_or w p 0) 0) (behind A w (p + 1)) deep)

-- in an accepted list as many trees stand behind a symbol as its arity says
pub enough_behind : (A : List ℕ) (ok : ℕ → Bool) (w : List ℕ) (k at : ℕ) → verdict A ok k at w ≡ Ok tt
    → (p : ℕ) → p < length w → get_or A (get_or w p 0) 0 ≤ count (behind A w (p + 1))
unfolding behind
enough_behind A ok w k at e p h = (enough A ok w k at e p h).1

-- the ends from p on, where p stands at b: its own, where the arity's number of trees behind it ends, then those from p + 1 on
pub ends-behind : (A w : List ℕ) (b p : ℕ) → p < length w
    → ends b (behind A w p)
    ≡ (b + 1 + size (first (get_or A (get_or w p 0) 0) (behind A w (p + 1)))) ∷ ends (b + 1) (behind A w (p + 1))
ends-behind A w b p h =
    ap (ends b) (behind-over A w p h)
    ∙ ends-over b (get_or w p 0) (get_or A (get_or w p 0) 0) (behind A w (p + 1))
