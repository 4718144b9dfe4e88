-- Laws of bar forms: how long they are, and the row that they spell.
-- Assumes nothing.
use Prim.Native.Nat.{ℕ, ◌*◌, ◌≤◌}
use mathlib.Core.Path.{◌≡◌, refl, ap, ap₂, ◌∙◌}
use mathlib.Core.List.{List, [], ◌∷◌, ◌++◌}
use mathlib.Core.Bool.{Bool, true, false}
use native.Mathlib.Omega.{arith}
use borrow.Author.Tests.{ne_eqb}
use lib.Dec.{T, eqb, ltb→lt}
use lib.ListN.{length, length-append}
use Rattle.rows.specs.Tree.{Forest, Forest.none, Forest.grow, size, prefix, Ranked}
use Rattle.rows.specs.Parse.{parse}
use Rattle.rows.specs.Row.{pick, symbol, allowed}
use Rattle.rows.specs.declared.Leaves.TheVariants.{Symbols}
use Rattle.rows.proofs.Parse.{size-parse}
use Rattle.rows.specs.Limits.{alphabet_most, bar}
use Rattle.bars.specs.Bars.{bar_form, bars_of, unbarred}

-- a bar form has a symbol and a bar for each node
pub length_form : (f : Forest) → length (bar_form f) ≡ 2 * size f
unfolding bar_form size
length_form none = refl
length_form (grow s cs f) =
    let c = length_form cs in
    let d = length_form f in
    let e = length-append (bar_form cs) (bar ∷ bar_form f) in
    omega arith

pub length_bars : (A w : List ℕ) → length (bars_of A w) ≡ 2 * length w
unfolding bars_of
length_bars A w = length_form (parse A w) ∙ ap (λ (n : ℕ). 2 * n) (size-parse A w)

-- a symbol is no bar
pub no_bar : (A : List ℕ) (s : ℕ) → length A ≤ alphabet_most → T (symbol A s) → eqb s bar ≡ false
no_bar A s few h = ne_eqb s bar (λ e. omega (arith, ltb→lt s (length A) h))

picked_append : (b : Bool) (x : ℕ) (l m n : List ℕ) → l ≡ m ++ n → pick b l (x ∷ l) ≡ pick b m (x ∷ m) ++ n
picked_append true x l m n e = e
picked_append false x l m n e = ap (λ (k : List ℕ). x ∷ k) e

unbarred-append : (v w : List ℕ) → unbarred (v ++ w) ≡ unbarred v ++ unbarred w
unfolding unbarred
unbarred-append [] w = refl
unbarred-append (x ∷ v) w = picked_append (eqb x bar) x _ _ _ (unbarred-append v w)

unbarred-symbol : (A : List ℕ) (s : ℕ) (v : List ℕ) → length A ≤ alphabet_most → T (symbol A s) → unbarred (s ∷ v) ≡ s ∷ unbarred v
unfolding unbarred
unbarred-symbol A s v few h = ap (λ (b : Bool). pick b (unbarred v) (s ∷ unbarred v)) (no_bar A s few h)

unbarred-bar : (v : List ℕ) → unbarred (bar ∷ v) ≡ unbarred v
unfolding unbarred
unbarred-bar v = refl

-- without its bars the bar form of a ranked forest is its prefix notation
pub unbarred_form : (A : List ℕ) (f : Forest) → length A ≤ alphabet_most → Ranked A (allowed Symbols A) f → unbarred (bar_form f) ≡ prefix f
unfolding bar_form prefix Ranked unbarred
unbarred_form A none few r = refl
unbarred_form A (grow s cs f) few r =
    unbarred-symbol A s (bar_form cs ++ (bar ∷ bar_form f)) few r.0
    ∙ ap (λ (l : List ℕ). s ∷ l)
    (unbarred-append (bar_form cs) (bar ∷ bar_form f)
    ∙ ap₂ (λ (l m : List ℕ). l ++ m) (unbarred_form A cs few r.2) (unbarred-bar (bar_form f) ∙ unbarred_form A f few r.3))
