-- Reading accepts exactly the bar forms of ranked trees.
-- Assumes nothing.
use Rattle.std.specs.Prelude.{Result, Ok, Err, ⊤}
use Prim.Native.Nat.{ℕ, zero, suc, ◌+◌, ◌*◌, ◌/◌, ◌≤◌}
use mathlib.Core.Path.{◌≡◌, refl, sym, ap, ap₂, ◌∙◌}
use mathlib.Core.List.{List, [], ◌∷◌, ◌++◌, append_assoc}
use mathlib.Core.Bool.{Bool, true, false}
use native.Mathlib.Nat.{add-zero, zero-add, div-add-mod}
use native.Mathlib.Omega.{arith}
use lib.Dec.{T, eqb, eqb→eq}
use lib.ListN.{length, get_or}
use Rattle.rows.specs.Tree.{Forest, Forest.none, Forest.grow, single, count, size, Ranked}
use Rattle.rows.specs.Row.{pick, symbol, allowed}
use Rattle.rows.specs.declared.Leaves.TheVariants.{Symbols}
use Rattle.rows.specs.declared.BarsFault.TheVariants.{NothingOpen, Children}
use Rattle.rows.specs.declared.Refusal.{Refusal}
use Rattle.rows.specs.declared.Refusal.TheVariants.{Row, Bars}
use Rattle.rows.specs.declared.Fault.TheVariants.{Stray}
use Rattle.rows.specs.declared.Kept.TheVariants.{Misread}
use Rattle.rows.proofs.Tree.{length-prefix}
use Rattle.rows.specs.Limits.{alphabet_most, bar}
use Rattle.bars.specs.Bars.{bar_form, IsBars, unbarred, closing, rooted}
use Rattle.rows.proofs.Passing.{not-refused}
use Rattle.bars.proofs.Forms.{length_form, no_bar, unbarred_form}

pick_true : (b : Bool) (x y : Result ⊤ Refusal) → T b → pick b x y ≡ x
pick_true true x y h = refl
pick_true false x y h = absurd h

-- a symbol where the innermost open node lacks a child opens a node
pub closing-symbol : (A : List ℕ) (k : ℕ) (ks : List ℕ) (at s : ℕ) (v : List ℕ) → length A ≤ alphabet_most → T (symbol A s)
    → closing A (suc k ∷ ks) at (s ∷ v) ≡ closing A (get_or A s 0 ∷ (k ∷ ks)) (at + 1) v
unfolding closing
closing-symbol A k ks at s v few h =
    ap (λ (b : Bool). pick b (Err (Bars (Children at))) (pick (symbol A s) (closing A (get_or A s 0 ∷ (k ∷ ks)) (at + 1) v) (Err (Row (Misread (Stray at)))))) (no_bar A s few h)
    ∙ pick_true (symbol A s) _ _ h

-- a bar where it lacks none closes it
pub closing-bar : (A ks : List ℕ) (at : ℕ) (v : List ℕ) → closing A (0 ∷ ks) at (bar ∷ v) ≡ closing A ks (at + 1) v
unfolding closing
closing-bar A ks at v = refl

-- the bar form of a ranked forest is read off where the innermost open node lacks its trees, and reading goes on behind it
closing_forest : (A : List ℕ) (f : Forest) (k : ℕ) (ks : List ℕ) (at : ℕ) (v : List ℕ) → length A ≤ alphabet_most → Ranked A (allowed Symbols A) f
    → closing A ((count f + k) ∷ ks) at (bar_form f ++ v) ≡ closing A (k ∷ ks) (at + 2 * size f) v
unfolding bar_form size count Ranked
closing_forest A none k ks at v few r =
    ap₂ (λ (i j : ℕ). closing A (i ∷ ks) j v) (zero-add k) (sym (add-zero at))
closing_forest A (grow s cs f) k ks at v few r =
    let opened : get_or A s 0 ≡ count cs + 0 = omega (arith, r.1) in
    ap (λ (n : ℕ). closing A (n ∷ ks) at (s ∷ ((bar_form cs ++ (bar ∷ bar_form f)) ++ v))) (omega arith)
    ∙ closing-symbol A (count f + k) ks at s ((bar_form cs ++ (bar ∷ bar_form f)) ++ v) few r.0
    ∙ ap₂ (λ (n : ℕ) (l : List ℕ). closing A (n ∷ ((count f + k) ∷ ks)) (at + 1) l) opened (append_assoc (bar_form cs) (bar ∷ bar_form f) v)
    ∙ closing_forest A cs 0 ((count f + k) ∷ ks) (at + 1) (bar ∷ (bar_form f ++ v)) few r.2
    ∙ closing-bar A ((count f + k) ∷ ks) (at + 1 + 2 * size cs) (bar_form f ++ v)
    ∙ closing_forest A f k ks (at + 1 + 2 * size cs + 1) v few r.3
    ∙ ap (λ (n : ℕ). closing A (k ∷ ks) n v) (omega arith)

pub rooted_of_bars : (A v : List ℕ) → length A ≤ alphabet_most → IsBars A v → rooted A v ≡ Ok tt
unfolding rooted bar_form Ranked closing
rooted_of_bars A v few b =
    let s = b.tree.symbol in
    let cs = b.tree.children in
    let r = b.ranked in
    let opened : get_or A s 0 ≡ count cs + 0 = omega (arith, r.1) in
    let rest : (Result ⊤ Refusal) = closing A (get_or A s 0 ∷ []) 1 (bar_form cs ++ (bar ∷ [])) in
    ap (rooted A) (sym b.reads)
    ∙ ap (λ (c : Bool). pick c (Err (Bars (NothingOpen 0))) (pick (symbol A s) rest (Err (Row (Misread (Stray 0)))))) (no_bar A s few r.0)
    ∙ pick_true (symbol A s) _ _ r.0
    ∙ ap (λ (n : ℕ). closing A (n ∷ []) 1 (bar_form cs ++ (bar ∷ []))) opened
    ∙ closing_forest A cs 0 [] 1 (bar ∷ []) few r.2

-- what a test has found where nothing is refused
fine_then : (b : Bool) (x : Result ⊤ Refusal) (r : Refusal) → pick b x (Err r) ≡ Ok tt → T b × (x ≡ Ok tt)
fine_then true x r e = (tt, e)
fine_then false x r e = let z : ◌≡◌ {A = ℕ} 0 1 = cc in absurd (omega arith)

-- a list that closes open nodes: of each, the innermost first, the bar form of the children that it lacks, and its bar
unfoldable Closes : List ℕ → List ℕ → List ℕ → Type 0
Closes A [] v = v ≡ []
Closes A (k ∷ ks) v =
    (f : Forest) × (u : List ℕ) × Ranked A (allowed Symbols A) f × (count f ≡ k) × (bar_form f ++ (bar ∷ u) ≡ v) × Closes A ks u

is_bar : (x : ℕ) → T (eqb x bar) → bar ≡ x
is_bar x h = sym (eqb→eq x bar h)

-- what is accepted closes the open nodes
closes : (A v ks : List ℕ) (at : ℕ) → closing A ks at v ≡ Ok tt → Closes A ks v
unfolding closing Closes bar_form Ranked count
closes A [] [] at e = refl
closes A [] (k ∷ ks) at e = let z : ◌≡◌ {A = ℕ} 0 1 = cc in absurd (omega arith)
closes A (x ∷ v) [] at e = let z : ◌≡◌ {A = ℕ} 0 1 = cc in absurd (omega arith)
closes A (x ∷ v) (zero ∷ ks) at e =
    let h = fine_then (eqb x bar) _ (Bars (Children at)) e in
    (none, v, tt, refl, ap (λ (n : ℕ). n ∷ v) (is_bar x h.0), closes A v ks (at + 1) h.1)
closes A (x ∷ v) (suc k ∷ ks) at e =
    let h = fine_then (symbol A x) _ (Row (Misread (Stray at))) (not-refused (eqb x bar) (Bars (Children at)) _ e).1 in
    let inner = closes A v (get_or A x 0 ∷ (k ∷ ks)) (at + 1) h.1 in
    let outer = inner.5 in
    let cs = inner.0 in
    let f = outer.0 in
    let all : (bar_form cs ++ (bar ∷ bar_form f)) ++ (bar ∷ outer.1) ≡ v =
    append_assoc (bar_form cs) (bar ∷ bar_form f) (bar ∷ outer.1)
    ∙ ap (λ (l : List ℕ). bar_form cs ++ (bar ∷ l)) outer.4 ∙ inner.4 in (
      grow x cs f,
      outer.1,
      (h.0, inner.3, inner.2, outer.2),
      omega (arith, outer.3),
      ap (λ (l : List ℕ). x ∷ l) all,
      outer.5,
    )

pub bars_of_rooted : (A v : List ℕ) → rooted A v ≡ Ok tt → IsBars A v
unfolding rooted Closes bar_form Ranked
bars_of_rooted A [] e = let z : ◌≡◌ {A = ℕ} 0 1 = cc in absurd (omega arith)
bars_of_rooted A (x ∷ v) e =
    let h = fine_then (symbol A x) _ (Row (Misread (Stray 0))) (not-refused (eqb x bar) (Bars (NothingOpen 0)) _ e).1 in
    let root = closes A v (get_or A x 0 ∷ []) 1 h.1 in
    record {
      tree = record { symbol = x; children = root.0 };
      ranked = (h.0, root.3, root.2, tt);
      reads = ap (λ (l : List ℕ). x ∷ l) (ap (λ (u : List ℕ). bar_form root.0 ++ (bar ∷ u)) (sym root.5) ∙ root.4);
    }

-- what is accepted has as many bars as symbols
pub rooted_half : (A v : List ℕ) → length A ≤ alphabet_most → rooted A v ≡ Ok tt → length v / 2 ≡ length (unbarred v)
rooted_half A v few e =
    let b = bars_of_rooted A v e in
    let f = single b.tree in
    let long : length v ≡ 2 * size f = ap length (sym b.reads) ∙ length_form f in
    let row : length (unbarred v) ≡ size f =
    ap (λ (l : List ℕ). length (unbarred l)) (sym b.reads) ∙ ap length (unbarred_form A f few b.ranked) ∙ length-prefix f in
    omega (arith, div-add-mod (length v) 2)
