-- Laws of `verdict`: it is `Whole` exactly at the rows of ranked trees, for any test `ok` of the symbols, and then what
-- `parse` finds is ranked. One set of laws serves rows, patterns and replacements.
-- Assumes nothing.
use Rattle.std.specs.Prelude.{Result, Ok, Err, ⊤}
use Prim.Native.Nat.{ℕ, zero, suc, ◌+◌, ◌≤◌, ◌<◌}
use mathlib.Core.Path.{◌≡◌, refl, sym, ap, ap₂, ◌∙◌, subst}
use mathlib.Core.List.{List, [], ◌∷◌, ◌++◌, append_assoc, append-nil}
use mathlib.Core.Bool.{Bool, true, false}
use native.Mathlib.Nat.{add-zero, zero-add}
use mathlib.Core.Logic.{◌↔◌}
use native.Mathlib.Numerals.{add-one}
use native.Mathlib.Omega.{arith}
use lib.Dec.{T}
use lib.ListN.{length, get_or, drop}
use lib.Seq.{drop-cons}
use Rattle.rows.specs.Tree.{Forest, Forest.none, Forest.grow, Tree, single, IsRow, count, size, prefix, Ranked, subtrees, subtree_at}
use Rattle.rows.specs.Parse.{over, parse, tree_of}
use Rattle.rows.specs.Row.{verdict, pick}
use Rattle.rows.specs.declared.Fault.TheVariants.{Stray}
use Rattle.rows.proofs.Tree.{count-first, count-rest, ranked_first, ranked_rest, no_trees}
use Rattle.rows.proofs.Parse.{prefix-parse, parse-prefix}
use Rattle.rows.specs.declared.Fault.{Fault}

pick_true : (b : Bool) (x y : Result ⊤ Fault) → T b → pick b x y ≡ x
pick_true true x y h = refl
pick_true false x y h = absurd h

-- a faulty verdict is not `Whole`
pub picked : (b : Bool) (x : Result ⊤ Fault) (p : ℕ) → pick b x (Err (Stray p)) ≡ Ok tt → T b × (x ≡ Ok tt)
picked true x p e = (tt, e)
picked false x p e = let z : ◌≡◌ {A = ℕ} 0 1 = cc in absurd (omega arith)

-- an allowed symbol asks for its children
pub verdict_step : (A : List ℕ) (ok : ℕ → Bool) (k at s : ℕ) (w : List ℕ) → T (ok s)
    → verdict A ok (suc k) at (s ∷ w) ≡ verdict A ok (k + get_or A s 0) (at + 1) w
unfolding verdict
verdict_step A ok k at s w h = pick_true (ok s) _ _ h

-- a ranked forest is read off, and reading goes on behind it
pub verdict_forest : (A : List ℕ) (ok : ℕ → Bool) (f : Forest) (k at : ℕ) (w : List ℕ) → Ranked A ok f
    → verdict A ok (count f + k) at (prefix f ++ w) ≡ verdict A ok k (at + size f) w
unfolding prefix size count Ranked
verdict_forest A ok none k at w r = ap₂ (λ (i j : ℕ). verdict A ok i j w) (zero-add k) (sym (add-zero at))
verdict_forest A ok (grow s cs f) k at w r =
    let read : ℕ → ℕ → List ℕ → (Result ⊤ Fault) = verdict A ok in
    let opened : count f + k + get_or A s 0 ≡ count cs + (count f + k) = omega (arith, r.1) in
    ap (λ (n : ℕ). read n at (s ∷ ((prefix cs ++ prefix f) ++ w))) (omega arith)
    ∙ verdict_step A ok (count f + k) at s ((prefix cs ++ prefix f) ++ w) r.0
    ∙ ap₂ (λ (n : ℕ) (l : List ℕ). read n (at + 1) l) opened (append_assoc (prefix cs) (prefix f) w)
    ∙ verdict_forest A ok cs (count f + k) (at + 1) (prefix f ++ w) r.2
    ∙ verdict_forest A ok f k (at + 1 + size cs) w r.3
    ∙ ap (λ (n : ℕ). read k n w) (omega arith)

pub whole_of_row : (A : List ℕ) (ok : ℕ → Bool) (w : List ℕ) → IsRow A ok w → verdict A ok 1 0 w ≡ Ok tt
unfolding verdict count
whole_of_row A ok w r =
    let t = single r.tree in
    ap (verdict A ok 1 0) (sym (append-nil (prefix t) ∙ r.reads)) ∙ verdict_forest A ok t 0 0 [] r.ranked

-- a list that is accepted parses to as many trees as were to come, all ranked
pub count-parse : (A : List ℕ) (ok : ℕ → Bool) (w : List ℕ) (k at : ℕ) → verdict A ok k at w ≡ Ok tt → count (parse A w) ≡ k
unfolding verdict parse over count
count-parse A ok [] zero at e = refl
count-parse A ok [] (suc k) at e = let z : ◌≡◌ {A = ℕ} 0 1 = cc in absurd (omega arith)
count-parse A ok (s ∷ w) zero at e = let z : ◌≡◌ {A = ℕ} 0 1 = cc in absurd (omega arith)
count-parse A ok (s ∷ w) (suc k) at e =
    let n = count-parse A ok w (k + get_or A s 0) (at + 1) (picked (ok s) _ at e).1 in
    let m = count-rest (get_or A s 0) (parse A w) (omega arith) in
    omega arith

pub ranked_parse : (A : List ℕ) (ok : ℕ → Bool) (w : List ℕ) (k at : ℕ) → verdict A ok k at w ≡ Ok tt → Ranked A ok (parse A w)
unfolding verdict parse over Ranked
ranked_parse A ok [] k at e = tt
ranked_parse A ok (s ∷ w) zero at e = let z : ◌≡◌ {A = ℕ} 0 1 = cc in absurd (omega arith)
ranked_parse A ok (s ∷ w) (suc k) at e =
    let h = picked (ok s) _ at e in
    let n = count-parse A ok w (k + get_or A s 0) (at + 1) h.1 in
    let r = ranked_parse A ok w (k + get_or A s 0) (at + 1) h.1 in
    (h.0, count-first (get_or A s 0) (parse A w) (omega arith), ranked_first A ok (get_or A s 0) (parse A w) r, ranked_rest A ok (get_or A s 0) (parse A w) r)

-- one tree, as a tree
pub lone : (g : Forest) → count g ≡ 1 → (t : Tree) × (g ≡ single t)
unfolding count
lone none e = absurd (omega arith)
lone (grow s cs f) e = (record { symbol = s; children = cs }, ap (grow s cs) (no_trees f (omega arith)))

pub row_of_whole : (A : List ℕ) (ok : ℕ → Bool) (w : List ℕ) → verdict A ok 1 0 w ≡ Ok tt → IsRow A ok w
row_of_whole A ok w e =
    let t = lone (parse A w) (count-parse A ok w 1 0 e) in
    record {
      tree = t.0;
      ranked = subst (Ranked A ok) t.1 (ranked_parse A ok w 1 0 e);
      reads = ap prefix (sym t.1) ∙ prefix-parse A w;
    }

pub whole_iff_row : (A : List ℕ) (ok : ℕ → Bool) (w : List ℕ) → (verdict A ok 1 0 w ≡ Ok tt) ↔ IsRow A ok w
whole_iff_row A ok w = (row_of_whole A ok w, whole_of_row A ok w)

-- what `parse` finds at a row is the row's tree
pub parse_row : (A : List ℕ) (ok : ℕ → Bool) (w : List ℕ) → (r : IsRow A ok w) → parse A w ≡ single r.tree
parse_row A ok w r = ap (parse A) (sym r.reads) ∙ parse-prefix A ok (single r.tree) r.ranked

pub tree_row : (A : List ℕ) (ok : ℕ → Bool) (w : List ℕ) → (r : IsRow A ok w) → tree_of A w ≡ r.tree
unfolding subtrees
tree_row A ok w r = ap (λ (f : Forest). subtree_at f 0) (parse_row A ok w r)

-- an accepted list spells its tree alone
pub parse_whole : (A : List ℕ) (ok : ℕ → Bool) (w : List ℕ) → verdict A ok 1 0 w ≡ Ok tt → parse A w ≡ single (tree_of A w)
parse_whole A ok w e =
    let r = row_of_whole A ok w e in
    parse_row A ok w r ∙ ap single (sym (tree_row A ok w r))

-- the rest of an accepted list is accepted, with some number of trees to come
pub whole_drop : (A : List ℕ) (ok : ℕ → Bool) (p : ℕ) (w : List ℕ) (k at : ℕ) → verdict A ok k at w ≡ Ok tt
    → (n : ℕ) × (m : ℕ) × (verdict A ok n m (drop p w) ≡ Ok tt)
unfolding verdict
whole_drop A ok zero w k at e = (k, at, e)
whole_drop A ok (suc p) [] k at e = (k, at, e)
whole_drop A ok (suc p) (s ∷ w) zero at e = let z : ◌≡◌ {A = ℕ} 0 1 = cc in absurd (omega arith)
whole_drop A ok (suc p) (s ∷ w) (suc k) at e = whole_drop A ok p w (k + get_or A s 0) (at + 1) (picked (ok s) _ at e).1

enough_here : (A : List ℕ) (ok : ℕ → Bool) (s : ℕ) (w : List ℕ) (k at : ℕ) → verdict A ok k at (s ∷ w) ≡ Ok tt
    → T (ok s) × (get_or A s 0 ≤ count (parse A w))
unfolding verdict
enough_here A ok s w zero at e = let z : ◌≡◌ {A = ℕ} 0 1 = cc in absurd (omega arith)
enough_here A ok s w (suc k) at e =
    let h = picked (ok s) _ at e in
    let n = count-parse A ok w (k + get_or A s 0) (at + 1) h.1 in
    (h.0, omega arith)

-- so each symbol of it is allowed, and as many trees stand behind it as its arity asks
pub enough : (A : List ℕ) (ok : ℕ → Bool) (w : List ℕ) (k at : ℕ) → verdict A ok k at w ≡ Ok tt
    → (p : ℕ) → p < length w → T (ok (get_or w p 0)) × (get_or A (get_or w p 0) 0 ≤ count (parse A (drop (p + 1) w)))
enough A ok w k at e p h =
    let r = whole_drop A ok p w k at e in
    rw add-one
    (enough_here A ok (get_or w p 0) (drop (suc p) w) r.0 r.1 (ap (verdict A ok r.0 r.1) (sym (drop-cons w p 0 h)) ∙ r.2))
