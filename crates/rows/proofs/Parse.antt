-- Laws of `parse`: it spells the list again, it finds each ranked forest back, and so a row has one tree.
-- Assumes nothing.
use Prim.Native.Nat.{ℕ, ◌+◌}
use mathlib.Core.Path.{◌≡◌, refl, sym, ap, ap₂, ◌∙◌}
use mathlib.Core.List.{List, [], ◌∷◌, ◌++◌, append_assoc, append-nil}
use mathlib.Core.Bool.{Bool}
use native.Mathlib.Omega.{arith}
use lib.ListN.{length, get_or}
use Rattle.rows.specs.Tree.{Forest, Forest.none, Forest.grow, Tree, single, IsRow, count, size, prefix, Ranked}
use Rattle.rows.specs.Parse.{first, rest, over, parse}
use Rattle.rows.proofs.Tree.{beside, beside_none, count-beside, prefix-beside, split, first-beside, rest-beside, length-prefix}

pub prefix-over : (s a : ℕ) (g : Forest) → prefix (over s a g) ≡ s ∷ prefix g
unfolding over prefix
prefix-over s a g = ap (λ (l : List ℕ). s ∷ l) (sym (prefix-beside (first a g) (rest a g)) ∙ ap prefix (split a g))

-- what `parse` finds spells the list, whatever the list
pub prefix-parse : (A w : List ℕ) → prefix (parse A w) ≡ w
unfolding parse prefix
prefix-parse A [] = refl
prefix-parse A (s ∷ w) = prefix-over s (get_or A s 0) (parse A w) ∙ ap (λ (l : List ℕ). s ∷ l) (prefix-parse A w)

pub size-parse : (A w : List ℕ) → size (parse A w) ≡ length w
size-parse A w = sym (length-prefix (parse A w)) ∙ ap length (prefix-parse A w)

pub parse-beside : (A : List ℕ) (ok : ℕ → Bool) (f : Forest) (w : List ℕ) → Ranked A ok f → parse A (prefix f ++ w) ≡ beside f (parse A w)
unfolding parse prefix beside Ranked over
parse-beside A ok none w r = refl
parse-beside A ok (grow s cs f) w r =
    let e : parse A ((prefix cs ++ prefix f) ++ w) ≡ beside cs (beside f (parse A w)) =
    ap (parse A) (append_assoc (prefix cs) (prefix f) w) ∙ parse-beside A ok cs (prefix f ++ w) r.2 ∙ ap (beside cs) (parse-beside A ok f w r.3) in
    ap (over s (get_or A s 0)) e
    ∙ ap₂ (grow s) (first-beside (get_or A s 0) cs (beside f (parse A w)) r.1) (rest-beside (get_or A s 0) cs (beside f (parse A w)) r.1)

-- the ranked forest that a list spells is the one that `parse` finds
pub parse-prefix : (A : List ℕ) (ok : ℕ → Bool) (f : Forest) → Ranked A ok f → parse A (prefix f) ≡ f
unfolding parse
parse-prefix A ok f r =
    ap (parse A) (sym (append-nil (prefix f))) ∙ parse-beside A ok f [] r ∙ beside_none f

-- unique readability
pub one_forest : (A : List ℕ) (ok ok' : ℕ → Bool) (f g : Forest) → Ranked A ok f → Ranked A ok' g → prefix f ≡ prefix g → f ≡ g
one_forest A ok ok' f g r q e = sym (parse-prefix A ok f r) ∙ ap (parse A) e ∙ parse-prefix A ok' g q

pub same_tree : (A : List ℕ) (ok ok' : ℕ → Bool) (t u : Tree) → Ranked A ok (single t) → Ranked A ok' (single u) → prefix (single t) ≡ prefix (single u) → t ≡ u
same_tree A ok ok' t u r q e =
    let p : grow t.symbol t.children none ≡ grow u.symbol u.children none = one_forest A ok ok' (single t) (single u) r q e in
    let a : t.symbol ≡ u.symbol = cc in
    let b : t.children ≡ u.children = cc in
    λ i. record { symbol = a i; children = b i }

pub none_left : (A w : List ℕ) → count (parse A w) ≡ 0 → w ≡ []
unfolding parse over count
none_left A [] e = refl
none_left A (s ∷ w) e = absurd (omega arith)

-- no row is a proper beginning of another
pub no_longer : (A : List ℕ) (ok ok' : ℕ → Bool) (w v : List ℕ) → IsRow A ok w → IsRow A ok' (w ++ v) → v ≡ []
unfolding count
no_longer A ok ok' w v r q =
    let t = single r.tree in
    let u = single q.tree in
    let e : u ≡ beside t (parse A v) =
    sym (parse-prefix A ok' u q.ranked) ∙ ap (parse A) (q.reads ∙ ap (λ (l : List ℕ). l ++ v) (sym r.reads)) ∙ parse-beside A ok t v r.ranked in
    let c : count u ≡ count t + count (parse A v) = ap count e ∙ count-beside t (parse A v) in
    none_left A v (omega arith)
