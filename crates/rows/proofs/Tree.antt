-- Laws of forests: side by side, split after k trees, and read from a list.
-- Assumes nothing.
use Prim.Native.Nat.{ℕ, zero, suc, ◌+◌, ◌≤◌, ◌<◌}
use mathlib.Core.Path.{◌≡◌, refl, sym, ap, ◌∙◌}
use mathlib.Core.List.{List, ◌∷◌, ◌++◌, append_assoc}
use mathlib.Core.Bool.{Bool}
use native.Mathlib.Nat.{add-zero, zero-add}
use native.Mathlib.Omega.{arith}
use lib.ListN.{length, length-append}
use Rattle.rows.specs.Tree.{Forest, Forest.none, Forest.grow, count, size, prefix, Ranked, ends}
use Rattle.rows.specs.Parse.{first, rest}

-- two forests side by side
unfoldable pub beside : Forest → Forest → Forest
beside none g = g
beside (grow s cs f) g = grow s cs (beside f g)

pub beside_none : (f : Forest) → beside f none ≡ f
unfolding beside
beside_none none = refl
beside_none (grow s cs f) = ap (grow s cs) (beside_none f)

pub count-beside : (f g : Forest) → count (beside f g) ≡ count f + count g
unfolding beside count
count-beside none g = sym (zero-add (count g))
count-beside (grow s cs f) g = let h = count-beside f g in omega arith

pub size-beside : (f g : Forest) → size (beside f g) ≡ size f + size g
unfolding beside size
size-beside none g = sym (zero-add (size g))
size-beside (grow s cs f) g = let h = size-beside f g in omega arith

pub prefix-beside : (f g : Forest) → prefix (beside f g) ≡ prefix f ++ prefix g
unfolding beside prefix
prefix-beside none g = refl
prefix-beside (grow s cs f) g = ap (λ (l : List ℕ). s ∷ l) (ap (λ (l : List ℕ). prefix cs ++ l) (prefix-beside f g) ∙ sym (append_assoc (prefix cs) (prefix f) (prefix g)))

pub ends-beside : (b : ℕ) (f g : Forest) → ends b (beside f g) ≡ ends b f ++ ends (b + size f) g
unfolding beside ends size
ends-beside b none g = ap (λ (n : ℕ). ends n g) (sym (add-zero b))
ends-beside b (grow s cs f) g =
    ap (λ (l : List ℕ). (b + size cs + 1) ∷ l)
    (ap (λ (l : List ℕ). ends (b + 1) cs ++ l)
    (ends-beside (b + size cs + 1) f g
    ∙ ap (λ (n : ℕ). ends (b + size cs + 1) f ++ ends n g) (shift b (size cs) (size f)))
    ∙ sym (append_assoc (ends (b + 1) cs) (ends (b + size cs + 1) f) (ends (b + (size cs + size f + 1)) g)))
  where
    shift : (b c f : ℕ) → b + c + 1 + f ≡ b + (c + f + 1)
    shift b c f = omega arith

pub split : (k : ℕ) (g : Forest) → beside (first k g) (rest k g) ≡ g
unfolding beside first rest
split zero g = refl
split (suc k) none = refl
split (suc k) (grow s cs f) = ap (grow s cs) (split k f)

pub first-beside : (k : ℕ) (f g : Forest) → count f ≡ k → first k (beside f g) ≡ f
unfolding beside first count
first-beside zero none g e = refl
first-beside zero (grow s cs f) g e = absurd (omega arith)
first-beside (suc k) none g e = absurd (omega arith)
first-beside (suc k) (grow s cs f) g e = ap (grow s cs) (first-beside k f g (omega arith))

pub rest-beside : (k : ℕ) (f g : Forest) → count f ≡ k → rest k (beside f g) ≡ g
unfolding beside rest count
rest-beside zero none g e = refl
rest-beside zero (grow s cs f) g e = absurd (omega arith)
rest-beside (suc k) none g e = absurd (omega arith)
rest-beside (suc k) (grow s cs f) g e = rest-beside k f g (omega arith)

pub count-first : (k : ℕ) (g : Forest) → k ≤ count g → count (first k g) ≡ k
unfolding first count
count-first zero g h = refl
count-first (suc k) none h = absurd (omega arith)
count-first (suc k) (grow s cs f) h = let e = count-first k f (omega arith) in omega arith

pub count-rest : (k : ℕ) (g : Forest) → k ≤ count g → k + count (rest k g) ≡ count g
count-rest k g h = let e = count-beside (first k g) (rest k g) in let d = ap count (split k g) in let c = count-first k g h in omega arith

pub size_split : (k : ℕ) (g : Forest) → size (first k g) + size (rest k g) ≡ size g
size_split k g = sym (size-beside (first k g) (rest k g)) ∙ ap size (split k g)

-- no more trees than nodes
pub count-size : (g : Forest) → count g ≤ size g
unfolding count size
count-size none = omega arith
count-size (grow s cs f) = let e = count-size f in omega arith

-- fewer than all trees are fewer than all nodes
pub size-first_lt : (k : ℕ) (g : Forest) → k < count g → size (first k g) < size g
unfolding first count size
size-first_lt k none h = absurd (omega arith)
size-first_lt zero (grow s cs f) h = omega arith
size-first_lt (suc k) (grow s cs f) h = let e = size-first_lt k f (omega arith) in omega arith

pub length-ends : (b : ℕ) (g : Forest) → length (ends b g) ≡ size g
unfolding ends size
length-ends b none = refl
length-ends b (grow s cs f) =
    let c = length-ends (b + 1) cs in
    let d = length-ends (b + size cs + 1) f in
    let e = length-append (ends (b + 1) cs) (ends (b + size cs + 1) f) in
    omega arith

pub length-prefix : (g : Forest) → length (prefix g) ≡ size g
unfolding prefix size
length-prefix none = refl
length-prefix (grow s cs f) =
    let c = length-prefix cs in
    let d = length-prefix f in
    let e = length-append (prefix cs) (prefix f) in
    omega arith

-- a forest of no trees is empty
pub no_trees : (g : Forest) → count g ≡ 0 → g ≡ none
unfolding count
no_trees none e = refl
no_trees (grow s cs f) e = absurd (omega arith)

pub ranked_beside : (A : List ℕ) (ok : ℕ → Bool) (f g : Forest) → Ranked A ok f → Ranked A ok g → Ranked A ok (beside f g)
unfolding beside Ranked
ranked_beside A ok none g r q = q
ranked_beside A ok (grow s cs f) g r q = (r.0, r.1, r.2, ranked_beside A ok f g r.3 q)

pub ranked_first : (A : List ℕ) (ok : ℕ → Bool) (k : ℕ) (g : Forest) → Ranked A ok g → Ranked A ok (first k g)
unfolding first Ranked
ranked_first A ok zero g r = tt
ranked_first A ok (suc k) none r = tt
ranked_first A ok (suc k) (grow s cs f) r = (r.0, r.1, r.2, ranked_first A ok k f r.3)

pub ranked_rest : (A : List ℕ) (ok : ℕ → Bool) (k : ℕ) (g : Forest) → Ranked A ok g → Ranked A ok (rest k g)
unfolding rest Ranked
ranked_rest A ok zero g r = r
ranked_rest A ok (suc k) none r = tt
ranked_rest A ok (suc k) (grow s cs f) r = ranked_rest A ok k f r.3
