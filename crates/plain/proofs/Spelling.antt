-- What the rest of a row or of a pattern spells: its first symbol over the children, and the trees behind the first ones.
-- Assumes nothing.
use Prim.Native.Nat.{ℕ, zero, suc, ◌+◌, ◌-◌, ◌≤◌, ◌<◌}
use mathlib.Core.Path.{◌≡◌, refl, sym, ap, ◌∙◌, subst}
use mathlib.Core.List.{List, [], ◌∷◌, ◌++◌}
use mathlib.Core.Bool.{Bool}
use native.Mathlib.Nat.{zero-add, suc-add}
use native.Mathlib.Omega.{arith}
use lib.Dec.{T}
use lib.ListN.{length, get_or, take, drop, length-drop}
use lib.Seq.{take_all, drop_at}
use Rattle.rows.specs.Tree.{Forest, Forest.none, Forest.grow, count, size, prefix, Ranked}
use Rattle.rows.specs.Parse.{first, rest, over, parse}
use Rattle.rows.proofs.Tree.{split, count-beside, prefix-beside, length-prefix, count-rest, count-size, size-first_lt, size_split, ranked_beside, ranked_rest}
use Rattle.rows.proofs.Parse.{prefix-parse, size-parse, parse-prefix}
use Rattle.plain.specs.Plain.{Spells}

-- a part that goes to the end
abbrev pub tail : List ℕ → ℕ → List ℕ
tail l n = take (length l - n) (drop n l)

pub tail_is : (l : List ℕ) (n : ℕ) → tail l n ≡ drop n l
tail_is l n = take_all (length l - n) (drop n l) (omega (arith, length-drop n l))

-- a forest that has a first tree
first_one : (g : Forest) → 1 ≤ count g → 0 < size (first 1 g)
unfolding count size first
first_one none h = absurd (omega arith)
first_one (grow s cs f) h = omega arith

first_none : (k : ℕ) → first k none ≡ none
unfolding first
first_none zero = refl
first_none (suc k) = refl

-- some trees, then some more
pub size_add : (a k : ℕ) (g : Forest) → size (first (a + k) g) ≡ size (first a g) + size (first k (rest a g))
unfolding first rest size
size_add zero k g = ap (λ (n : ℕ). size (first n g)) (zero-add k) ∙ sym (zero-add (size (first k g)))
size_add (suc a) k none = ap size (first_none (suc a + k)) ∙ sym (zero-add (size (first k none)) ∙ ap size (first_none k))
size_add (suc a) k (grow s cs f) = ap (λ (n : ℕ). size (first n (grow s cs f))) (suc-add a k) ∙ omega (arith, size_add a k f)

module _ (A : List ℕ) (ok : ℕ → Bool) where
  -- a list that spells a tree is not empty
  pub spells_some : (k : ℕ) (l : List ℕ) → 0 < k → Spells A ok k l → 0 < length l
  spells_some k l h s = omega (arith, size-first_lt 0 (parse A l) (omega (arith, s.many)), size-parse A l)

  -- nor is it shorter than it has trees
  pub spells_fits : (k : ℕ) (l : List ℕ) → Spells A ok k l → k ≤ length l
  spells_fits k l s = omega (arith, s.many, count-size (parse A l), size-parse A l)

  -- what stands behind a ranked symbol: its children, and more
  ranked_inside : (s : ℕ) (g : Forest) → Ranked A ok (over s (get_or A s 0) g) → Ranked A ok g × (get_or A s 0 ≤ count g)
  unfolding over Ranked
  ranked_inside s g r =
      let a : ℕ = get_or A s 0 in (
        subst (Ranked A ok) (split a g) (ranked_beside A ok (first a g) (rest a g) r.2 r.3),
        omega (arith, r.1, count-beside (first a g) (rest a g), ap count (split a g)),
      )

  pub spells_inside : (k s : ℕ) (l : List ℕ) → Spells A ok k (s ∷ l) → Spells A ok (get_or A s 0) l
  unfolding parse
  spells_inside k s l h = let r = ranked_inside s (parse A l) h.ranked in record { ranked = r.0; many = r.1 }

  -- one symbol on: it may stand, and its children are to come in its place
  pub spells_next : (k s : ℕ) (l : List ℕ) → 0 < k → Spells A ok k (s ∷ l) → T (ok s) × Spells A ok (k - 1 + get_or A s 0) l
  unfolding parse over Ranked count
  spells_next k s l some h =
      let inside = spells_inside k s l h in
      let left = count-rest (get_or A s 0) (parse A l) inside.many in
      (h.ranked.0, record { ranked = inside.ranked; many = omega (arith, h.many, left) })

  pub ranked_drop : (n : ℕ) (l : List ℕ) → Ranked A ok (parse A l) → Ranked A ok (parse A (drop n l))
  unfolding parse
  ranked_drop zero l r = r
  ranked_drop (suc n) [] r = r
  ranked_drop (suc n) (s ∷ l) r = ranked_drop n l (ranked_inside s (parse A l) r).0

  -- behind the first k trees stand the others
  pub parse-behind : (k : ℕ) (l : List ℕ) → Ranked A ok (parse A l) → parse A (drop (size (first k (parse A l))) l) ≡ rest k (parse A l)
  parse-behind k l r =
      let g : Forest = parse A l in
      let cut : l ≡ prefix (first k g) ++ prefix (rest k g) =
      sym (prefix-parse A l) ∙ ap prefix (sym (split k g)) ∙ prefix-beside (first k g) (rest k g) in
      ap (parse A) (ap (drop (size (first k g))) cut ∙ drop_at (prefix (first k g)) (prefix (rest k g)) (size (first k g)) (length-prefix (first k g)))
      ∙ parse-prefix A ok (rest k g) (ranked_rest A ok k g r)

  module _ (k i p : ℕ) (l : List ℕ) (h : i ≤ k) (s : Spells A ok k l) (e : p ≡ size (first i (parse A l))) where
    others : parse A (drop p l) ≡ rest i (parse A l)
    others = ap (λ (n : ℕ). parse A (drop n l)) e ∙ parse-behind i l s.ranked

    pub spells_behind : Spells A ok (k - i) (drop p l)
    spells_behind =
        record {
          ranked = ranked_drop p l s.ranked;
          many = omega (arith, s.many, ap count others, count-rest i (parse A l) (omega (arith, s.many)));
        }

    -- and one more of them
    pub first_more : (j : ℕ) → j ≡ size (first 1 (parse A (drop p l))) → p + j ≡ size (first (i + 1) (parse A l))
    first_more j d = omega (arith, e, d, ap (λ (g : Forest). size (first 1 g)) others, size_add i 1 (parse A l))

  -- how many symbols the first tree takes: some
  pub first_some : (k : ℕ) (l : List ℕ) → 0 < k → Spells A ok k l → 0 < size (first 1 (parse A l))
  first_some k l h s = first_one (parse A l) (omega (arith, s.many))

-- and no more than there are
pub first_within : (A : List ℕ) (k : ℕ) (l : List ℕ) → size (first k (parse A l)) ≤ length l
first_within A k l = omega (arith, size_split k (parse A l), size-parse A l)

-- a symbol, and the trees of its children
pub first-over : (A : List ℕ) (s : ℕ) (l : List ℕ) → size (first 1 (parse A (s ∷ l))) ≡ size (first (get_or A s 0) (parse A l)) + 1
unfolding parse over first size
first-over A s l = omega arith
