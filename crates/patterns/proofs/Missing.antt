-- Where a walk misses: at a place of the pattern, and in the subtree that the pattern is laid over. By induction on the
-- pattern's forest.
-- Assumes nothing.
use Prim.Native.Nat.{ℕ, zero, suc, ◌+◌, ◌-◌, ◌≤◌, ◌<◌}
use mathlib.Core.Path.{◌≡◌, refl, sym, ap, ap₂, ◌∙◌}
use mathlib.Core.Logic.{◌⊎◌, inl, inr}
use mathlib.Core.List.{List, ◌++◌, append_assoc}
use mathlib.Core.Bool.{Bool, true, false}
use native.Mathlib.Omega.{arith}
use borrow.Author.Tests.{eqb-true, eqb-false}
use lib.Dec.{eqb}
use lib.ListN.{get_or, length, take, drop, set}
use Rattle.rows.specs.Limits.{alphabet_most, first_variable}
use Rattle.rows.specs.Tree.{Forest, Forest.none, Forest.grow, size, count, prefix, Ranked}
use Rattle.rows.specs.Row.{pick, symbol, allowed}
use Rattle.rows.specs.declared.Leaves.TheVariants.{Blanks}
use Rattle.patterns.specs.Pattern.{leaf}
use Rattle.patterns.specs.Walk.{agreeing, Outcome, Outcome.misses, Outcome.reaches, meets, takes, steps, onward, walk}
use Rattle.patterns.specs.declared.Leaf.{Leaf}
use Rattle.patterns.specs.declared.Leaf.TheVariants.{Plain, Blank, Variable}
use Rattle.patterns.proofs.Leaves.{Kind, kind}
use Rattle.patterns.proofs.Standing.{Stands, stands_symbol, stands_end, stands_children, stands_siblings}
use Rattle.patterns.proofs.Fronts.{front_most}
use Rattle.patterns.proofs.Walks.{Over, past_leaf}

-- place x of the pattern is one of the m from `place` on, and row position y one of the n from j on
pub record Lies (place m j n x y : ℕ) : Type 0 where
  pub from : place ≤ x
  pub to : x < place + m
  pub first : j ≤ y
  pub last : y < j + n

module _ (A w e : List ℕ) (few : length A ≤ alphabet_most) where
  -- a walk that misses does so in the forest, or in what comes behind it
  abbrev Misses : Forest → Type 0
  Misses P =
      (G : Forest) (place j : ℕ) (ms q : List ℕ) (x y : ℕ) → Ranked A (allowed Blanks A) P → Ranked A (symbol A) G → count P ≡ count G → Stands w e j G
      → walk w e place (prefix P ++ q) j ms ≡ misses x y
      → Lies place (size P) j (size G) x y ⊎ ((ms' : List ℕ) × (walk w e (place + size P) q (j + size G) ms' ≡ misses x y))

  module _ {s : ℕ} {cs f : Forest} {t : ℕ} {ds g : Forest} {j : ℕ} (c : Over A w e s cs f t ds g j) (n : count f ≡ count g) (place : ℕ) (ms q : List ℕ) (x y : ℕ) where
    abbrev end : ℕ
    end = get_or e j 0

    abbrev Found : Type 0
    Found =
        Lies place (size (grow s cs f)) j (size (grow t ds g)) x y
        ⊎ ((ms' : List ℕ) × (walk w e (place + size (grow s cs f)) q (j + size (grow t ds g)) ms' ≡ misses x y))

    abbrev onto : ℕ → List ℕ → Outcome
    onto j' ms' = walk w e (place + 1) ((prefix cs ++ prefix f) ++ q) j' ms'

    ends : end ≡ j + size ds + 1
    ends = stands_end w e j t ds g c.stands

    -- in the next trees, or behind them
    next : (ms' : List ℕ) → Misses f → walk w e (place + size cs + 1) (prefix f ++ q) (j + size ds + 1) ms' ≡ misses x y → Found
    unfolding Ranked size
    next ms' ih z = go (ih g (place + size cs + 1) (j + size ds + 1) ms' q x y c.pattern.3 c.row.3 n (stands_siblings w e j t ds g c.stands) z)
      where
        go : Lies (place + size cs + 1) (size f) (j + size ds + 1) (size g) x y
            ⊎ ((ms'' : List ℕ) × (walk w e (place + size cs + 1 + size f) q (j + size ds + 1 + size g) ms'' ≡ misses x y)) → Found
        go (inl h) = inl (record { from = omega (arith, h.from); to = omega (arith, h.to); first = omega (arith, h.first); last = omega (arith, h.last) })
        go (inr h) =
            let there : place + (size cs + size f + 1) ≡ place + size cs + 1 + size f = omega arith in
            let far : j + (size ds + size g + 1) ≡ j + size ds + 1 + size g = omega arith in
            inr (h.0, ap₂ (λ (m k : ℕ). walk w e m q k h.0) there far ∙ h.1)

    -- at the number itself
    here : (i : ℕ) → i < size ds + 1 → misses place (j + i) ≡ misses x y → Found
    unfolding size
    here i h z =
        let a : place ≡ x = cc in let b : j + i ≡ y = cc in
        inl (record { from = omega arith; to = omega arith; first = omega arith; last = omega arith })

    at_variable : (i m : ℕ) → first_variable ≤ s → Misses f → onward (meets w end place j ms i m) onto ≡ misses x y → Found
    unfolding meets
    at_variable i zero h ih z = next (set ms i (j + 1)) ih (sym (past_leaf c place q (set ms i (j + 1)) h) ∙ z)
    at_variable i (suc b) h ih z = go (eqb (agreeing w b j (end - j)) (end - j)) refl z
      where
        go : (d : Bool) → eqb (agreeing w b j (end - j)) (end - j) ≡ d
            → onward (pick d (reaches end ms) (misses place (j + agreeing w b j (end - j)))) onto ≡ misses x y → Found
        go true d z = next ms ih (sym (past_leaf c place q ms h) ∙ z)
        go false d z =
            let most : agreeing w b j (end - j) ≤ end - j = front_most (end - j) (drop b w) (take (end - j) (drop j w)) in
            let less = eqb-false (agreeing w b j (end - j)) (end - j) d in
            here (agreeing w b j (end - j)) (omega (arith, ends)) z

    at_leaf : (l : Leaf) → Kind s l → Misses f → onward (takes w end place j ms l) onto ≡ misses x y → Found
    unfolding takes
    at_leaf Plain k ih z = here 0 (omega arith) (ap (misses place) (omega arith) ∙ z)
    at_leaf Blank k ih z = next ms ih (sym (past_leaf c place q ms k) ∙ z)
    at_leaf (Variable i) k ih z = at_variable i (get_or ms i 0) k.0 ih z

    at_step : (b : Bool) → eqb (get_or w j 0) s ≡ b → Misses cs → Misses f
        → onward (pick b (reaches (j + 1) ms) (takes w end place j ms (leaf s))) onto ≡ misses x y → Found
    unfolding Ranked size
    at_step false d ic ih z = at_leaf (leaf s) (kind s) ih z
    at_step true d ic ih z =
        let same : s ≡ t = sym (eqb-true (get_or w j 0) s d) ∙ stands_symbol w e j t ds g c.stands in
        go (ic ds (place + 1) (j + 1) ms (prefix f ++ q) x y c.pattern.2 c.row.2 (c.pattern.1 ∙ ap (λ (k : ℕ). get_or A k 0) same ∙ sym c.row.1)
        (stands_children w e j t ds g c.stands) (ap (λ (u : List ℕ). walk w e (place + 1) u (j + 1) ms) (sym (append_assoc (prefix cs) (prefix f) q)) ∙ z))
      where
        go : Lies (place + 1) (size cs) (j + 1) (size ds) x y
            ⊎ ((ms' : List ℕ) × (walk w e (place + 1 + size cs) (prefix f ++ q) (j + 1 + size ds) ms' ≡ misses x y)) → Found
        go (inl h) = inl (record { from = omega (arith, h.from); to = omega (arith, h.to); first = omega (arith, h.first); last = omega (arith, h.last) })
        go (inr h) =
            let there : place + size cs + 1 ≡ place + 1 + size cs = omega arith in
            let far : j + size ds + 1 ≡ j + 1 + size ds = omega arith in
            next h.0 ih (ap₂ (λ (m k : ℕ). walk w e m (prefix f ++ q) k h.0) there far ∙ h.1)

  pub misses_where : (P : Forest) → Misses P
  unfolding prefix count size walk steps
  misses_where none none place j ms q x y rP rG n h z = inr (ms, ap₂ (λ (m k : ℕ). walk w e m q k ms) (omega arith) (omega arith) ∙ z)
  misses_where none (grow t ds g) place j ms q x y rP rG n h z = absurd (omega arith)
  misses_where (grow s cs f) none place j ms q x y rP rG n h z = absurd (omega arith)
  misses_where (grow s cs f) (grow t ds g) place j ms q x y rP rG n h z =
      at_step (record { few = few; pattern = rP; row = rG; stands = h }) (omega arith) place ms q x y (eqb (get_or w j 0) s) refl (misses_where cs) (misses_where f) z
