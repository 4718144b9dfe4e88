-- The walk finds exactly the matches, and its marks are those of the only trees that the variables can stand for.
-- Assumes nothing.
use Rattle.std.specs.Prelude.{Ok}
use Prim.Native.Nat.{ℕ, suc, ◌+◌, ◌-◌, ◌≤◌, ◌<◌}
use mathlib.Core.Path.{◌≡◌, refl, sym, ap, ◌∙◌, subst}
use mathlib.Core.Logic.{◌↔◌, ◌⊎◌, inl, inr}
use mathlib.Core.List.{List, [], append-nil}
use mathlib.Core.Bool.{true}
use native.Mathlib.Omega.{arith}
use lib.ListN.{get_or, length}
use Rattle.rows.specs.Limits.{pattern_most}
use Rattle.rows.specs.Programme.{Alphabet, Programme}
use Rattle.rows.specs.Tree.{Forest.none, Tree, single, size, count, prefix, Ranked, subtrees, subtree_at}
use Rattle.rows.specs.Parse.{parse, tree_of}
use Rattle.rows.specs.Row.{verdict, allowed, sized, reading}
use Rattle.rows.specs.declared.Leaves.TheVariants.{Blanks}
use Rattle.rows.proofs.Tree.{length-prefix}
use Rattle.rows.proofs.Parse.{prefix-parse}
use Rattle.rows.proofs.Accept.{count-parse, ranked_parse, lone}
use Rattle.rows.proofs.Scan.{sized_fits}
use Rattle.tables.proofs.Given.{right_bounds}
use Rattle.rows.proofs.Passing.{both_whole}
use Rattle.patterns.specs.Answers.{MatchesAt}
use Rattle.patterns.specs.Searchable.{Checked}
use Rattle.patterns.specs.Walk.{Outcome, Outcome.misses, Outcome.reaches, walk, unmarked, through, comes_through, Ends, MarksIn, ByClass}
use Rattle.patterns.proofs.Standing.{Planted, planted_at, planted_once, stands_end}
use Rattle.patterns.proofs.Agreeing.{by_class}
use Rattle.patterns.proofs.Fits.{Fits, fits_matches, matches_fits}
use Rattle.patterns.proofs.Marks.{unmarked_zero, marks_none}
use Rattle.patterns.proofs.Walks.{Agrees, complete, sound}
use Rattle.patterns.proofs.Missing.{Lies, misses_where}

-- what an accepted pattern is
pub record PatternOf (A q : List ℕ) : Type 0 where
  pub some : 0 < length q
  pub most : length q ≤ pattern_most
  pub whole : verdict A (allowed Blanks A) 1 0 q ≡ Ok tt
  pub tree : parse A q ≡ single (tree_of A q)
  pub ranked : Ranked A (allowed Blanks A) (single (tree_of A q))
  pub reads : prefix (single (tree_of A q)) ≡ q

pub pattern_of : (A q : List ℕ) → reading A Blanks pattern_most q ≡ Ok tt → PatternOf A q
unfolding reading subtrees
pattern_of A q e =
    let both = both_whole (sized (length q) pattern_most) (verdict A (allowed Blanks A) 1 0 q) e in
    let fits = sized_fits (length q) pattern_most both.0 in
    let one = lone (parse A q) (count-parse A (allowed Blanks A) q 1 0 both.1) in
    let tree : parse A q ≡ single (tree_of A q) = one.1 ∙ ap (λ f. single (subtree_at f 0)) (sym one.1) in
    record {
      some = fits.0;
      most = fits.1;
      whole = both.1;
      tree = tree;
      ranked = subst (Ranked A (allowed Blanks A)) tree (ranked_parse A (allowed Blanks A) q 1 0 both.1);
      reads = ap prefix (sym tree) ∙ prefix-parse A q;
    }

came : (o : Outcome) → through o ≡ true → (j : ℕ) × (ms : List ℕ) × (o ≡ reaches j ms)
came (misses k j) q = let z : ◌≡◌ {A = ℕ} 0 1 = cc in absurd (omega arith)
came (reaches j ms) q = (j, ms, refl)

module _ (a : Alphabet) (P : Programme) (q : List ℕ) (c : Checked a P q) where
  -- a right table has what the code needs of it
  pub checked_ends : Ends P.row P.table
  checked_ends =
      record {
        most = c.row.sized.most;
        long = c.row.sized.fits;
        past = λ p h. (right_bounds a.arities P.row P.table c.row p h).0;
        within = λ p h. (right_bounds a.arities P.row P.table c.row p h).1;
      }

  -- and right classes too
  pub checked_classes : ByClass P.row P.table P.classes
  checked_classes = by_class a.arities P.row P.table P.classes c.row c.classed

  pub checked_pattern : PatternOf a.arities q
  checked_pattern = pattern_of a.arities q c.pattern

  module _ (p : ℕ) (inside : p < length P.row) where
    abbrev pub under : Tree
    under = subtree_at (parse a.arities P.row) p

    -- for some trees of the variables: the walk comes through, with the marks of these trees
    pub walk_comes : (v : ℕ → Tree) → Fits v (single (tree_of a.arities q)) (single under)
        → (j : ℕ) × (ms : List ℕ) × (walk P.row P.table 0 q p unmarked ≡ reaches j ms) × Agrees a.arities P.row P.table v ms
    unfolding walk
    walk_comes v x =
        let h = planted_at a.arities P.row P.table c.row p inside in
        let Q = checked_pattern in
        let r = complete a.arities P.row P.table c.few (single (tree_of a.arities q)) v (single under) 0 p unmarked [] Q.ranked h.ranked h.stands
        (record { all = λ i b z. absurd (omega (arith, z, unmarked_zero i)) }) x in
        (p + size (single under), r.0, ap (λ (u : List ℕ). walk P.row P.table 0 u p unmarked) (sym (append-nil (prefix (single (tree_of a.arities q))) ∙ Q.reads)) ∙ r.1, r.2)

    module _ (j : ℕ) (ms : List ℕ) (z : walk P.row P.table 0 q p unmarked ≡ reaches j ms) where
      shown : MarksIn (length P.row) ms × ((v : ℕ → Tree) → Agrees a.arities P.row P.table v ms → Fits v (single (tree_of a.arities q)) (single under))
      unfolding walk count size
      shown =
          let h = planted_at a.arities P.row P.table c.row p inside in
          let Q = checked_pattern in
          let r = sound a.arities P.row P.table c.few (single (tree_of a.arities q)) (single under) 0 p unmarked [] j ms Q.ranked h.ranked refl h.stands (marks_none p)
          (ap (λ (u : List ℕ). walk P.row P.table 0 u p unmarked) (append-nil (prefix (single (tree_of a.arities q))) ∙ Q.reads) ∙ z) in
          let same : r.0 ≡ ms = cc r.2 in
          let n : p + (size under.children + 0 + 1) ≤ length P.row = omega (arith, stands_end P.row P.table p _ _ none h.stands, checked_ends.within p inside) in
          (record { many = ap length (sym same) ∙ r.1.many; all = λ i. omega (arith, ap (λ (u : List ℕ). get_or u i 0) same, r.1.all i) }, r.3)

      -- the walk has marked subtrees of the row
      pub walk_marks : MarksIn (length P.row) ms
      walk_marks = shown.0

      -- the trees at the marks
      abbrev at_marks : ℕ → Tree
      at_marks i = subtree_at (parse a.arities P.row) (get_or ms i 0 - 1)

      -- and the pattern fits for them
      pub walk_fits : Fits at_marks (single (tree_of a.arities q)) (single under)
      walk_fits = shown.1 at_marks (record { all = agrees })
        where
          agrees : (i b : ℕ) → get_or ms i 0 ≡ suc b → Planted a.arities P.row P.table b (at_marks i)
          agrees i b y =
              let same : b ≡ get_or ms i 0 - 1 = omega arith in
              subst (λ (n : ℕ). Planted a.arities P.row P.table b (subtree_at (parse a.arities P.row) n)) same (planted_at a.arities P.row P.table c.row b (omega (arith, walk_marks.all i)))

      -- NO OTHER TREE WOULD DO: whatever choice turns the pattern into the subtree, a marked variable stands for the
      -- subtree at its mark
      pub only : (m : MatchesAt a P.row q p) (i b : ℕ) → get_or ms i 0 ≡ suc b → m.choice.for_variable i ≡ subtree_at (parse a.arities P.row) b
      only m i b y =
          let c' = walk_comes m.choice.for_variable (matches_fits (tree_of a.arities q) under m) in
          let same : ms ≡ c'.1 = cc (z, c'.2) in
          planted_once a.arities P.row P.table b _ _ (c'.3.all i b (ap (λ (u : List ℕ). get_or u i 0) (sym same) ∙ y))
          (planted_at a.arities P.row P.table c.row b (omega (arith, y, walk_marks.all i)))

      pub walk_matches : MatchesAt a P.row q p
      walk_matches = fits_matches at_marks (tree_of a.arities q) under walk_fits

    -- THE WALK IS RIGHT: it comes through exactly if some choice turns the pattern into the subtree
    pub right : (comes_through P.row P.table q p ≡ true) ↔ MatchesAt a P.row q p
    right = (
      λ y. (let r = came (walk P.row P.table 0 q p unmarked) y in walk_matches r.0 r.1 r.2),
      λ m. ap through (walk_comes m.choice.for_variable (matches_fits (tree_of a.arities q) under m)).2,
    )

    -- where it misses, there is no match
    pub missed : (k x : ℕ) → walk P.row P.table 0 q p unmarked ≡ misses k x → MatchesAt a P.row q p → ⊥
    missed k x z m = let y = right.1 m in let n : ◌≡◌ {A = ℕ} 0 1 = cc (ap through z) in omega arith

    -- and it misses at a number of the pattern, in the subtree at p
    pub missed_where : (k x : ℕ) → walk P.row P.table 0 q p unmarked ≡ misses k x → (k < length q) × (p ≤ x) × (x < get_or P.table p 0)
    unfolding walk count size
    missed_where k x z =
        let h = planted_at a.arities P.row P.table c.row p inside in
        let Q = checked_pattern in
        go (misses_where a.arities P.row P.table c.few (single (tree_of a.arities q)) (single under) 0 p unmarked [] k x Q.ranked h.ranked refl h.stands
        (ap (λ (u : List ℕ). walk P.row P.table 0 u p unmarked) (append-nil (prefix (single (tree_of a.arities q))) ∙ Q.reads) ∙ z))
      where
        long : size (single (tree_of a.arities q)) ≡ length q
        long = sym (length-prefix (single (tree_of a.arities q))) ∙ ap length checked_pattern.reads

        end : get_or P.table p 0 ≡ p + size (single under)
        end = stands_end P.row P.table p _ _ none (planted_at a.arities P.row P.table c.row p inside).stands ∙ omega arith

        go : Lies 0 (size (single (tree_of a.arities q))) p (size (single under)) k x
            ⊎ ((ms : List ℕ) × (walk P.row P.table (0 + size (single (tree_of a.arities q))) [] (p + size (single under)) ms ≡ misses k x))
            → (k < length q) × (p ≤ x) × (x < get_or P.table p 0)
        go (inl l) = (omega (arith, l.to, long), l.first, omega (arith, l.last, end))
        go (inr r) = let n : ◌≡◌ {A = ℕ} 0 1 = cc r.1 in absurd (omega arith)
