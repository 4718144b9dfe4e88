-- The walk over a part of a row is right: it comes through from the part's start exactly if the pattern matches the part's
-- first tree.
-- Assumes nothing.
use Prim.Native.Nat.{ℕ, suc, ◌+◌, ◌-◌, ◌≤◌, ◌<◌}
use mathlib.Core.Path.{◌≡◌, refl, sym, ap, ◌∙◌, subst}
use mathlib.Core.Logic.{◌⊎◌, inl, inr}
use mathlib.Core.List.{List, [], append-nil}
use mathlib.Core.Bool.{Bool, true, false}
use native.Mathlib.Omega.{arith}
use lib.ListN.{length, get_or, drop, drop_of_length-le}
use Rattle.rows.specs.Limits.{first_variable}
use Rattle.rows.specs.Programme.{Alphabet}
use Rattle.rows.specs.Tree.{Forest, Forest.none, Forest.grow, Tree, single, size, count, prefix, ends, Ranked, subtree_at}
use Rattle.rows.specs.Parse.{first, parse, tree_of, table, behind}
use Rattle.rows.specs.Row.{symbol, allowed}
use Rattle.rows.specs.declared.Leaves.TheVariants.{Blanks}
use Rattle.rows.proofs.Tree.{ranked_first, length-prefix}
use Rattle.rows.proofs.Parse.{prefix-parse, size-parse}
use Rattle.rows.proofs.Accept.{count-parse, ranked_parse}
use Rattle.rows.proofs.Entry.{behind_some, drop-table}
use Rattle.rows.proofs.Subtrees.{subtree_first}
use Rattle.patterns.specs.Pattern.{leaf, Match}
use Rattle.patterns.specs.Walk.{same_symbol, Outcome.misses, Outcome.reaches, steps, walk, unmarked, MarksIn}
use Rattle.patterns.specs.declared.Leaf.{Leaf}
use Rattle.patterns.specs.declared.Leaf.TheVariants.{Plain, Blank, Variable}
use Rattle.patterns.proofs.Leaves.{Kind, kind}
use Rattle.patterns.proofs.Steps.{steps_same, steps-blank, steps_variable}
use Rattle.patterns.proofs.Standing.{Stands, Planted, stands_first}
use Rattle.patterns.proofs.Fits.{fits_matches, matches_fits}
use Rattle.patterns.proofs.Marks.{unmarked_zero, marks_none}
use Rattle.patterns.proofs.Walks.{complete, sound}
use Rattle.patterns.proofs.Missing.{Lies, misses_where}
use Rattle.patterns.proofs.Matching.{PatternOf, pattern_of}
use Rattle.plain.specs.Plain.{BlankFrom, starts, marked_length, Lent, Passes, Comes, Tryable}
use Rattle.plain.proofs.Spelling.{spells_some, ranked_drop, first_within}
use Rattle.plain.proofs.Trying.{first_leaf, comes_last, meets_new}

-- the first tree of a forest that stands somewhere stands there
stands_one : (w e : List ℕ) (j : ℕ) (g : Forest) → 0 < count g → Stands w e j g → Stands w e j (first 1 g)
unfolding count first
stands_one w e j none h s = absurd (omega arith)
stands_one w e j (grow x cs f) h s = stands_first w e j x cs f s

-- each subtree of the part is planted at its place
planted_in : (A l : List ℕ) → Ranked A (symbol A) (parse A l) → (p : ℕ) → p < length l → Planted A l (table A l) p (subtree_at (parse A l) p)
unfolding behind
planted_in A l r p h =
    let g : Forest = parse A (drop p l) in
    let is : first 1 g ≡ single (subtree_at (parse A l) p) = subtree_first A l p h in
    record {
      stands =
          subst (λ (f : Forest). Stands l (table A l) p f) is
          (stands_one l (table A l) p g (behind_some A l p h)
          (record {
            more = [];
            later = [];
            row = sym (append-nil (prefix g) ∙ prefix-parse A (drop p l));
            table = drop-table A l p (omega arith) ∙ sym (append-nil (ends p g));
          }));
      ranked = subst (Ranked A (symbol A)) is (ranked_first A (symbol A) 1 g (ranked_drop A (symbol A) p l r));
    }

module _ (a : Alphabet) (l q : List ℕ) (c : Tryable a l q) where
  some : 0 < length l
  some = spells_some a.arities (symbol a.arities) 1 l (omega arith) c.row

  start : starts l l ≡ 0
  start = omega arith

  pattern : PatternOf a.arities q
  pattern = pattern_of a.arities q c.pattern

  plant : Planted a.arities l (table a.arities l) 0 (tree_of a.arities l)
  plant = planted_in a.arities l c.row.ranked 0 some

  spelt : prefix (single (tree_of a.arities q)) ≡ q
  spelt = pattern.reads

  -- the walk comes through
  came_matches : (j : ℕ) (ms : List ℕ) → walk l (table a.arities l) 0 q 0 unmarked ≡ reaches j ms → Match (tree_of a.arities q) (tree_of a.arities l)
  unfolding walk count behind
  came_matches j ms z =
      let r = sound a.arities l (table a.arities l) c.few (single (tree_of a.arities q)) (single (tree_of a.arities l)) 0 0 unmarked [] j ms pattern.ranked plant.ranked refl plant.stands (marks_none 0)
      (ap (λ (u : List ℕ). walk l (table a.arities l) 0 u 0 unmarked) (append-nil (prefix (single (tree_of a.arities q))) ∙ spelt) ∙ z) in
      let same : r.0 ≡ ms = cc r.2 in
      let marks : MarksIn (0 + size (single (tree_of a.arities l))) ms = subst (MarksIn (0 + size (single (tree_of a.arities l)))) same r.1 in
      fits_matches at_marks (tree_of a.arities q) (tree_of a.arities l) (r.3 at_marks (record { all = λ i n y. agrees marks i n y }))
    where
      -- the trees at the marks
      at_marks : ℕ → Tree
      at_marks i = subtree_at (parse a.arities l) (get_or ms i 0 - 1)

      agrees : MarksIn (0 + size (single (tree_of a.arities l))) ms → (i n : ℕ) → get_or ms i 0 ≡ suc n → Planted a.arities l (table a.arities l) n (at_marks i)
      agrees m i n y =
          let one : size (first 1 (parse a.arities l)) ≡ size (single (tree_of a.arities l)) = ap size (subtree_first a.arities l 0 some) in
          let at : n ≡ get_or ms i 0 - 1 = omega arith in
          subst (λ (k : ℕ). Planted a.arities l (table a.arities l) n (subtree_at (parse a.arities l) k)) at
          (planted_in a.arities l c.row.ranked n (omega (arith, m.all i, one, first_within a.arities 1 l)))

  -- it misses
  missed : (k x : ℕ) → walk l (table a.arities l) 0 q 0 unmarked ≡ misses k x → Match (tree_of a.arities q) (tree_of a.arities l) → ⊥
  unfolding walk
  missed k x z m =
      let r = complete a.arities l (table a.arities l) c.few (single (tree_of a.arities q)) m.choice.for_variable (single (tree_of a.arities l)) 0 0 unmarked [] pattern.ranked plant.ranked plant.stands
      (record { all = λ i n y. absurd (omega (arith, y, unmarked_zero i)) }) (matches_fits (tree_of a.arities q) (tree_of a.arities l) m) in
      let came : walk l (table a.arities l) 0 q 0 unmarked ≡ reaches (0 + size (single (tree_of a.arities l))) r.0 =
      ap (λ (u : List ℕ). walk l (table a.arities l) 0 u 0 unmarked) (sym (append-nil (prefix (single (tree_of a.arities q))) ∙ spelt)) ∙ r.1 in
      let no : ◌≡◌ {A = ℕ} 0 1 = cc in
      omega arith

  -- the first tree of the pattern, tried at the part's start
  pub lent_start : (told : ℕ) → BlankFrom q 0 told → Lent a.arities told 0 q l l unmarked unmarked 1
  lent_start told blanks =
      record {
        few = c.few;
        placed = omega (arith, pattern.most);
        blanks = blanks;
        pattern =
            record {
              ranked = ranked_parse a.arities (allowed Blanks a.arities) q 1 0 pattern.whole;
              many = omega (arith, count-parse a.arities (allowed Blanks a.arities) q 1 0 pattern.whole);
            };
        ahead =
            record {
              most = c.most;
              ranked = c.row.ranked;
              end = ap (λ (n : ℕ). drop n l) (sym start);
              row = c.row;
              marks = marks_none (starts l l);
              lengths = record { many = refl; all = λ i. unmarked_zero i ∙ ap (marked_length a.arities l) (sym (unmarked_zero i)) };
            };
      }

  pub pattern-starts : 0 < length q
  pattern-starts = pattern.some

  -- all that is left fits
  pub through_matches : Comes (walk l (table a.arities l) 0 q (starts l l) unmarked) → Match (tree_of a.arities q) (tree_of a.arities l)
  through_matches h =
      came_matches h.to h.marks (ap (λ (j : ℕ). walk l (table a.arities l) 0 q j unmarked) (sym start) ∙ h.reaches)

  -- the first tree is the whole pattern
  first_whole : size (first 1 (parse a.arities q)) ≡ length q
  unfolding first
  first_whole = omega (arith, ap (λ (f : Forest). size (first 1 f)) pattern.tree, ap size pattern.tree, size-parse a.arities q)

  -- S or a variable is all of the pattern: it takes the whole tree
  pub bare_matches : (leaf (get_or q 0 0) ≡ Plain → ⊥) → Match (tree_of a.arities q) (tree_of a.arities l)
  bare_matches bare = through_matches (go (leaf (get_or q 0 0)) refl (same_symbol (get_or l (starts l l) 0) (get_or q 0 0)) refl)
    where
      alone : first_variable ≤ get_or q 0 0 → BlankFrom q 0 1
      alone h i t w = absurd (omega (arith, first_leaf a.arities q c.few pattern.some h, first_whole))

      come : first_variable ≤ get_or q 0 0 → (n : ℕ) (ms : List ℕ) → steps l (table a.arities l) 0 (get_or q 0 0) (starts l l) unmarked ≡ reaches n ms
          → Comes (walk l (table a.arities l) 0 q (starts l l) unmarked)
      come h n ms z = comes_last a.arities 1 0 q l l unmarked unmarked (lent_start 1 (alone h)) n ms (omega arith) z

      go : (k : Leaf) → leaf (get_or q 0 0) ≡ k → (b : Bool) → same_symbol (get_or l (starts l l) 0) (get_or q 0 0) ≡ b
          → Comes (walk l (table a.arities l) 0 q (starts l l) unmarked)
      go Plain e b y = absurd (bare e)
      go Blank e true y = come (subst (Kind (get_or q 0 0)) e (kind (get_or q 0 0))) _ _ (steps_same l (table a.arities l) 0 (get_or q 0 0) (starts l l) unmarked y)
      go Blank e false y = come (subst (Kind (get_or q 0 0)) e (kind (get_or q 0 0))) _ _ (steps-blank l (table a.arities l) 0 (get_or q 0 0) (starts l l) unmarked y e)
      go (Variable i) e true y = come (subst (Kind (get_or q 0 0)) e (kind (get_or q 0 0))).0 _ _ (steps_same l (table a.arities l) 0 (get_or q 0 0) (starts l l) unmarked y)
      go (Variable i) e false y =
          come (subst (Kind (get_or q 0 0)) e (kind (get_or q 0 0))).0 _ _
          (steps_variable l (table a.arities l) 0 (get_or q 0 0) (starts l l) unmarked y i e
          ∙ meets_new l (get_or (table a.arities l) (starts l l) 0) 0 (starts l l) unmarked i (get_or unmarked i 0) (unmarked_zero i))

  -- it fits: it is the whole pattern, so the walk comes through
  pub past_matches : (p n : ℕ) (ms ns : List ℕ) → Passes a.arities 0 q l l unmarked 1 p n ms ns → Match (tree_of a.arities q) (tree_of a.arities l)
  unfolding walk first
  past_matches p n ms ns h =
      let whole : length q ≤ p = omega (arith, h.numbers, first_whole) in
      came_matches (starts l l + n) ms
      (ap (λ (j : ℕ). walk l (table a.arities l) 0 q j unmarked) (sym start)
      ∙ h.walks
      ∙ ap (λ (u : List ℕ). walk l (table a.arities l) (0 + p) u (starts l l + n) ms) (drop_of_length-le q whole))

  -- it fails: so does the walk, at the same places, and there is no match
  pub miss_differs : (k x : ℕ) → walk l (table a.arities l) 0 q (starts l l) unmarked ≡ misses k x → (Match (tree_of a.arities q) (tree_of a.arities l) → ⊥) × (walk l (table a.arities l) 0 q 0 unmarked ≡ misses k x)
  miss_differs k x z =
      let there : walk l (table a.arities l) 0 q 0 unmarked ≡ misses k x = ap (λ (j : ℕ). walk l (table a.arities l) 0 q j unmarked) (sym start) ∙ z in
      (missed k x there, there)

  -- these are a place of the pattern and one of the part
  pub miss_where : (k x : ℕ) → walk l (table a.arities l) 0 q 0 unmarked ≡ misses k x → (k < length q) × (x < length l)
  unfolding walk count behind
  miss_where k x z =
      go (misses_where a.arities l (table a.arities l) c.few (single (tree_of a.arities q)) (single (tree_of a.arities l)) 0 0 unmarked [] k x pattern.ranked plant.ranked refl plant.stands
      (ap (λ (u : List ℕ). walk l (table a.arities l) 0 u 0 unmarked) (append-nil (prefix (single (tree_of a.arities q))) ∙ spelt) ∙ z))
    where
      long : size (single (tree_of a.arities q)) ≡ length q
      long = sym (length-prefix (single (tree_of a.arities q))) ∙ ap length spelt

      one : size (first 1 (parse a.arities l)) ≡ size (single (tree_of a.arities l))
      one = ap size (subtree_first a.arities l 0 some)

      go : Lies 0 (size (single (tree_of a.arities q))) 0 (size (single (tree_of a.arities l))) k x
          ⊎ ((ms : List ℕ) × (walk l (table a.arities l) (0 + size (single (tree_of a.arities q))) [] (0 + size (single (tree_of a.arities l))) ms ≡ misses k x))
          → (k < length q) × (x < length l)
      go (inl h) = (omega (arith, h.to, long), omega (arith, h.last, one, first_within a.arities 1 l))
      go (inr r) = let n : ◌≡◌ {A = ℕ} 0 1 = cc r.1 in absurd (omega arith)
