-- A walk under way: each step stays within the row, since as many trees stand ahead in the row as in the pattern.
-- Assumes nothing.
use Rattle.std.specs.Prelude.{Option, Some, None}
use Prim.Native.Nat.{ℕ, zero, suc, ◌+◌, ◌-◌, ◌≤◌, ◌<◌}
use mathlib.Core.Path.{◌≡◌, refl, sym, ap, ap₂, ◌∙◌, subst, subst₂}
use mathlib.Core.List.{List, ◌++◌}
use mathlib.Core.Bool.{Bool, true, false}
use native.Mathlib.Omega.{arith}
use native.Mathlib.Decide.{dec_lt}
use native.Mathlib.Nat.{zero-add}
use borrow.Author.Tests.{eqb-true, eq-eqb}
use lib.Dec.{eqb}
use lib.ListN.{get_or, length, take, drop, set, drop_of_length-le, get_or-eq_default}
use lib.Seq.{drop-drop, drop_at, get_or-take, get_or-drop}
use Rattle.rows.specs.Limits.{first_variable}
use Rattle.rows.specs.Programme.{Alphabet, Programme}
use Rattle.rows.specs.Tree.{Forest, size, count, prefix}
use Rattle.rows.specs.Parse.{first, rest, parse, behind, table}
use Rattle.rows.specs.Row.{pick, allowed}
use Rattle.rows.specs.declared.Leaves.TheVariants.{Blanks, Symbols}
use Rattle.rows.proofs.Tree.{split, prefix-beside, length-prefix, count-rest, ranked_rest}
use Rattle.rows.proofs.Parse.{prefix-parse, parse-prefix}
use Rattle.rows.proofs.Accept.{whole_drop, ranked_parse, count-parse}
use Rattle.rows.proofs.Scan.{drop_more}
use Rattle.rows.proofs.Behind.{count-behind, enough_behind}
use Rattle.rows.proofs.Entry.{entry_first, behind_some}
use Rattle.tables.specs.Given.{Right}
use Rattle.tables.proofs.Given.{right_entry}
use Rattle.patterns.specs.Pattern.{leaf}
use Rattle.patterns.specs.Searchable.{Checked, Searchable}
use Rattle.patterns.specs.Walk.{same_symbol, agreeing, Alike, Outcome, Outcome.misses, Outcome.reaches, meets, takes, steps, onward, walk, unmarked, through, MarksIn, stepped, marks_after, Stepping}
use Rattle.patterns.specs.declared.Leaf.{Leaf}
use Rattle.patterns.specs.declared.Leaf.TheVariants.{Plain, Blank, Variable}
use Rattle.patterns.proofs.Leaves.{Kind, kind}
use Rattle.patterns.proofs.Marks.{picks, marks_none, marks_wider, marks_set}
use Rattle.patterns.proofs.Matching.{checked_ends, checked_pattern}
use Rattle.patterns.proofs.Steps.{steps_same, steps-blank, steps_end}

-- behind the end of a subtree one tree fewer stands ahead
fewer : (A w e : List ℕ) → Right A w e → (j : ℕ) → j < length w → count (behind A w (get_or e j 0)) + 1 ≡ count (behind A w j)
unfolding behind
fewer A w e r j h =
    let g : Forest = parse A (drop j w) in
    let v = whole_drop A (allowed Symbols A) j w 1 0 r.accepted in
    let ranked = ranked_rest A (allowed Symbols A) 1 g (ranked_parse A (allowed Symbols A) (drop j w) v.0 v.1 v.2) in
    let end : get_or e j 0 ≡ j + size (first 1 g) = right_entry A w e r j h ∙ entry_first A w j h in
    let cut : drop j w ≡ prefix (first 1 g) ++ prefix (rest 1 g) =
    sym (prefix-parse A (drop j w)) ∙ ap prefix (sym (split 1 g)) ∙ prefix-beside (first 1 g) (rest 1 g) in
    let left : drop (get_or e j 0) w ≡ prefix (rest 1 g) =
    ap (λ (n : ℕ). drop n w) end
    ∙ sym (drop-drop (size (first 1 g)) j w)
    ∙ ap (drop (size (first 1 g))) cut
    ∙ drop_at (prefix (first 1 g)) (prefix (rest 1 g)) (size (first 1 g)) (length-prefix (first 1 g)) in
    omega (arith, ap (λ (l : List ℕ). count (parse A l)) left, ap count (parse-prefix A (allowed Symbols A) (rest 1 g) ranked), count-rest 1 g (behind_some A w j h))

-- where a step of the walk leads: not past the row, and again as many trees stand ahead
abbrev Goes : List ℕ → List ℕ → List ℕ → ℕ → Outcome → Type 0
Goes A w q k (misses x y) = Unit {0}
Goes A w q k (reaches n ms) = (n ≤ length w) × MarksIn n ms × (count (behind A q (k + 1)) ≤ count (behind A w n))

-- one step, from pattern place k and row position j
module _ (a : Alphabet) (P : Programme) (q : List ℕ) (c : Checked a P q) (k j : ℕ) (ms : List ℕ) (hk : k < length q) (hj : j < length P.row)
    (ahead : count (behind a.arities q k) ≤ count (behind a.arities P.row j)) (marks : MarksIn j ms) where
  -- the number, and where the subtree that it faces ends
  abbrev s : ℕ
  s = get_or q k 0

  abbrev end : ℕ
  end = get_or P.table j 0

  abbrev Leads : Outcome → Type 0
  Leads = Goes a.arities P.row q k

  -- the arity of the number, and the trees of the pattern behind it
  pattern-count : count (behind a.arities q k) + get_or a.arities s 0 ≡ count (behind a.arities q (k + 1)) + 1
  pattern-count = count-behind a.arities q k hk (enough_behind a.arities (allowed Blanks a.arities) q 1 0 (checked_pattern a P q c).whole k hk)

  goes_same : get_or P.row j 0 ≡ s → Leads (reaches (j + 1) ms)
  goes_same y =
      let r = count-behind a.arities P.row j hj (enough_behind a.arities (allowed Symbols a.arities) P.row 1 0 c.row.accepted j hj) in
      (omega arith, marks_wider j (j + 1) ms (omega arith) marks, omega (arith, pattern-count, r, ap (λ (s : ℕ). get_or a.arities s 0) y, ahead))

  goes_leaf : (ms' : List ℕ) → first_variable ≤ s → MarksIn end ms' → Leads (reaches end ms')
  goes_leaf ms' h m =
      let none : get_or a.arities s 0 ≡ 0 = get_or-eq_default a.arities 0 (omega (arith, c.few)) in
      ((checked_ends a P q c).within j hj, m, omega (arith, pattern-count, none, fewer a.arities P.row P.table c.row j hj, ahead))

  past : j < end
  past = (checked_ends a P q c).past j hj

  goes_meets : (i m : ℕ) → first_variable ≤ s → Leads (meets P.row end k j ms i m)
  unfolding meets
  goes_meets i zero h = goes_leaf (set ms i (j + 1)) h (marks_set end j ms i past marks)
  goes_meets i (suc b) h =
      picks Leads (eqb (agreeing P.row b j (end - j)) (end - j)) (reaches end ms) (misses k (j + agreeing P.row b j (end - j)))
      (goes_leaf ms h (marks_wider j end ms (omega (arith, past)) marks)) tt

  goes_takes : (l : Leaf) → Kind s l → Leads (takes P.row end k j ms l)
  unfolding takes
  goes_takes Plain h = tt
  goes_takes Blank h = goes_leaf ms h (marks_wider j end ms (omega (arith, past)) marks)
  goes_takes (Variable i) h = goes_meets i (get_or ms i 0) h.0

  goes_steps : Leads (steps P.row P.table k s j ms)
  unfolding steps
  goes_steps = go (same_symbol (get_or P.row j 0) s) refl
    where
      go : (b : Bool) → same_symbol (get_or P.row j 0) s ≡ b → Leads (pick b (reaches (j + 1) ms) (takes P.row end k j ms (leaf s)))
      go true y = goes_same (eqb-true (get_or P.row j 0) s y)
      go false y = goes_takes (leaf s) (kind s)

-- a table with the same ends: of each the walk looks only at the entries beside the row
abbrev pub SameEnds : Programme → List ℕ → Type 0
SameEnds P e = (i : ℕ) → i < length P.row → get_or P.table i 0 ≡ get_or e i 0

pub lent-ends : (P : Programme) → SameEnds P P.table
lent-ends P i h = refl

-- the row's own
pub own_ends : (a : Alphabet) (P : Programme) (q : List ℕ) → Checked a P q → SameEnds P (table a.arities P.row)
own_ends a P q c i h = right_entry a.arities P.row P.table c.row i h

-- from pattern place k and row position j the walk that is left decides the walk from p
pub record Walking (P : Programme) (q : List ℕ) (p : ℕ) (ms : List ℕ) (j k : ℕ) : Type 0 where
  pub on : k ≤ length q
  pub within : j ≤ length P.row
  pub marks : MarksIn j ms
  pub left : (e : List ℕ) → SameEnds P e → walk P.row e k (drop k q) j ms ≡ walk P.row e 0 q p unmarked
  pub ahead : (a : Alphabet) → Checked a P q → count (behind a.arities q k) ≤ count (behind a.arities P.row j)

module _ (P : Programme) (q : List ℕ) (p : ℕ) where
  pub walking_start : p < length P.row → Walking P q p unmarked p 0
  unfolding behind
  walking_start h =
      record {
        on = omega arith;
        within = omega arith;
        marks = marks_none p;
        left = λ e y. refl;
        ahead = λ a c.
            omega (arith, count-parse a.arities (allowed Blanks a.arities) q 1 0 (checked_pattern a P q c).whole, behind_some a.arities P.row p h);
      }

  module _ (s : Searchable P q) (ms : List ℕ) (j k : ℕ) (h : Walking P q p ms j k) where
    -- a position of the row faces each number of the pattern
    pub walking_inside : k < length q → j < length P.row
    unfolding behind parse count
    walking_inside l = go (dec_lt j (length P.row))
      where
        go : Dec (j < length P.row) → j < length P.row
        go (yes m) = m
        go (no m) =
            absurd (omega (arith, behind_some s.0.arities q k l, h.ahead s.0 s.1, ap (λ (l : List ℕ). count (parse s.0.arities l)) (drop_of_length-le P.row {i = j} (omega arith))))

    pub walking_end : length q ≤ k → walk P.row P.table 0 q p unmarked ≡ reaches j ms
    unfolding walk
    walking_end l = sym (h.left P.table (lent-ends P)) ∙ ap (λ (u : List ℕ). walk P.row P.table k u j ms) (drop_of_length-le q l)

    module _ (l : k < length q) where
      -- what the number at k does at j
      abbrev here : Outcome
      here = steps P.row P.table k (get_or q k 0) j ms

      walk_on : (o : Outcome) → here ≡ o → (e : List ℕ) → SameEnds P e → walk P.row e 0 q p unmarked ≡ onward o (λ j' ms'. walk P.row e (k + 1) (drop (k + 1) q) j' ms')
      unfolding walk
      walk_on o z e y =
          sym (h.left e y)
          ∙ ap (λ (u : List ℕ). walk P.row e k u j ms) (drop_more q k l)
          ∙ ap (λ (o : Outcome). onward o (λ j' ms'. walk P.row e (k + 1) (drop (k + 1) q) j' ms'))
          (sym (steps_end P.row P.table k (get_or q k 0) j ms e (y j (walking_inside l))) ∙ z)

      -- the step is known
      pub walking_to : (n : ℕ) (ms' : List ℕ) → here ≡ reaches n ms' → Walking P q p ms' n (k + 1)
      walking_to n ms' z =
          let g : (a : Alphabet) → Checked a P q → Goes a.arities P.row q k (reaches n ms') =
          λ a c. subst (Goes a.arities P.row q k) z (goes_steps a P q c k j ms l (walking_inside l) (h.ahead a c) h.marks) in
          record {
            on = omega arith;
            within = (g s.0 s.1).0;
            marks = (g s.0 s.1).1;
            left = λ e y. sym (walk_on (reaches n ms') z e y);
            ahead = λ a c. (g a c).2;
          }

      -- S always fits
      walking_fits : leaf (get_or q k 0) ≡ Blank → (n : ℕ) × Walking P q p ms n (k + 1)
      walking_fits z = go (same_symbol (get_or P.row j 0) (get_or q k 0)) refl
        where
          go : (b : Bool) → same_symbol (get_or P.row j 0) (get_or q k 0) ≡ b → (n : ℕ) × Walking P q p ms n (k + 1)
          go true y = (j + 1, walking_to (j + 1) ms (steps_same P.row P.table k (get_or q k 0) j ms y))
          go false y = (get_or P.table j 0, walking_to (get_or P.table j 0) ms (steps-blank P.row P.table k (get_or q k 0) j ms y z))

      pub walking_stops : (x y : ℕ) → here ≡ misses x y → (e : List ℕ) → SameEnds P e → walk P.row e 0 q p unmarked ≡ misses x y
      walking_stops x y z = walk_on (misses x y) z

      -- the symbol of the pattern stands in the row
      pub walking_same : same_symbol (get_or P.row j 0) (get_or q k 0) ≡ true → Walking P q p ms (j + 1) (k + 1)
      walking_same y = walking_to (j + 1) ms (steps_same P.row P.table k (get_or q k 0) j ms y)

      -- the step is the code's answer
      module _ (r : Option ℕ) (ms' : List ℕ) (b : Stepping here ms r ms') where
        pub walking_next : (n : ℕ) → r ≡ Some n → Walking P q p ms' n (k + 1)
        walking_next n z = go here refl (sym b.answer ∙ z) b.marks
          where
            go : (o : Outcome) → here ≡ o → stepped o ≡ Some n → ms' ≡ marks_after ms o → Walking P q p ms' n (k + 1)
            go (misses x y) t z m = let x : ◌≡◌ {A = ℕ} 0 1 = cc in absurd (omega arith)
            go (reaches n' ms'') t z m = let x : n' ≡ n = cc in walking_to n ms' (t ∙ ap₂ reaches x (sym m))

        -- a step that misses leaves the marks
        pub missed_marks : r ≡ None → ms' ≡ ms
        missed_marks z = go here (sym b.answer ∙ z) b.marks
          where
            go : (o : Outcome) → stepped o ≡ None → ms' ≡ marks_after ms o → ms' ≡ ms
            go (misses x y) t m = m
            go (reaches n ms'') t m = let x : ◌≡◌ {A = ℕ} 0 1 = cc in absurd (omega arith)

        pub walking_miss : r ≡ None → through (walk P.row P.table 0 q p unmarked) ≡ false
        walking_miss z = go here refl (sym b.answer ∙ z)
          where
            go : (o : Outcome) → here ≡ o → stepped o ≡ None → through (walk P.row P.table 0 q p unmarked) ≡ false
            go (misses x y) t z = ap through (walking_stops x y t P.table (lent-ends P))
            go (reaches n ms'') t z = let x : ◌≡◌ {A = ℕ} 0 1 = cc in absurd (omega arith)

-- where the front of the pattern stands in the row, its numbers are passed
pub walking_alike : (P : Programme) (q : List ℕ) (p : ℕ) → Searchable P q → p < length P.row → (n : ℕ) → n ≤ length q → Alike q 0 P.row p n → Walking P q p unmarked (p + n) n
walking_alike P q p s inside zero l h = let z : p + 0 ≡ p = omega arith in rw z (walking_start P q p inside)
walking_alike P q p s inside (suc n) l h =
    let same : get_or P.row (p + n) 0 ≡ get_or q n 0 = sym (h n (omega arith)) ∙ ap (λ (i : ℕ). get_or q i 0) (zero-add n) in
    let to_j : p + n + 1 ≡ p + suc n = omega arith in
    let to-k : n + 1 ≡ suc n = omega arith in
    subst₂ (Walking P q p unmarked) to_j to-k
    (walking_same P q p s unmarked (p + n) n (walking_alike P q p s inside n (omega arith) (λ k u. h k (omega arith))) (omega arith) (eq-eqb (get_or P.row (p + n) 0) (get_or q n 0) same))

-- the walk comes through where only S are left
pub walking_through : (P : Programme) (q : List ℕ) (p : ℕ) → Searchable P q → (n : ℕ) (ms : List ℕ) (j k : ℕ) → Walking P q p ms j k → length q ≤ k + n
    → ((i : ℕ) → k ≤ i → i < length q → leaf (get_or q i 0) ≡ Blank) → (j' : ℕ) × (walk P.row P.table 0 q p unmarked ≡ reaches j' ms)
walking_through P q p s zero ms j k h l b = (j, walking_end P q p s ms j k h (omega arith))
walking_through P q p s (suc n) ms j k h l b =
    go (dec_lt k (length q)) (λ x t. walking_through P q p s n ms x (k + 1) t (omega arith) (λ i y z. b i (omega arith) z))
  where
    EndsWell : Type 0
    EndsWell = (j' : ℕ) × (walk P.row P.table 0 q p unmarked ≡ reaches j' ms)

    go : Dec (k < length q) → ((x : ℕ) → Walking P q p ms x (k + 1) → EndsWell) → EndsWell
    go (no m) on = (j, walking_end P q p s ms j k h (omega arith))
    go (yes m) on = let t = walking_fits P q p s ms j k h m (b k (omega arith) m) in on t.0 t.1

-- the numbers of the pattern from place a on
pub part_at : (q : List ℕ) (a n i : ℕ) → i < n → get_or (take n (drop a q)) i 0 ≡ get_or q (a + i) 0
part_at q a n i h = get_or-take n (drop a q) i 0 h ∙ get_or-drop a q i 0
