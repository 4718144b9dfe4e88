-- The search for the next match, position by position.
-- Assumes nothing.
use Prim.Native.Nat.{ℕ, ◌+◌, ◌-◌, ◌≤◌, ◌<◌}
use mathlib.Core.Path.{◌≡◌, refl, sym, ap, ◌∙◌}
use mathlib.Core.List.{List}
use mathlib.Core.Bool.{Bool, true, false}
use native.Mathlib.Omega.{arith}
use native.Mathlib.Decide.{ℕ_discrete, dec_lt}
use borrow.Author.Tests.{eq-eqb, ne_eqb}
use lib.Dec.{eqb}
use lib.ListN.{get_or, length, take, drop, length-take, length-drop}
use lib.Seq.{get_or-take, get_or-drop}
use Rattle.rows.specs.Programme.{Alphabet, Programme}
use Rattle.rows.specs.Tree.{Forest, Forest.none, Tree, single, prefix, subtree_at}
use Rattle.rows.specs.Parse.{parse, tree_of}
use Rattle.rows.specs.Row.{pick, allowed}
use Rattle.rows.specs.declared.Leaves.TheVariants.{Symbols}
use Rattle.rows.proofs.Tree.{count-size}
use Rattle.rows.proofs.Parse.{size-parse}
use Rattle.rows.proofs.Accept.{count-parse}
use Rattle.patterns.specs.Pattern.{leaf, plug, filled}
use Rattle.patterns.specs.Answers.{MatchesAt}
use Rattle.patterns.specs.Searchable.{Checked, Searchable, BlankFrom}
use Rattle.patterns.specs.Walk.{same_symbol, Outcome.misses, walk, unmarked, through, comes_through}
use Rattle.patterns.specs.declared.Leaf.{Leaf}
use Rattle.patterns.specs.declared.Leaf.TheVariants.{Plain, Blank, Variable}
use Rattle.patterns.proofs.Matching.{PatternOf, checked_pattern, right}
use Rattle.patterns.proofs.Sizes.{size_exactly}
use Rattle.patterns.proofs.Steps.{steps_same, steps_plain}
use Rattle.searches.specs.Searches.{AllSized, Without, sized, may_match, FirstFrom}
use Rattle.searches.proofs.Going.{lent-ends, Walking, walking_start, walking_to, walking_stops, walking_through}

-- an accepted row is not empty
pub row_some : (a : Alphabet) (P : Programme) (q : List ℕ) → Checked a P q → 0 < length P.row
row_some a P q c =
    let A : List ℕ = a.arities in
    omega (arith, count-parse A (allowed Symbols A) P.row 1 0 c.row.accepted, size-parse A P.row, count-size (parse A P.row))

-- S or a variable alone matches everywhere
plug_bare : (t : Tree) (s : ℕ) (cs : Forest) (l : Leaf) → (l ≡ Plain → ⊥)
    → plug (record { for_blank = λ b. t; for_variable = λ i. t }) 0 s l cs none ≡ single t
plug_bare t s cs Plain n = absurd (n refl)
plug_bare t s cs Blank n = refl
plug_bare t s cs (Variable i) n = refl

pub bare_matches : (a : Alphabet) (w q : List ℕ) → PatternOf a.arities q → (leaf (get_or q 0 0) ≡ Plain → ⊥) → (p : ℕ) → MatchesAt a w q p
unfolding filled prefix
bare_matches a w q Q n p =
    let t : Tree = subtree_at (parse a.arities w) p in
    let s : ℕ = (tree_of a.arities q).symbol in
    record {
      choice = record { for_blank = λ b. t; for_variable = λ i. t };
      turns = plug_bare t s _ (leaf s) (λ z. n (ap leaf (sym (ap (λ (l : List ℕ). get_or l 0 0) Q.reads)) ∙ z));
    }

-- a bare pattern matches at once
pub bare_here : (P : Programme) (q : List ℕ) → (leaf (get_or q 0 0) ≡ Plain → ⊥) → (a : Alphabet) → Checked a P q → FirstFrom a P.row q 0 (length P.row) 0
bare_here P q n a c =
    record {
      on = omega arith;
      within = row_some a P q c;
      here = bare_matches a P.row q (checked_pattern a P q c) n 0;
      none_between = λ x l u m. omega arith;
    }

-- no position before p passes the test
abbrev pub Clear : (ℕ → Bool) → ℕ → Type 0
Clear f p = (x : ℕ) → x < p → f x ≡ false

-- none up to `from`, and none of the stretch behind it
pub clear_on : (f : ℕ → Bool) (p from to : ℕ) → Clear f p → ((x : ℕ) → p ≤ x → x < from → f x ≡ false) → ((x : ℕ) → from ≤ x → x < to → f x ≡ false) → Clear f to
clear_on f p from to h g s x u = go (dec_lt x p) (dec_lt x from)
  where
    go : Dec (x < p) → Dec (x < from) → f x ≡ false
    go (yes d) e = h x d
    go (no d) (yes e) = g x (omega arith) e
    go (no d) (no e) = s x (omega arith) u

module _ (a : Alphabet) (P : Programme) (q : List ℕ) (c : Checked a P q) (p : ℕ) (inside : p < length P.row) where
  -- where the walk does not come through there is no match
  pub stopped : comes_through P.row P.table q p ≡ false → MatchesAt a P.row q p → ⊥
  stopped e m = let z = sym ((right a P q c p inside).1 m) ∙ e in let x : ◌≡◌ {A = ℕ} 0 1 = cc in omega arith

  -- it is the first match if it comes through here, and nowhere before
  pub first_here : comes_through P.row P.table q p ≡ true → Clear (comes_through P.row P.table q) p → FirstFrom a P.row q 0 (length P.row) p
  first_here e n =
      record {
        on = omega arith;
        within = inside;
        here = (right a P q c p inside).0 e;
        none_between = λ x l u m. absurd (none x u m);
      }
    where
      none : (x : ℕ) → x < p → MatchesAt a P.row q x → ⊥
      none x u m = let z = sym ((right a P q c x (omega arith)).1 m) ∙ n x u in let x : ◌≡◌ {A = ℕ} 0 1 = cc in omega arith

-- THE OUTLINE OF A PATTERN
-- the first k numbers of the pattern are no blanks
abbrev pub PlainTo : List ℕ → ℕ → Type 0
PlainTo q k = (i : ℕ) → i < k → leaf (get_or q i 0) ≡ Plain

pub plain_more : (q : List ℕ) (k : ℕ) → PlainTo q k → leaf (get_or q k 0) ≡ Plain → PlainTo q (k + 1)
plain_more q k h z i l = go (ℕ_discrete i k)
  where
    go : Dec (i ≡ k) → leaf (get_or q i 0) ≡ Plain
    go (yes d) = ap (λ (n : ℕ). leaf (get_or q n 0)) d ∙ z
    go (no d) = h i (omega arith)

-- of such a pattern each match has its size, of another any
pub any_sized : (P : Programme) (q : List ℕ) → AllSized P q 0
unfolding sized
any_sized P q a c p l m = refl

pub own_sized : (P : Programme) (q : List ℕ) → PlainTo q (length q) → AllSized P q (length q)
unfolding sized
own_sized P q n a c p l m = go (eqb (length q) 0)
  where
    go : (b : Bool) → pick b true (eqb (get_or P.table p 0 - p) (length q)) ≡ true
    go true = refl
    go false = eq-eqb (get_or P.table p 0 - p) (length q) (omega (arith, size_exactly a P q c p l m n))

-- the root is compared first
module _ (P : Programme) (q : List ℕ) (s : Searchable P q) (p : ℕ) (inside : p < length P.row) where
  start : Walking P q p unmarked p 0
  start = walking_start P q p inside

  some : 0 < length q
  some = (checked_pattern s.0 P q s.1).some

  pub root_same : same_symbol (get_or P.row p 0) (get_or q 0 0) ≡ true → Walking P q p unmarked (p + 1) 1
  root_same y = walking_to P q p s unmarked p 0 start some (p + 1) unmarked (steps_same P.row P.table 0 (get_or q 0 0) p unmarked y)

  pub root_other : same_symbol (get_or P.row p 0) (get_or q 0 0) ≡ false → leaf (get_or q 0 0) ≡ Plain → walk P.row P.table 0 q p unmarked ≡ misses 0 p
  root_other y k =
      walking_stops P q p s unmarked p 0 start some 0 p (steps_plain P.row P.table 0 (get_or q 0 0) p unmarked y k) P.table (lent-ends P)

  -- then the size
  module _ (size : ℕ) where
    abbrev may : Bool
    may = may_match P.row P.table (get_or q 0 0) size p

    pub may_same : may ≡ true → same_symbol (get_or P.row p 0) (get_or q 0 0) ≡ true
    unfolding may_match
    may_same y = go (same_symbol (get_or P.row p 0) (get_or q 0 0)) _ y
      where
        go : (b c : Bool) → pick b c false ≡ true → b ≡ true
        go true c y = refl
        go false c y = y

    pub may_not : AllSized P q size → leaf (get_or q 0 0) ≡ Plain → may ≡ false → comes_through P.row P.table q p ≡ false
    unfolding may_match
    may_not b k y = go (same_symbol (get_or P.row p 0) (get_or q 0 0)) (comes_through P.row P.table q p) refl refl y
      where
        go : (x t : Bool) → same_symbol (get_or P.row p 0) (get_or q 0 0) ≡ x → comes_through P.row P.table q p ≡ t
            → pick x (sized P.table size p) false ≡ false → t ≡ false
        go x false r e z = refl
        go false true r e z = sym e ∙ ap through (root_other r k)
        go true true r e z = sym (b s.0 s.1 p inside ((right s.0 P q s.1 p inside).0 e)) ∙ z

  -- where the root alone is compared, no more is asked
  pub root_through : same_symbol (get_or P.row p 0) (get_or q 0 0) ≡ true → BlankFrom q 1 → comes_through P.row P.table q p ≡ true
  root_through y b =
      ap through (walking_through P q p s (length q) unmarked (p + 1) 1 (root_same y) (omega arith) b.blank).1

-- THE ROOT, A STRETCH AT A TIME
-- a part of the row in which it does not stand
pub without_part : (w : List ℕ) (s from p n : ℕ) → p + n ≤ length w → Without w s from p → Without (take n (drop p w)) s 0 (length (take n (drop p w))) → Without w s from (p + n)
without_part w s from p n long h part x l u y = go (dec_lt x p)
  where
    go : Dec (x < p) → ⊥
    go (yes d) = h x l d y
    go (no d) =
        part (x - p) (omega arith) (omega (arith, length-take n (drop p w), length-drop p w))
        (get_or-take n (drop p w) (x - p) 0 (omega arith) ∙ get_or-drop p w (x - p) 0 ∙ ap (λ (i : ℕ). get_or w i 0) (omega arith) ∙ y)

-- where the root does not stand, there is no match
pub none_without : (P : Programme) (q : List ℕ) (s : Searchable P q) → leaf (get_or q 0 0) ≡ Plain → (b e : ℕ) → e ≤ length P.row → Without P.row (get_or q 0 0) b e
    → (x : ℕ) → b ≤ x → x < e → comes_through P.row P.table q x ≡ false
none_without P q s k b e u n x l h =
    ap through (root_other P q s x (omega arith) (ne_eqb (get_or P.row x 0) (get_or q 0 0) (n x l h)) k)

-- S is no symbol, and neither is a variable
pub blank_bare : (l : Leaf) → l ≡ Blank → l ≡ Plain → ⊥
blank_bare Plain e z = let x : ◌≡◌ {A = ℕ} 0 1 = cc in omega arith
blank_bare Blank e z = let x : ◌≡◌ {A = ℕ} 0 1 = cc in omega arith
blank_bare (Variable i) e z = let x : ◌≡◌ {A = ℕ} 0 1 = cc in omega arith

pub variable_bare : (l : Leaf) (i : ℕ) → l ≡ Variable i → l ≡ Plain → ⊥
variable_bare Plain i e z = let x : ◌≡◌ {A = ℕ} 0 1 = cc in omega arith
variable_bare Blank i e z = let x : ◌≡◌ {A = ℕ} 0 1 = cc in omega arith
variable_bare (Variable k) i e z = let x : ◌≡◌ {A = ℕ} 0 1 = cc in omega arith
