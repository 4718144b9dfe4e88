-- The size of what a pattern matches: its own at least, and no other where it has no blanks.
-- Assumes nothing.
use Prim.Native.Nat.{ℕ, suc, ◌+◌, ◌<◌}
use mathlib.Core.Path.{◌≡◌, refl, sym, ap, ◌∙◌}
use mathlib.Core.List.{List, ◌++◌}
use native.Mathlib.Omega.{arith}
use lib.ListN.{get_or, length, get_or-append, length-append}
use lib.Seq.{get_or-append-add}
use Rattle.rows.specs.Programme.{Alphabet, Programme}
use Rattle.rows.specs.Tree.{Forest, Forest.none, Forest.grow, Tree, single, size, prefix, subtree_at}
use Rattle.rows.specs.Parse.{parse, tree_of}
use Rattle.rows.proofs.Tree.{length-prefix}
use Rattle.rows.proofs.Entry.{entry_first}
use Rattle.rows.proofs.Subtrees.{subtree_first}
use Rattle.tables.proofs.Given.{right_entry}
use Rattle.patterns.specs.Pattern.{leaf}
use Rattle.patterns.specs.Answers.{MatchesAt}
use Rattle.patterns.specs.Searchable.{Checked}
use Rattle.patterns.specs.declared.Leaf.{Leaf}
use Rattle.patterns.specs.declared.Leaf.TheVariants.{Plain, Blank, Variable}
use Rattle.patterns.proofs.Fits.{FitsLeaf, Fits, matches_fits}
use Rattle.patterns.proofs.Matching.{PatternOf, checked_pattern}

-- each number of the pattern stands for itself
abbrev pub NoBlanks : List ℕ → Type 0
NoBlanks q = (i : ℕ) → i < length q → leaf (get_or q i 0) ≡ Plain

module _ (v : ℕ → Tree) where
  plain_below : (s t : ℕ) (ds : Forest) (inside : Type 0) (l : Leaf) → FitsLeaf v s t ds inside l → l ≡ Plain → inside
  plain_below s t ds inside Plain h z = h.1
  plain_below s t ds inside Blank h z = let x : ◌≡◌ {A = ℕ} 0 1 = cc in absurd (omega arith)
  plain_below s t ds inside (Variable i) h z = let x : ◌≡◌ {A = ℕ} 0 1 = cc in absurd (omega arith)

  exactly : (P G : Forest) → NoBlanks (prefix P) → Fits v P G → size P ≡ size G
  unfolding Fits size prefix
  exactly none none n h = refl
  exactly none (grow t ds g) n h = absurd h
  exactly (grow s cs f) none n h = absurd h
  exactly (grow s cs f) (grow t ds g) n h =
      let long : length (prefix cs ++ prefix f) ≡ length (prefix cs) + length (prefix f) = length-append (prefix cs) (prefix f) in
      let under : NoBlanks (prefix cs) = λ i l. ap leaf (sym (get_or-append (prefix cs) (prefix f) 0 i l)) ∙ n (suc i) (omega arith) in
      let right : NoBlanks (prefix f) = λ i l. ap leaf (sym (get_or-append-add (prefix cs) (prefix f) i 0)) ∙ n (suc (length (prefix cs) + i)) (omega arith) in
      let inside : size cs ≡ size ds = exactly cs ds under (plain_below s t ds (Fits v cs ds) (leaf s) h.0 (n 0 (omega arith))) in
      omega (arith, exactly f g right h.1)

module _ (a : Alphabet) (P : Programme) (q : List ℕ) (c : Checked a P q) (p : ℕ) (inside : p < length P.row) (m : MatchesAt a P.row q p) where
  abbrev under : Tree
  under = subtree_at (parse a.arities P.row) p

  abbrev Q : PatternOf a.arities q
  Q = checked_pattern a P q c

  end : get_or P.table p 0 ≡ p + size (single under)
  end = right_entry a.arities P.row P.table c.row p inside ∙ entry_first a.arities P.row p inside ∙ ap (λ f. p + size f) (subtree_first a.arities P.row p inside)

  long : size (single (tree_of a.arities q)) ≡ length q
  long = sym (length-prefix (single (tree_of a.arities q))) ∙ ap length Q.reads

  -- the subtree has as many symbols as the pattern has numbers, if that has no blanks
  pub size_exactly : NoBlanks q → get_or P.table p 0 ≡ p + length q
  size_exactly n =
      let h = exactly m.choice.for_variable (single (tree_of a.arities q)) (single under) (rw Q.reads n) (matches_fits (tree_of a.arities q) under m) in
      omega (arith, end, long)
