-- After a walk that comes through, the spans of its marks are those of the variables: what the search for variables writes.
-- Assumes nothing.
use Rattle.std.specs.Prelude.{Ok, Err}
use Prim.Native.Nat.{ℕ, zero, suc, ◌≤◌, ◌<◌}
use mathlib.Core.Path.{◌≡◌, refl, sym, ap, ap₂, ◌∙◌}
use mathlib.Core.List.{List, [], ◌∷◌, ◌++◌}
use native.Mathlib.Omega.{arith}
use lib.ListN.{get_or, length}
use Rattle.rows.specs.Limits.{variables}
use Rattle.rows.specs.Programme.{Alphabet, Programme}
use Rattle.rows.specs.Parse.{table}
use Rattle.rows.specs.Buffers.{written}
use Rattle.patterns.specs.Answers.{facing, spansBelow}
use Rattle.patterns.specs.Searchable.{Checked}
use Rattle.patterns.specs.Walk.{Outcome.misses, Outcome.reaches, walk, unmarked, mark_begin, mark_end}
use Rattle.patterns.proofs.Facing.{span_seat, mark_is}
use Rattle.patterns.proofs.Matching.{walk_marks, walk_matches, missed}
use Rattle.searches.specs.Searches.{VariablesAt}
use Rattle.searches.specs.Spans.{mark_spans}
use Rattle.searches.proofs.Going.{SameEnds, lent-ends, own_ends}

module _ (a : Alphabet) (P : Programme) (q : List ℕ) (c : Checked a P q) (p : ℕ) (inside : p < length P.row) (j : ℕ) (ms : List ℕ)
    (z : walk P.row P.table 0 q p unmarked ≡ reaches j ms) where
  -- the row's own table
  abbrev own : List ℕ
  own = table a.arities P.row

  -- the table that is lent ends a mark where the row's own does
  mark_end_lem : (m : ℕ) → m ≤ length P.row → mark_end P.table m ≡ mark_end own m
  mark_end_lem zero h = refl
  mark_end_lem (suc b) h = own_ends a P q c b (omega arith)

  mark_spans_lem : (n : ℕ) → n ≤ variables → mark_spans P.table ms n ≡ spansBelow own n q (facing a.arities P.row q p)
  unfolding mark_spans spansBelow
  mark_spans_lem zero h = refl
  mark_spans_lem (suc n) h =
      ap₂ (λ (x y : List ℕ). x ++ y) (mark_spans_lem n (omega arith))
      (ap (λ (k : ℕ). mark_begin (get_or ms n 0) ∷ k ∷ []) (mark_end_lem (get_or ms n 0) ((walk_marks a P q c p inside j ms z).all n))
      ∙ ap (λ (m : ℕ). mark_begin m ∷ mark_end own m ∷ []) (mark_is a P q c p inside j ms z n (omega arith))
      ∙ sym (span_seat own n q (facing a.arities P.row q p)))

-- what the search for variables answers
pub variables_none : (P : Programme) (q : List ℕ) (p : ℕ) (y : List ℕ) (k x : ℕ) → p < length P.row
    → ((e : List ℕ) → SameEnds P e → walk P.row e 0 q p unmarked ≡ misses k x) → (a : Alphabet) → Checked a P q → VariablesAt a P.row q p y (Err (k, x)) y
variables_none P q p y k x inside z a c =
    record {
      answer = (missed a P q c p inside k x (z P.table (lent-ends P)), z (table a.arities P.row) (own_ends a P q c));
      buffer = refl;
    }

pub variables_some : (P : Programme) (q : List ℕ) (p : ℕ) (y y' : List ℕ) (j : ℕ) (ms : List ℕ) → p < length P.row
    → walk P.row P.table 0 q p unmarked ≡ reaches j ms → y' ≡ written y 0 (mark_spans P.table ms variables)
    → (a : Alphabet) → Checked a P q → VariablesAt a P.row q p y (Ok tt) y'
variables_some P q p y y' j ms inside z b a c =
    record {
      answer = walk_matches a P q c p inside j ms z;
      buffer = b ∙ ap (written y 0) (mark_spans_lem a P q c p inside j ms z variables (omega arith));
    }
