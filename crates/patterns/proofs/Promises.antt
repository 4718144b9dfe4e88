-- What the definitions of specs/Pattern and specs/Answers mean, and that the walk is right.
-- Assumes nothing.
use Prim.Native.Nat.{ℕ, suc, ◌+◌, ◌≤◌, ◌<◌}
use mathlib.Core.Path.{◌≡◌, sym, ap, ◌∙◌, subst₂}
use mathlib.Core.List.{List}
use mathlib.Core.Bool.{true}
use mathlib.Core.Logic.{◌↔◌}
use native.Mathlib.Omega.{arith}
use native.Mathlib.Nat.{add-zero}
use lib.ListN.{length, get_or}
use lib.Seq.{take_all}
use Rattle.rows.specs.Limits.{variables}
use Rattle.rows.specs.Programme.{Alphabet, Programme, programme}
use Rattle.rows.specs.Parse.{table}
use Rattle.rows.specs.Classes.{classes}
use Rattle.rows.proofs.Entry.{length-table, entry_bounds}
use Rattle.rows.proofs.Classes.{class_of_row}
use Rattle.rows.proofs.Subtrees.{subtree_row}
use Rattle.patterns.specs.Answers.{MatchesAt, Listed, facing, spans, Has, Spanned}
use Rattle.patterns.specs.Searchable.{Checked}
use Rattle.patterns.specs.Walk.{Outcome.reaches, walk, unmarked, comes_through, list_of, mark_begin, mark_end}
use Rattle.patterns.proofs.Fits.{matches_fits}
use Rattle.patterns.proofs.Matching.{right, walk_comes, walk_marks, only}
use Rattle.patterns.proofs.Listing.{listed_once, listing}
use Rattle.patterns.proofs.Facing.{seat, seat_some, seat_first, seat_none, span_seat, length_spans, spans_at, length_facing, mark_is}
use Rattle.patterns.proofs.Steps.{variable_small}

-- the matches below a position have one list only
pub one_list : (a : Alphabet) (w q : List ℕ) (n : ℕ) (ps qs : List ℕ) → Listed a w q n ps → Listed a w q n qs → ps ≡ qs
one_list = listed_once

module _ (a : Alphabet) (P : Programme) (q : List ℕ) (c : Checked a P q) where
  -- the row with its own table and its own classes
  abbrev pub own : Programme
  own = programme P.row (table a.arities P.row) (classes a.arities P.row)

  -- it serves as well as what is lent
  pub own_checked : Checked a own q
  own_checked =
      let long : length (table a.arities P.row) ≡ length P.row = length-table a.arities P.row in
      let many : length (classes a.arities P.row) ≡ length P.row = (class_of_row a.arities P.row).0 in
      record {
        few = c.few;
        row = record {
          accepted = c.row.accepted;
          sized = record { most = c.row.sized.most; fits = omega arith };
          right = take_all (length P.row) (table a.arities P.row) (omega arith);
        };
        classed = record { fits = omega arith; right = take_all (length P.row) (classes a.arities P.row) (omega arith) };
        pattern = c.pattern;
      }

  -- the walk finds exactly the matches
  pub walk_right : (p : ℕ) → p < length P.row → (comes_through P.row (table a.arities P.row) q p ≡ true) ↔ MatchesAt a P.row q p
  walk_right p h = right a own q own_checked p h

  -- so there is a list of all matches, and it can be computed
  pub walk_lists : Listed a P.row q (length P.row) (list_of a P.row q)
  walk_lists = listing a own q own_checked (length P.row) (omega arith)

-- begin and end of each variable
pub spans_long : (A w q : List ℕ) (p : ℕ) → length (spans A w q p) ≡ variables + variables
spans_long A w q p = length_spans (table A w) variables q (facing A w q p)

-- begin and end of a variable, by the mark of its first place
module _ (A w q : List ℕ) (p i : ℕ) (few : i < variables) where
  span_begin : get_or (spans A w q p) (i + i) 0 ≡ mark_begin (seat i q (facing A w q p))
  span_begin =
      ap (λ (n : ℕ). get_or (spans A w q p) n 0) (sym (add-zero (i + i)))
      ∙ spans_at (table A w) i variables q (facing A w q p) 0 few (omega arith)
      ∙ ap (λ (l : List ℕ). get_or l 0 0) (span_seat (table A w) i q (facing A w q p))

  span_end : get_or (spans A w q p) (i + i + 1) 0 ≡ mark_end (table A w) (seat i q (facing A w q p))
  span_end =
      spans_at (table A w) i variables q (facing A w q p) 1 few (omega arith)
      ∙ ap (λ (l : List ℕ). get_or l 1 0) (span_seat (table A w) i q (facing A w q p))

module _ (a : Alphabet) (P : Programme) (q : List ℕ) (c : Checked a P q) (p i k : ℕ) (inside : p < length P.row) (m : MatchesAt a P.row q p) (has : Has q i k) where
  abbrev faces : List ℕ
  faces = facing a.arities P.row q p

  abbrev found : List ℕ
  found = spans a.arities P.row q p

  walked : (j : ℕ) × (ms : List ℕ) × (walk P.row P.table 0 q p unmarked ≡ reaches j ms)
  walked = let r = walk_comes a P q c p inside m.choice.for_variable (matches_fits _ _ m) in (r.0, r.1, r.2)

  small : i < variables
  small = variable_small (get_or q k 0) i has.1

  long : length q ≤ length faces
  long = let r = walked in omega (arith, length_facing a P q c p inside r.0 r.1 r.2)

  spanned : (b : ℕ) → seat i q faces ≡ suc b → Spanned a P.row q p i b (get_or (table a.arities P.row) b 0)
  spanned b y =
      let r = walked in
      let mark : get_or r.1 i 0 ≡ suc b = mark_is a P q c p inside r.0 r.1 r.2 i small ∙ y in
      let within : b < length P.row = omega (arith, (walk_marks a P q c p inside r.0 r.1 r.2).all i) in
      let bounds = entry_bounds a.arities P.row b within in
      record {
        some = bounds.0;
        within = bounds.1;
        row = subtree_row a.arities P.row b within;
        only = λ m'. only a P q c p inside r.0 r.1 r.2 m' i b mark;
      }

  -- each variable that stands in the pattern has a span
  pub span_present : Spanned a P.row q p i (get_or found (i + i) 0) (get_or found (i + i + 1) 0)
  span_present =
      let s = seat_some i q faces k has long in
      subst₂ (Spanned a P.row q p i) (sym (span_begin a.arities P.row q p i small ∙ ap mark_begin s.1))
      (sym (span_end a.arities P.row q p i small ∙ ap (mark_end (table a.arities P.row)) s.1)) (spanned s.0 s.1)

  -- it begins at the position that the variable's first place faces
  pub span_first : ((n : ℕ) → n < k → Has q i n → ⊥) → get_or found (i + i) 0 ≡ get_or faces k 0
  span_first f = span_begin a.arities P.row q p i small ∙ ap mark_begin (seat_first i q faces k has long f)

-- one that does not has 0 and 0
pub span_absent : (A w q : List ℕ) (p i : ℕ) → i < variables → ((k : ℕ) → Has q i k → ⊥)
    → (get_or (spans A w q p) (i + i) 0 ≡ 0) × (get_or (spans A w q p) (i + i + 1) 0 ≡ 0)
span_absent A w q p i few f =
    let s = seat_none i q (facing A w q p) f in
    (span_begin A w q p i few ∙ ap mark_begin s, span_end A w q p i few ∙ ap (mark_end (table A w)) s)
