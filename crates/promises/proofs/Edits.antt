-- One replacement and the subtrees beside it; runs of replacements; putting back; two replacements.
-- Assumes nothing.
use Rattle.std.specs.Prelude.{Result, Ok, Err}
use Prim.Native.Nat.{ℕ, zero, suc, ◌+◌, ◌-◌, ◌<◌, ◌≤◌, max}
use mathlib.Core.Path.{◌≡◌, refl, sym, ap, ap₂, ◌∙◌, subst}
use mathlib.Core.List.{List, [], ◌∷◌, map}
use mathlib.Core.Logic.{◌↔◌}
use native.Mathlib.Omega.{arith}
use borrow.Author.Tests.{ne_eqb}
use lib.ListN.{length, get_or, take, drop}
use lib.Seq.{length-take-le, take-take}
use lib.IntN.{ℤ, pos, ◌-ℤ◌}
use Rattle.rows.specs.Limits.{freed_symbol, freed_entry, freed_class}
use Rattle.rows.specs.Programme.{Alphabet, Programme, cut}
use Rattle.rows.specs.Tree.{Forest, Tree, IsRow, single, size, prefix, ends, subtree_at}
use Rattle.rows.specs.Parse.{parse, tree_of, table as table_of}
use Rattle.rows.specs.Classes.{classes_of, classes as classesOfRow}
use Rattle.rows.specs.Row.{allowed}
use Rattle.rows.specs.Refusals.{replacement}
use Rattle.rows.specs.declared.Leaves.TheVariants.{Symbols}
use Rattle.rows.proofs.Tree.{length-prefix, length-ends}
use Rattle.rows.proofs.Parse.{prefix-parse, size-parse}
use Rattle.rows.proofs.Accept.{ranked_parse, tree_row, whole_of_row}
use Rattle.rows.proofs.Subtrees.{subtree_row}
use Rattle.rows.proofs.Alike.{length-classes}
use Rattle.rows.proofs.Buffers.{same_programme}
use Rattle.tables.proofs.Given.{right_entry, right_bounds}
use Rattle.buffers.proofs.Renewed.{renewed_freed, renewed_later}
use Rattle.patterns.specs.Pattern.{Match}
use Rattle.patterns.specs.Answers.{MatchesAt, spans}
use Rattle.edits.specs.Put.{put, extent}
use Rattle.edits.proofs.Put.{put-size, put-below, at_ranked, at_fits, size-single}
use Rattle.edits.proofs.Ends.{end_at, nests}
use Rattle.edits.proofs.Positions.{at_left, at_behind, put_back, put_swap}
use Rattle.checks.specs.Checks.{replace_check}
use Rattle.checks.proofs.Replacing.{given_held, replace_held, replace_able, able_sizes, replacement_accepted, replace_goes}
use Rattle.sparrowhem.specs.Edit.{new_tree, Replacement}
use Rattle.promises.specs.Runs.{State, Call, Run, edit, edits, length_after}
use Rattle.promises.specs.Demands.{moved_span, Written}
use Rattle.promises.proofs.Spanning.{spans_stay, map_same}
use Rattle.promises.proofs.Holding.{Holds, Went, goes, went, stayed, row_now, table_now, classes_now, same_lengths, holds-changed, held_once}
use Rattle.rows.specs.declared.Refusal.{Refusal}

-- ---- one replacement: the tree, and the subtrees beside it

pub went_written : (a : Alphabet) (P : Programme) (n : ℕ) (v : List ℕ) (p m : ℕ) (change : ℤ) (P' : Programme)
    → Replacement a P n v p (Ok (m, change)) P' → Written a P n v p m change P'
went_written a P n v p m change P' o =
    let w = went a P n v p P' m change o in
    let F = new_tree a P n v p in
    let lp : length (prefix F) ≡ m = length-prefix F ∙ sym w.length_is in
    let le : length (ends 0 F) ≡ m = length-ends 0 F ∙ sym w.length_is in
    let row_is = row_now a P n v p P' m change w in
    let table_is = table_now a P n v p P' m change w in
    let classes_are = classes_now a P n v p P' m change w in
    let lc : length (classes_of F) ≡ m = length-classes F ∙ sym w.length_is in
    let h = holds-changed a P n v p P' m change w in
    record {
      length_is = w.length_is;
      row_is = h.row_is;
      table_is = h.table_is;
      classes_are = h.classes_are;
      change_is = w.change_is;
      freed = λ k h i. (
        ap (λ (l : List ℕ). get_or l k 0) row_is ∙ renewed_freed P.row n freed_symbol (prefix F) k (omega arith) i,
        ap (λ (l : List ℕ). get_or l k 0) table_is ∙ renewed_freed P.table n freed_entry (ends 0 F) k (omega arith) i,
        ap (λ (l : List ℕ). get_or l k 0) classes_are ∙ renewed_freed P.classes n freed_class (classes_of F) k (omega arith) i,
      );
      later = (
        ap (drop (max n m)) row_is ∙ renewed_later P.row n freed_symbol (prefix F) m lp,
        ap (drop (max n m)) table_is ∙ renewed_later P.table n freed_entry (ends 0 F) m le,
        ap (drop (max n m)) classes_are ∙ renewed_later P.classes n freed_class (classes_of F) m lc,
      );
    }

-- the entry at k, and at k' where the same subtree stands afterwards
pub entries : (A w w' : List ℕ) (k k' : ℕ) → k < length w → k' < length w' → subtree_at (parse A w') k' ≡ subtree_at (parse A w) k
    → (get_or (table_of A w) k 0 ≡ k + extent (parse A w) k) × (get_or (table_of A w') k' 0 ≡ k' + extent (parse A w) k)
unfolding table_of
entries A w w' k k' i j e =
    let x = ap (λ (t : Tree). size (single t)) e in (
      end_at (parse A w) k (omega (arith, size-parse A w)) 0 ∙ omega arith,
      end_at (parse A w') k' (omega (arith, size-parse A w')) 0 ∙ omega arith,
    )

moved_some : (n m k : ℕ) → 0 < k → moved_span n m k ≡ k + m - n
moved_some n m k h = simp (ne_eqb k 0 (λ e. omega arith))

same_matches : (Q t u : Tree) → t ≡ u → Match Q t ↔ Match Q u
same_matches Q t u e = (λ x. subst (Match Q) e x, λ x. subst (Match Q) (sym e) x)

module _ (a : Alphabet) (P : Programme) (n : ℕ) (v : List ℕ) (p m : ℕ) (change : ℤ) (P' : Programme) where
  abbrev A : List ℕ
  A = a.arities

  -- the row before and after, its tree before, and the replacement's
  abbrev old : List ℕ
  old = take n P.row

  abbrev new : List ℕ
  new = take m P'.row

  abbrev G : Forest
  G = parse A old

  abbrev u : Tree
  u = tree_of A v

  -- the position, and by how much the others move
  pub at_position : Went a P n v p m change P' → (size G ≡ n) × (p < n) × (m + extent G p ≡ n + size (single u))
  at_position w =
      let r = replace_able a P n v p w.fine in
      let s = size-parse A old ∙ length-take-le n P.row r.within in
      let i : p < size G = omega (arith, r.position) in
      (s, r.position, omega (arith, w.length_is, put-size u G p i))

  -- Every subtree that neither holds the replaced place nor lies in it is the same tree afterwards: at the same position if it
  -- stands to the left, else at the position moved by the change in length.
  record Stays : Type 0 where
    left : (q : ℕ) → q + extent G q ≤ p → subtree_at (parse A new) q ≡ subtree_at G q
    right : (q q' : ℕ) → p + extent G p ≤ q → q < n → q' + n ≡ q + m → subtree_at (parse A new) q' ≡ subtree_at G q

  others_stay : Went a P n v p m change P' → Stays
  others_stay w =
      let x = at_position w in
      let now : parse A new ≡ put G p u = (holds-changed a P n v p P' m change w).tree in
      record {
        left = λ q h. ap (λ (f : Forest). subtree_at f q) now ∙ at_left u G q (omega arith) p h (omega arith);
        right = λ q q' h i e. ap (λ (f : Forest). subtree_at f q') now ∙ at_behind u G p (omega arith) q q' (h, omega arith, omega arith);
      }

  -- For every pattern Q such a subtree keeps its answer, matched or not, and its variables.
  pub record AnswersStay (Q : List ℕ) : Type 0 where
    pub left : (q : ℕ) → q + extent G q ≤ p → (MatchesAt a new Q q ↔ MatchesAt a old Q q) × (spans A new Q q ≡ spans A old Q q)
    pub right : (q q' : ℕ) → p + extent G p ≤ q → q < n → q' + n ≡ q + m
        → (MatchesAt a new Q q' ↔ MatchesAt a old Q q) × (spans A new Q q' ≡ map (moved_span n m) (spans A old Q q))

  pub patterns_stay : Went a P n v p m change P' → (Q : List ℕ) → AnswersStay Q
  patterns_stay w Q =
      let x = at_position w in
      let able = replace_able a P n v p w.fine in
      let stays = others_stay w in
      let here : ℕ → ℕ = λ k. k in
      let moved : ℕ → ℕ = λ k. k + m - n in
      let ln : length old ≡ n = length-take-le n P.row able.within in
      let lengths = same_lengths a P n v p P' m change w in
      let lm : length new ≡ m = length-take-le m P'.row (omega (arith, w.length_is, able.row_room)) in
      let pm : p < m = omega (arith, w.length_is, put-below u G p (omega arith)) in
      record {
        left =
            λ q h. (
              same_matches (tree_of A Q) _ _ (stays.left q h),
              spans_stay A old new here here refl Q q q (stays.left q h) (λ k b. refl)
                  (λ k b c.
                  let d = nests G q (omega arith) k b c in
                  let e = entries A old new k k (omega arith) (omega arith) (stays.left k (omega arith)) in
                  (refl, e.1 ∙ sym e.0))
                  ∙ map_same here (spans A old Q q) (λ k. refl),
            );
        right =
            λ q q' h i r. (
              same_matches (tree_of A Q) _ _ (stays.right q q' h i r),
              spans_stay A old new moved (moved_span n m) refl Q q q' (stays.right q q' h i r) (λ k b. omega arith)
                  (λ k b c.
                  let f = at_fits G q (omega arith) in
                  let e = entries A old new k (k + m - n) (omega arith) (omega arith) (stays.right k (k + m - n) (omega arith) (omega arith) (omega arith)) in
                  let some = size-single (subtree_at G p) in
                  (moved_some n m k (omega arith), e.1 ∙ sym (moved_some n m (get_or (table_of A old) k 0) (omega arith) ∙ omega arith))),
            );
      }

  -- the old subtree's symbols stand from p up to its entry, which is its end
  pub old_end : Went a P n v p m change P' → get_or P.table p 0 ≡ p + extent G p
  old_end w =
      let able = replace_able a P n v p w.fine in
      let inside : p < length old = omega (arith, able.position, length-take-le n P.row able.within) in
      right_entry A old P.table able.right p inside ∙ (entries A old old p p inside inside refl).0

-- ---- runs

-- a call leads from a state that holds a tree to one that holds the edited tree
step_holds : (a : Alphabet) (P : Programme) (n : ℕ) (f : Forest) → Holds a P n f
    → (k : ℕ) (v : List ℕ) (p : ℕ) (r : Result (ℕ × ℤ) Refusal) (P' : Programme) (n' : ℕ)
    → Replacement a P k v p r P' → n' ≡ length_after n r → Holds a P' n' (edit a.arities f p v r)
step_holds a P n f h k v p (Ok (m, change)) P' n' o e =
    let A : List ℕ = a.arities in
    let w = went a P k v p P' m change o in
    let same : k ≡ n = held_once a P k n (replace_held a P k v p w.fine) h.fine in
    let now : new_tree a P k v p ≡ put f p (tree_of A v) =
    ap (λ (g : Forest). put g p (tree_of A v)) (ap (λ (j : ℕ). parse A (take j P.row)) same ∙ h.tree) in
    rw (e, ← now) (holds-changed a P k v p P' m change w)
step_holds a P n f h k v p (Err r) P' n' o e = rw (e, stayed a P k v p P' r o) h

pub run_holds : (a : Alphabet) (calls : List Call) (s s' : State) (f : Forest) → Holds a s.lists s.length f
    → Run a s calls s' → Holds a s'.lists s'.length (edits a.arities f calls)
unfolding Run edits
run_holds a [] s s' f h r = rw r h
run_holds a (c ∷ cs) s s' f h r =
    let m = r.0 in
    run_holds a cs m s' (edit a.arities f c.position c.replacement c.answer)
    (step_holds a s.lists s.length f h c.length c.replacement c.position c.answer m.lists m.length r.1.outcome r.1.goes_on)
    r.2

-- ---- putting back

pub put_straight_back : (a : Alphabet) (P : Programme) (n : ℕ) (v : List ℕ) (p m : ℕ) (change : ℤ) (P₁ : Programme) (s : Result (ℕ × ℤ) Refusal) (P₂ : Programme)
    → Replacement a P n v p (Ok (m, change)) P₁
    → Replacement a P₁ m (prefix (single (subtree_at (parse a.arities (take n P.row)) p))) p s P₂
    → (s ≡ Ok (n, (pos n -ℤ pos m))) × (cut n P₂ ≡ cut n P)
unfolding table_of classesOfRow
put_straight_back a P n v p m change P₁ s P₂ o₁ o₂ =
    let A : List ℕ = a.arities in
    let ok = allowed Symbols A in
    let w = went a P n v p P₁ m change o₁ in
    let able = replace_able a P n v p w.fine in
    let h = holds-changed a P n v p P₁ m change w in
    let lengths = same_lengths a P n v p P₁ m change w in
    let G = parse A (take n P.row) in
    let x = subtree_at G p in
    let old = prefix (single x) in
    let at = at_position a P n v p m change P₁ w in
    let i : p < size G = omega arith in
    let most = able_sizes A P.row P.table n v p m able w.length_is in
    let is_row : IsRow A ok old = record { tree = x; ranked = at_ranked A ok G p i (ranked_parse A ok (take n P.row) 1 0 able.right.accepted); reads = refl } in
    let back : new_tree a P₁ m old p ≡ G =
    ap₂ (λ (f : Forest) (y : Tree). put f p y) h.tree (tree_row A ok old is_row) ∙ put_back (tree_of A v) G p i in
    let size_back : size (new_tree a P₁ m old p) ≡ n = ap size back ∙ at.0 in
    let long = length-prefix (single x) in
    let whole : replacement A old ≡ (Ok tt) =
    replacement_accepted A old (omega (arith, size-single x)) (omega (arith, at_fits G p i)) (whole_of_row A ok old is_row) in
    let fine : replace_check a P₁ m old p ≡ (Ok tt) =
    replace_goes a P₁ m old p h.fine whole (omega (arith, w.length_is, put-below (tree_of A v) G p i)) (omega arith) in
    let g = goes a P₁ m old p P₂ s fine o₂ in
    let h₂ : Holds a P₂ n G = rw (size_back, back) at (holds-changed a P₁ m old p P₂ _ _ g.1) in
    let was = given_held a P n (replace_held a P n v p w.fine) in
    let lw = length-take-le n P.row able.within in (
      g.0 ∙ ap (λ (k : ℕ). Ok (k, (pos k -ℤ pos m))) size_back,
      same_programme (h₂.row_is ∙ prefix-parse A (take n P.row)) (h₂.table_is ∙ sym (ap (λ (k : ℕ). take k P.table) (sym lw) ∙ able.right.right))
          (h₂.classes_are ∙ sym (ap (λ (k : ℕ). take k P.classes) (sym lw) ∙ was.order.classed.right)),
    )

-- a part within the front of a list is one of the list
front_part : (p k n : ℕ) (l : List ℕ) → p + k ≤ n → take k (drop p (take n l)) ≡ take k (drop p l)
front_part zero k n l h = take-take k n l (omega arith)
front_part (suc p) k zero l h = absurd (omega arith)
front_part (suc p) k (suc n) [] h = refl
front_part (suc p) k (suc n) (x ∷ l) h = front_part p k n l (omega arith)

-- the old subtree's symbols
pub old_symbols : (a : Alphabet) (P : Programme) (n : ℕ) (v : List ℕ) (p m : ℕ) (change : ℤ) (P' : Programme) → Went a P n v p m change P'
    → prefix (single (subtree_at (parse a.arities (take n P.row)) p)) ≡ take (get_or P.table p 0 - p) (drop p P.row)
old_symbols a P n v p m change P' w =
    let A : List ℕ = a.arities in
    let able = replace_able a P n v p w.fine in
    let old : List ℕ = take n P.row in
    let inside : p < length old = omega (arith, able.position, length-take-le n P.row able.within) in
    subtree_row A old p inside
    ∙ ap (λ (e : ℕ). take (e - p) (drop p old)) (sym (right_entry A old P.table able.right p inside))
    ∙ front_part p (get_or P.table p 0 - p) n P.row (omega (arith, right_bounds A old P.table able.right p inside, length-take-le n P.row able.within))

-- ---- two replacements

pub swapped : (a : Alphabet) (P : Programme) (n : ℕ) (u : List ℕ) (p : ℕ) (v : List ℕ) (q q' : ℕ) (m₁ m₁₂ m₂ m₂₁ : ℕ) (c₁ c₁₂ c₂ c₂₁ : ℤ)
    (P₁ P₁₂ P₂ P₂₁ : Programme) → get_or P.table p 0 ≤ q → q' + n ≡ q + m₁
    → Replacement a P n u p (Ok (m₁, c₁)) P₁ → Replacement a P₁ m₁ v q' (Ok (m₁₂, c₁₂)) P₁₂
    → Replacement a P n v q (Ok (m₂, c₂)) P₂ → Replacement a P₂ m₂ u p (Ok (m₂₁, c₂₁)) P₂₁
    → (m₁₂ ≡ m₂₁) × (cut m₁₂ P₁₂ ≡ cut m₂₁ P₂₁)
swapped a P n u p v q q' m₁ m₁₂ m₂ m₂₁ c₁ c₁₂ c₂ c₂₁ P₁ P₁₂ P₂ P₂₁ apart moves o₁ o₁₂ o₂ o₂₁ =
    let A : List ℕ = a.arities in
    let w₁ = went a P n u p P₁ m₁ c₁ o₁ in
    let w₂ = went a P n v q P₂ m₂ c₂ o₂ in
    let w₁₂ = went a P₁ m₁ v q' P₁₂ m₁₂ c₁₂ o₁₂ in
    let w₂₁ = went a P₂ m₂ u p P₂₁ m₂₁ c₂₁ o₂₁ in
    let h₁ = holds-changed a P n u p P₁ m₁ c₁ w₁ in
    let h₂ = holds-changed a P n v q P₂ m₂ c₂ w₂ in
    let h₁₂ = holds-changed a P₁ m₁ v q' P₁₂ m₁₂ c₁₂ w₁₂ in
    let h₂₁ = holds-changed a P₂ m₂ u p P₂₁ m₂₁ c₂₁ w₂₁ in
    let at = at_position a P n u p m₁ c₁ P₁ w₁ in
    let bt = at_position a P n v q m₂ c₂ P₂ w₂ in
    let G = parse A (take n P.row) in
    let U = tree_of A u in
    let end = old_end a P n u p m₁ c₁ P₁ w₁ in
    let same : new_tree a P₁ m₁ v q' ≡ new_tree a P₂ m₂ u p =
    ap (λ (f : Forest). put f q' (tree_of A v)) h₁.tree
    ∙ put_swap U (tree_of A v) G p (omega arith) q q' (omega arith, omega arith, omega arith)
    ∙ ap (λ (f : Forest). put f p U) (sym h₂.tree) in (
      w₁₂.length_is ∙ ap size same ∙ sym w₂₁.length_is,
      same_programme (h₁₂.row_is ∙ ap prefix same ∙ sym h₂₁.row_is) (h₁₂.table_is ∙ ap (ends 0) same ∙ sym h₂₁.table_is)
          (h₁₂.classes_are ∙ ap classes_of same ∙ sym h₂₁.classes_are),
    )
