-- Demand 2 of specs/Demands, each sentence with its proof.
-- Assumes nothing.
use Rattle.std.specs.Prelude.{Result, Ok, Err, ⊤}
use Prim.Native.Nat.{ℕ, ◌+◌, ◌-◌, ◌<◌, ◌≤◌}
use mathlib.Core.Path.{◌≡◌, refl, sym, ap, ap₂, ◌∙◌, subst, subst₂}
use mathlib.Core.List.{List, [], ◌∷◌}
use mathlib.Core.Bool.{Bool, true, false}
use mathlib.Core.Logic.{◌↔◌, ◌⊎◌, inl, inr, ⊎_elim}
use native.Mathlib.Omega.{arith}
use lib.ListN.{length, get_or, take, drop, length-drop}
use lib.Seq.{length-take-le, get_or-take}
use lib.IntN.{pos}
use Rattle.rows.specs.Limits.{pattern_most, span_places, variables}
use Rattle.rows.specs.Programme.{Alphabet, Programme, room}
use Rattle.rows.specs.Tree.{IsRow}
use Rattle.rows.specs.Parse.{table}
use Rattle.rows.specs.Classes.{FirstEqual, classes_of, classes}
use Rattle.rows.specs.Row.{symbol, verdict, allowed, reading}
use Rattle.rows.specs.Buffers.{written}
use Rattle.rows.specs.Refusals.{◌then◌, as_kept, as_pattern, sizes, symbols, pattern}
use Rattle.rows.specs.declared.Leaves.{Leaves}
use Rattle.rows.specs.declared.Leaves.TheVariants.{Symbols, Blanks}
use Rattle.rows.specs.declared.Refusal.{Refusal}
use Rattle.rows.specs.declared.Refusal.TheVariants.{Row}
use Rattle.rows.proofs.Buffers.{written-front, written_behind}
use Rattle.rows.proofs.Entry.{length-table}
use Rattle.rows.proofs.Passing.{clash, row_fine, pattern_fine}
use Rattle.rows.proofs.Scan.{sized_whole}
use Rattle.rows.specs.Promises.{Entry}
use Rattle.rows.proofs.Promises.{reads_rows, tree_of_row, table_of_row, entry_of_table}
use Rattle.rows.proofs.Classes.{class_of_row}
use Rattle.refusal_numbers.specs.Numbers.{number, place}
use Rattle.patterns.specs.Answers.{MatchesAt, facing, spans, Has, Spanned}
use Rattle.patterns.specs.Searchable.{Checked}
use Rattle.patterns.proofs.Promises.{span_present, span_first, span_absent}
use Rattle.patterns.proofs.Steps.{variable_small}
use Rattle.checks.specs.Checks.{build_check, variables_check}
use Rattle.checks.proofs.Passing.{variables_checked}
use Rattle.checks.proofs.Replacing.{replacement_fine, replacement_accepted}
use Rattle.sparrowhem.specs.Said.{Said.refused, Said.gives, check_said, found_said, bound_said, placed_said, newest_said, fits_said}
use Rattle.sparrowhem.specs.Build.{Built}
use Rattle.sparrowhem.specs.Search.{Finds, bound, Binds}
use Rattle.sparrowhem.specs.Parts.{subtree_part, subtree_answer, NewestSays}
use Rattle.sparrowhem.specs.declared.parts.Newest.{Newest}
use Rattle.sparrowhem.specs.declared.parts.Newest.TheVariants.{Corrected, OnRecord, Nowhere}
use Rattle.sparrowhem.proofs.Handing.{answer_span, answer_none, span_within, span_part}
use Rattle.sparrowhem.proofs.Searching.{finds_matches}
use Rattle.promises.specs.Demands.{RowsAccepted, PatternsAccepted, ReplacementsAccepted, BuildAccepts, BuildWrites, FindLists, VariablesExactly, PlainExactly, PlainFinds, PlainRefuses, SubtreePartIs, SubtreeEmpty, NewerPartIs, NewerEmpty}
use Rattle.promises.proofs.Said.{refusal-said, fine_said, matches_said, matched_said, unmatched_said, span_said, corrected_said, on_record_said, nowhere_said, yes_said, no_said, found-refusal, placed-refusal, newest_refusal, fits_refusal}
use Rattle.promises.proofs.Calls.{build_fine, find_all, variables_matched, variables_unmatched, variables-kept, newer_answers, newer_lies}
use Rattle.promises.proofs.Plain.{agree_yes, agree_no}

-- ---- what is accepted

pub rows_accepted : RowsAccepted
unfolding symbols
rows_accepted A w =
    let v = verdict A (allowed Symbols A) 1 0 w in
    let r = reads_rows A (allowed Symbols A) w in
    (λ e. r.0 (row_fine Row v e), λ x. ap (as_kept Row) (r.1 x))

-- within the sizes a reading finds what stands in the list
read_within : (A : List ℕ) (leaves : Leaves) (most : ℕ) (w : List ℕ) → 1 ≤ length w → length w ≤ most
    → reading A leaves most w ≡ verdict A (allowed leaves A) 1 0 w
unfolding reading
read_within A leaves most w some few = rw (sized_whole (length w) most some few) refl

pub patterns_accepted : PatternsAccepted
unfolding pattern
patterns_accepted A q some few =
    let r = reads_rows A (allowed Blanks A) q in
    let v = read_within A Blanks pattern_most q some few in
    (λ e. r.0 (sym v ∙ pattern_fine (reading A Blanks pattern_most q) e), λ x. ap as_pattern (v ∙ r.1 x))

pub replacements_accepted : ReplacementsAccepted
replacements_accepted A v some few =
    let r = reads_rows A (allowed Symbols A) v in
    (λ e. r.0 (replacement_fine A v e).1, λ x. replacement_accepted A v some few (r.1 x))

pub build_accepts : BuildAccepts
unfolding build_check
build_accepts a P r P' b alpha size = (to, from)
  where
    only : r ≡ symbols Row a.arities P.row
    only =
        b.answer
        ∙ ap (λ (c : Result ⊤ Refusal). c then sizes Row (length P.row) (room P) then symbols Row a.arities P.row) alpha
        ∙ ap (λ (c : Result ⊤ Refusal). c then symbols Row a.arities P.row) size

    to : check_said r ≡ gives [] → IsRow a.arities (symbol a.arities) P.row
    to e = (rows_accepted a.arities P.row).0 (sym only ∙ fine_said r e)

    from : IsRow a.arities (symbol a.arities) P.row → check_said r ≡ gives []
    from x = ap check_said (only ∙ (rows_accepted a.arities P.row).1 x)

pub build_writes : BuildWrites
unfolding classes
build_writes a P r P' b e x =
    let A : List ℕ = a.arities in
    let w : List ℕ = P.row in
    let now = build_fine a P P' (subst (λ (c : Result ⊤ Refusal). Built a P c P') (fine_said r e) b) in
    let table_now : P'.table ≡ written P.table 0 (table A w) = ap (λ (y : Programme). y.table) now in
    let long = length-table A w in
    let front : take (length w) P'.table ≡ table A w =
    ap (take (length w)) table_now ∙ ap (λ (n : ℕ). take n (written P.table 0 (table A w))) (sym long) ∙ written-front P.table (table A w) in
    let classes_now : P'.classes ≡ written P.classes 0 (classes A w) = ap (λ (y : Programme). y.classes) now in
    let many = (class_of_row A w).0 in
    let classes-front : take (length w) P'.classes ≡ classes A w =
    ap (take (length w)) classes_now ∙ ap (λ (n : ℕ). take n (written P.classes 0 (classes A w))) (sym many) ∙ written-front P.classes (classes A w) in
    let tree = (tree_of_row A (symbol A) w x).0 in
    record {
      table_is = front ∙ table_of_row A (allowed Symbols A) w x;
      entry_is =
          λ p h. subst (λ (e : ℕ). Entry A (symbol A) w x.tree p e)
          (ap (λ (l : List ℕ). get_or l p 0) (sym front) ∙ get_or-take (length w) P'.table p 0 h)
          (entry_of_table A (symbol A) w x p h);
      later =
          ap (drop (length w)) table_now
          ∙ ap (λ (n : ℕ). drop n (written P.table 0 (table A w))) (sym long)
          ∙ written_behind P.table (table A w)
          ∙ ap (λ (n : ℕ). drop n P.table) long;
      classes_are = classes-front ∙ ap classes_of tree;
      class_is =
          λ p h. subst₂ (λ f k. FirstEqual f p k) tree
          (ap (λ (l : List ℕ). get_or l p 0) (sym classes-front) ∙ get_or-take (length w) P'.classes p 0 h)
          ((class_of_row A w).1 p h).0;
      classes_later =
          ap (drop (length w)) classes_now
          ∙ ap (λ (n : ℕ). drop n (written P.classes 0 (classes A w))) (sym many)
          ∙ written_behind P.classes (classes A w)
          ∙ ap (λ (n : ℕ). drop n P.classes) many;
      row_stays = ap (λ (y : Programme). y.row) now;
    }

-- ---- what is found

pub find_lists : FindLists
find_lists a P q y n r y' f e =
    let g = subst (λ (s : Result ℕ Refusal). Finds a P q y s y') (matches_said r n e) f in
    let m = finds_matches a P q y (Ok n) y' g n refl in
    let l = find_all a P q y n y' g in
    (l.0, ap length (ap₂ take m.many m.wrote ∙ written-front y g.positions) ∙ sym m.many, l.2)

-- one variable, in an output whose first places hold the spans
module _ (a : Alphabet) (P : Programme) (q : List ℕ) (c : Checked a P q) (p : ℕ) (inside : p < length P.row) (m : MatchesAt a P.row q p) (y' : List ℕ) (held : take span_places y' ≡ spans a.arities P.row q p) where
  cell : (k : ℕ) → k < span_places → get_or y' k 0 ≡ get_or (spans a.arities P.row q p) k 0
  cell k h = sym (get_or-take span_places y' k 0 h) ∙ ap (λ (l : List ℕ). get_or l k 0) held

  there : (i k : ℕ) → Has q i k → Spanned a P.row q p i (get_or y' (i + i) 0) (get_or y' (i + i + 1) 0)
  there i k h =
      let few = variable_small (get_or q k 0) i h.1 in
      subst₂ (Spanned a P.row q p i) (sym (cell (i + i) (omega arith))) (sym (cell (i + i + 1) (omega arith))) (span_present a P q c p i k inside m h)

  first_there : (i k : ℕ) → Has q i k → ((j : ℕ) → j < k → Has q i j → ⊥) → get_or y' (i + i) 0 ≡ get_or (facing a.arities P.row q p) k 0
  first_there i k h none =
      let few = variable_small (get_or q k 0) i h.1 in
      cell (i + i) (omega arith) ∙ span_first a P q c p i k inside m h none

  none_there : (i : ℕ) → i < variables → ((k : ℕ) → Has q i k → ⊥) → (get_or y' (i + i) 0 ≡ 0) × (get_or y' (i + i + 1) 0 ≡ 0)
  none_there i few none =
      let s = span_absent a.arities P.row q p i few none in
      (cell (i + i) (omega arith) ∙ s.0, cell (i + i + 1) (omega arith) ∙ s.1)

module _ (a : Alphabet) (P : Programme) (q : List ℕ) (p : ℕ) (y y' : List ℕ) where
  -- places behind the spans stay
  binds_later : (r : Result Bool Refusal) → Binds a P q p y r y' → drop span_places y' ≡ drop span_places y
  binds_later (Ok true) b = (variables_matched a P q p y y' b).2
  binds_later (Ok false) b = ap (drop span_places) (variables_unmatched a P q p y y' b).1
  binds_later (Err x) b = ap (drop span_places) (variables-kept a P q p y x y' b)

  -- where nothing is refused, matched is said of a match, and unmatched where there is none
  pub record Told (r : Result Bool Refusal) : Type 0 where
    pub matched : (r ≡ Ok true) ↔ MatchesAt a P.row q p
    pub unmatched : (r ≡ Ok false) ↔ (MatchesAt a P.row q p → ⊥)

  pub binds_told : (r : Result Bool Refusal) → Binds a P q p y r y' → variables_check a P q p (length y) ≡ Ok tt → Told r
  binds_told (Ok true) b e =
      let m = (variables_matched a P q p y y' b).0 in
      record { matched = (λ z. m, λ z. refl); unmatched = (λ z. (let k : ◌≡◌ {A = ℕ} 0 1 = cc in absurd (omega arith)), λ n. absurd (n m)) }
  binds_told (Ok false) b e =
      let n = (variables_unmatched a P q p y y' b).0 in
      record { matched = (λ z. (let k : ◌≡◌ {A = ℕ} 0 1 = cc in absurd (omega arith)), λ m. absurd (n m)); unmatched = (λ z. n, λ z. refl) }
  binds_told (Err x) b e =
      let z : Err x ≡ bound (Ok tt) b.matched = b.answer ∙ ap (λ (c : Result ⊤ Refusal). bound c b.matched) e in
      absurd (refuses b.matched z)
    where
      refuses : (m : Bool) → Err x ≡ bound (Ok tt) m → ⊥
      refuses true z = let k : ◌≡◌ {A = ℕ} 0 1 = cc in omega arith
      refuses false z = let k : ◌≡◌ {A = ℕ} 0 1 = cc in omega arith

pub variables_exactly : VariablesExactly
variables_exactly a P q p y r y' b fine =
    let c = variables_checked a P q p (length y) fine in
    let told = binds_told a P q p y y' r b fine in
    let wrote : MatchesAt a P.row q p → take span_places y' ≡ spans a.arities P.row q p =
    λ m. (variables_matched a P q p y y' (subst (λ (s : Result Bool Refusal). Binds a P q p y s y') (told.matched.1 m) b)).1 in
    record {
      below = c.1;
      matched = (λ z. told.matched.0 (matched_said r z), λ m. ap bound_said (told.matched.1 m));
      unmatched = (λ z. told.unmatched.0 (unmatched_said r z), λ n. ap bound_said (told.unmatched.1 n));
      present = λ m. there a P q c.0 p c.1 m y' (wrote m);
      first = λ m. first_there a P q c.0 p c.1 m y' (wrote m);
      absent = λ m. none_there a P q c.0 p c.1 m y' (wrote m);
      later = binds_later a P q p y y' r b;
      unwritten = λ n. (variables_unmatched a P q p y y' (subst (λ (s : Result Bool Refusal). Binds a P q p y s y') (told.unmatched.1 n) b)).1;
    }

pub plain_exactly : PlainExactly
plain_exactly a w q p (Ok true) h fine = ((λ z. h.1, λ m. refl), (λ z. (let k : ◌≡◌ {A = ℕ} 0 1 = cc (no_said (Ok true) z) in absurd (omega arith)), λ n. absurd (n h.1)))
plain_exactly a w q p (Ok false) h fine = ((λ z. (let k : ◌≡◌ {A = ℕ} 0 1 = cc (yes_said (Ok false) z) in absurd (omega arith)), λ m. absurd (h.1 m)), (λ z. h.1, λ n. refl))
plain_exactly a w q p (Err x) h fine = absurd (clash _ x fine h)

-- ---- plain matcher and find

pub plain_finds : PlainFinds
plain_finds a P q y f y' p r b room =
    let agree = agree_yes a P q y f y' p r b (λ n e. room n (ap found_said e)) in (
      λ e. (let m = agree.0 (yes_said r e) in (m.0, ap found_said m.1, m.2)),
      λ m. ap fits_said (agree.1 (m.0, matches_said f m.0 m.1, m.2)),
    )

pub plain_refuses : PlainRefuses
plain_refuses a P q y f y' p r b k x small = (
  λ e.
      let z = fits_refusal r k x e in
      let same = (refusal-said z.0 k x).0 (ap fits_said (sym z.1) ∙ e) in
      ap found_said ((agree_no a P q y f y' p r b z.0 (omega (arith, same.0))).0 z.1) ∙ (refusal-said z.0 k x).1 same,
  λ e.
      let z = found-refusal f k x e in
      let same = (refusal-said z.0 k x).0 (ap found_said (sym z.1) ∙ e) in
      ap fits_said ((agree_no a P q y f y' p r b z.0 (omega (arith, same.0))).1 z.1) ∙ (refusal-said z.0 k x).1 same,
)

-- ---- parts of rows

part_of : (a : Alphabet) (P : Programme) (p b e : ℕ) → subtree_answer a P p ≡ Ok (b, e)
    → (b ≡ p) × (b < e) × (e ≤ length P.row) × (subtree_part a P p ≡ take (e - b) (drop b P.row))
part_of a P p b e h =
    let s = answer_span a P p b e h in
    let within = span_within a P p b e s in
    (s.begin, within.0, within.1, span_part a P p b e s)

pub subtree_part_is : SubtreePartIs
subtree_part_is a P p b e h = part_of a P p b e (span_said (subtree_answer a P p) b e h)

-- a part between a begin and a later end has a symbol
some_part : (l : List ℕ) (b e : ℕ) → b < e → e ≤ length l → take (e - b) (drop b l) ≡ [] → ⊥
some_part l b e h i z =
    let long : length (take (e - b) (drop b l)) ≡ e - b = length-take-le (e - b) (drop b l) (simp length-drop (omega arith)) in
    omega (arith, long, ap length z)

pub subtree_empty : SubtreeEmpty
subtree_empty a P p = (
  λ none. from (subtree_answer a P p) refl none,
  λ x. (let z = placed-refusal (subtree_answer a P p) x.0 x.1 x.2 in answer_none a P p z.0 z.1),
)
  where
    from : (r : Result (ℕ × ℕ) Refusal) → subtree_answer a P p ≡ r → subtree_part a P p ≡ [] → (k : ℕ) × (x : ℕ) × (placed_said (subtree_answer a P p) ≡ refused k x)
    from (Err r) h none = (number r, place r, ap placed_said h)
    from (Ok (b, e)) h none = let s = part_of a P p b e h in absurd (some_part P.row b e s.1 s.2 (sym s.3 ∙ none))

pub newer_part_is : NewerPartIs
newer_part_is a P O q x r p e h k = (
  λ z. (newer_lies a P O q x p e h).0 (subst (NewestSays a P O q) (corrected_said r p e z) k),
  λ z. (newer_lies a P O q x p e h).1 (subst (NewestSays a P O q) (on_record_said r p e z) k),
)

pub newer_empty : NewerEmpty
newer_empty a P O q x r h k = (λ none. to r k none, λ c. from r k c)
  where
    Empty : Result Newest Refusal → Type 0
    Empty r = (newest_said r ≡ gives (pos 0 ∷ [])) ⊎ ((k : ℕ) × (y : ℕ) × (newest_said r ≡ refused k y))

    to : (r : Result Newest Refusal) → NewestSays a P O q r → x ≡ [] → Empty r
    to (Ok (Corrected p e)) k none = let l = (newer_lies a P O q x p e h).0 k in absurd (some_part P.row p e l.0 l.1 (sym l.2 ∙ none))
    to (Ok (OnRecord p e)) k none = let l = (newer_lies a P O q x p e h).1 k in absurd (some_part O.row p e l.0 l.1 (sym l.2 ∙ none))
    to (Ok Nowhere) k none = inl refl
    to (Err y) k none = inr (number y, place y, refl)

    -- neither of the others says so
    other : (r : Result Newest Refusal) → (r ≡ Ok Nowhere → ⊥) → ((y : Refusal) → r ≡ Err y → ⊥) → Empty r → ⊥
    other r n m c = ⊎_elim (λ z. n (nowhere_said r z)) (λ z. (let y = newest_refusal r z.0 z.1 z.2 in m y.0 y.1)) c

    from : (r : Result Newest Refusal) → NewestSays a P O q r → Empty r → x ≡ []
    from (Ok (Corrected p e)) k c = absurd (other (Ok (Corrected p e)) (λ z. (let y : ◌≡◌ {A = ℕ} 0 1 = cc in omega arith)) (λ w z. (let y : ◌≡◌ {A = ℕ} 0 1 = cc in omega arith)) c)
    from (Ok (OnRecord p e)) k c = absurd (other (Ok (OnRecord p e)) (λ z. (let y : ◌≡◌ {A = ℕ} 0 1 = cc in omega arith)) (λ w z. (let y : ◌≡◌ {A = ℕ} 0 1 = cc in omega arith)) c)
    from (Ok Nowhere) k c = newer_answers a P O q x (Ok Nowhere) h k
    from (Err y) k c = newer_answers a P O q x (Err y) h k
