-- Demand 3 of specs/Demands, each sentence with its proof.
-- Assumes nothing.
use Rattle.std.specs.Prelude.{Result, Ok, Err, ⊤}
use Prim.Native.Nat.{ℕ, ◌+◌, ◌≤◌, ◌<◌}
use mathlib.Core.Path.{◌≡◌, refl, sym, ap, ◌∙◌, subst}
use mathlib.Core.List.{List, [], ◌∷◌, map}
use mathlib.Core.Bool.{Bool, true, false}
use mathlib.Core.Logic.{◌↔◌}
use native.Mathlib.Omega.{arith}
use borrow.Author.Tests.{lt-ltb, le-ltb, lt-leb}
use lib.Dec.{ltb}
use lib.ListN.{length, get_or, take}
use lib.Seq.{length-take-le, take_all, take-take}
use lib.IntN.{ℤ, pos}
use Rattle.rows.specs.Limits.{span_places}
use Rattle.rows.specs.Programme.{Alphabet, Programme, programme, room, front, cut}
use Rattle.rows.specs.Tree.{Forest, size, prefix, ends, subtree_at}
use Rattle.rows.specs.Parse.{parse, tree_of}
use Rattle.rows.specs.Classes.{classes_of}
use Rattle.rows.specs.Row.{pick, symbol}
use Rattle.rows.specs.Refusals.{◌then◌, alphabet, sizes, symbols, fresh, classed, kept, given, pattern, position, output}
use Rattle.rows.specs.declared.Refusal.{Refusal}
use Rattle.rows.specs.declared.Refusal.TheVariants.{Row}
use Rattle.rows.proofs.Tree.{length-prefix}
use Rattle.rows.proofs.Parse.{size-parse}
use Rattle.rows.proofs.Passing.{both_fine, sizes_fits, below}
use Rattle.rows.proofs.Buffers.{same_programme}
use Rattle.rows.proofs.Promises.{tree_of_row}
use Rattle.tables.proofs.Given.{right_entry, given_right}
use Rattle.patterns.specs.Answers.{MatchesAt, spans}
use Rattle.edits.specs.Put.{extent}
use Rattle.edits.proofs.Put.{put-below, size-single}
use Rattle.checks.specs.Checks.{build_check, search_check, variables_check, plain_check}
use Rattle.checks.proofs.Replacing.{given_held, replace_held, replace_able}
use Rattle.sparrowhem.specs.Said.{Said.gives, check_said, bound_said, replaced_said, fits_said}
use Rattle.sparrowhem.specs.Build.{Built}
use Rattle.sparrowhem.specs.Search.{bound, Binds}
use Rattle.sparrowhem.specs.Edit.{Replacement}
use Rattle.sparrowhem.specs.Plain.{PlainSays}
use Rattle.promises.specs.Runs.{edits}
use Rattle.promises.specs.Demands.{moved_span, ReplaceWrites, AfterRun, Beside, VariablesStay, FindStays, PlainStays, PuttingBack, EitherOrder}
use Rattle.promises.proofs.Said.{fine_said, matched_said, done_said}
use Rattle.promises.proofs.Calls.{build_fine, variables_matched, plain_settled}
use Rattle.promises.proofs.Agreeing.{then_fine, row_check, beside_check, given_row, plain_left}
use Rattle.promises.proofs.Holding.{Holds, went, holds-changed, built-holds}
use Rattle.promises.proofs.Spanning.{map_same}
use Rattle.promises.proofs.Edits.{went_written, entries, patterns_stay, run_holds, put_straight_back, old_symbols, swapped}
use Rattle.promises.proofs.Demand1.{sizes_fine}
use Rattle.promises.proofs.Demand2.{Told, binds_told, find_lists}

-- a replacement that says so has done so
done : (a : Alphabet) (P : Programme) (n : ℕ) (v : List ℕ) (p m : ℕ) (change : ℤ) (r : Result (ℕ × ℤ) Refusal) (P' : Programme)
    → Replacement a P n v p r P' → replaced_said r ≡ gives (pos m ∷ change ∷ []) → Replacement a P n v p (Ok (m, change)) P'
done a P n v p m change r P' o e = subst (λ (s : Result (ℕ × ℤ) Refusal). Replacement a P n v p s P') (done_said r m change e) o

pub replace_writes : ReplaceWrites
replace_writes a P n v p m change r P' o e = went_written a P n v p m change P' (done a P n v p m change r P' o e)

-- ---- runs

-- what is held is fine with the front of its buffer alone
pub front-given : (a : Alphabet) (P : Programme) (n : ℕ) → given a P n ≡ Ok tt → given a (front n P) (length (front n P).row) ≡ Ok tt
unfolding given kept
front-given a P n e =
    let A : List ℕ = a.arities in
    let w : List ℕ = take n P.row in
    let x = both_fine (alphabet a) (kept Row a P n) e in
    let h = given_held a P n e in
    let long : length w ≡ n = length-take-le n P.row (omega (arith, h.fits)) in
    let sized : sizes Row (length w) (room (front n P)) ≡ (Ok tt) =
    sizes_fine Row (length w) (room (front n P)) (record { some = omega (arith, h.some); most = omega (arith, h.most); room = omega (arith, h.fits) }) in
    let rest = (both_fine (sizes Row n (room P)) (symbols Row A w then fresh Row A w P.table then classed Row A w P.classes) x.1).1 in
    let all : take (length w) w ≡ w = take_all (length w) w (omega arith) in
    rw (x.0, sized, all) rest

-- a fresh build of what is held accepts it and gives its table and its classes
fresh-built : (a : Alphabet) (P : Programme) (n : ℕ) (f : Forest) → Holds a P n f
    → (T : Programme) (r : Result ⊤ Refusal) (T' : Programme) → T.row ≡ take n P.row → n ≤ room T → Built a T r T'
    → (check_said r ≡ gives []) × (cut n P ≡ cut n T')
unfolding build_check given kept
fresh-built a P n f h T r T' is enough b =
    let A : List ℕ = a.arities in
    let w : List ℕ = take n P.row in
    let x = both_fine (alphabet a) (kept Row a P n) h.fine in
    let beside : (Result ⊤ Refusal) = fresh Row A w P.table then classed Row A w P.classes in
    let y = both_fine (sizes Row n (room P)) (symbols Row A w then beside) x.1 in
    let whole = (both_fine (symbols Row A w) beside y.1).0 in
    let fits = sizes_fits Row n (room P) y.0 in
    let long : length T.row ≡ n = ap length is ∙ length-take-le n P.row (omega (arith, fits.room)) in
    let sized : sizes Row (length T.row) (room T) ≡ (Ok tt) =
    sizes_fine Row (length T.row) (room T) (record { some = omega (arith, fits.some); most = omega (arith, fits.most); room = omega arith }) in
    let fine : build_check a T ≡ (Ok tt) = rw (x.0, sized) (ap (symbols Row A) is ∙ whole) in
    let accepted : r ≡ (Ok tt) = b.answer ∙ fine in
    let now = build_fine a T T' (subst (λ (c : Result ⊤ Refusal). Built a T c T') accepted b) in
    let rows : T'.row ≡ take n P.row = ap (λ (x : Programme). x.row) now ∙ is in
    let same : front n T' ≡ T' = ap (λ (l : List ℕ). programme l T'.table T'.classes) (ap (take n) rows ∙ take-take n n P.row (omega arith) ∙ sym rows) in
    let held = built-holds a T T' n (subst (Built a T (Ok tt)) (sym same) (subst (λ (c : Result ⊤ Refusal). Built a T c T') accepted b)) long in (
      ap check_said accepted,
      same_programme (sym (ap (take n) rows ∙ take-take n n P.row (omega arith)))
          (h.table_is ∙ ap (ends 0) (sym h.tree ∙ ap (parse A) (sym is)) ∙ sym held.table_is)
          (h.classes_are ∙ ap classes_of (sym h.tree ∙ ap (parse A) (sym is)) ∙ sym held.classes_are),
    )

pub after_run : AfterRun
after_run a T r P n b e long x calls s run =
    let A : List ℕ = a.arities in
    let start = (tree_of_row A (symbol A) T.row x).0 in
    let now = run_holds a calls (record { lists = P; length = n }) s (parse A T.row)
    (built-holds a T P n (subst (λ (c : Result ⊤ Refusal). Built a T c (front n P)) (fine_said r e) b) long) run in
    let h = given_held a s.lists s.length now.fine in
    let at = ap (λ (f : Forest). edits A f calls) start in
    record {
      length_is = sym (length-take-le s.length s.lists.row (omega (arith, h.fits))) ∙ ap length now.row_is ∙ length-prefix _ ∙ ap size at;
      row_is = now.row_is ∙ ap prefix at;
      accepted = now.fine;
      built_is = fresh-built a s.lists s.length _ now;
    }

-- ---- the subtrees beside a replaced one

-- what the contracts of the searches need of the subtree before and after
record Same (a : Alphabet) (P : Programme) (n p m : ℕ) (P' : Programme) (q q' : ℕ) (Q : List ℕ) : Type 0 where
  before_fine : given a (front n P) (length (front n P).row) ≡ Ok tt
  after_fine : given a (front m P') (length (front m P').row) ≡ Ok tt
  before-below : q < length (front n P).row
  after-below : q' < length (front m P').row
  matches : MatchesAt a (front m P').row Q q' ↔ MatchesAt a (front n P).row Q q
  spans_are : spans a.arities (front m P').row Q q' ≡ map (λ x. pick (ltb q p) x (moved_span n m x)) (spans a.arities (front n P).row Q q)

beside_same : (a : Alphabet) (P : Programme) (n p m : ℕ) (P' : Programme) (q q' : ℕ) → Beside a P n p m P' q q'
    → (Q : List ℕ) → Same a P n p m P' q q' Q
beside_same a P n p m P' q q' b Q =
    let A : List ℕ = a.arities in
    let v = b.new in
    let o = done a P n v p m b.change b.answer P' b.replaced b.answered in
    let w = went a P n v p P' m b.change o in
    let able = replace_able a P n v p w.fine in
    let held = replace_held a P n v p w.fine in
    let now = (holds-changed a P n v p P' m b.change w).fine in
    let old : List ℕ = take n P.row in
    let new : List ℕ = take m P'.row in
    let long = length-take-le n P.row able.within in
    let long' = length-take-le m P'.row (omega (arith, (given_held a P' m now).fits)) in
    let G : Forest = parse A old in
    let S : List ℕ = spans A old Q q in
    let stays = patterns_stay a P n v p m b.change P' w Q in
    let in_p : p < length old = omega (arith, able.position) in
    let in_q : q < length old = omega (arith, b.below) in
    let pm : p < m = omega (arith, w.length_is, put-below (tree_of A v) G p (omega (arith, size-parse A old))) in
    let end : (j : ℕ) → j < length old → get_or P.table j 0 ≡ j + extent G j =
    λ j i. right_entry A old P.table able.right j i ∙ (entries A old old j j i i refl).0 in
    let moved : Bool → List ℕ = λ c. map (λ x. pick c x (moved_span n m x)) S in
    below q p
    (λ i.
    let beyond : q + extent G q ≤ p = below p (get_or P.table q 0) (λ j. absurd (b.holds_not (omega arith) j)) (λ j. omega (arith, end q in_q)) in
    let at : q' ≡ q = b.left i in
    let s = stays.left q beyond in
    record {
      before_fine = front-given a P n held;
      after_fine = front-given a P' m now;
      before-below = in_q;
      after-below = omega (arith, long');
      matches = rw at s.0;
      spans_are = ap (spans A new Q) at ∙ s.1 ∙ sym (ap moved (lt-ltb q p i) ∙ map_same (λ x. x) S (λ x. refl));
    })
    (λ i.
    let behind : p + extent G p ≤ q = below q (get_or P.table p 0) (λ j. absurd (b.lies_not i j)) (λ j. omega (arith, end p in_p)) in
    let by : q' + n ≡ q + m = b.right (omega (arith, size-single (subtree_at G p))) in
    let s = stays.right q q' behind b.below by in
    record {
      before_fine = front-given a P n held;
      after_fine = front-given a P' m now;
      before-below = in_q;
      after-below = omega (arith, long', b.below);
      matches = s.0;
      spans_are = s.1 ∙ sym (ap moved (le-ltb q p i));
    })

-- with lists that are fine and room in the output, only the pattern can be refused
bind_pattern : (a : Alphabet) (P : Programme) (q : List ℕ) (p m : ℕ) → given a P (length P.row) ≡ Ok tt → p < length P.row → span_places ≤ m
    → variables_check a P q p m ≡ pattern a.arities q
unfolding variables_check search_check position output
bind_pattern a P q p m g h k = rw (g, lt-leb (length P.row) p h, le-ltb m span_places k) (then_fine (pattern a.arities q))

pub variables_stay : VariablesStay
variables_stay a P n p m P' q q' b Q y r y' z s z' hy hz before now =
    let A : List ℕ = a.arities in
    let same = beside_same a P n p m P' q q' b Q in
    let c = bind_pattern a (front n P) Q q (length y) same.before_fine same.before-below hy in
    let c' = bind_pattern a (front m P') Q q' (length z) same.after_fine same.after-below hz in
    let answers : s ≡ r = go (pattern A Q) refl c c' same in (
      ap bound_said answers,
      λ e.
          let matched = matched_said r e in
          let was = variables_matched a (front n P) Q q y y' (subst (λ (x : Result Bool Refusal). Binds a (front n P) Q q y x y') matched before) in
          let is = variables_matched a (front m P') Q q' z z' (subst (λ (x : Result Bool Refusal). Binds a (front m P') Q q' z x z') (answers ∙ matched) now) in
          is.1 ∙ same.spans_are ∙ ap (map (λ x. pick (ltb q p) x (moved_span n m x))) (sym was.1),
    )
  where
    -- two answers, each of which tells the match
    agree : (r s : Result Bool Refusal) → Told a (front n P) Q q y y' r → Told a (front m P') Q q' z z' s
        → MatchesAt a (front m P').row Q q' ↔ MatchesAt a (front n P).row Q q → ((x : Refusal) → r ≡ Err x → ⊥) → s ≡ r
    agree (Ok true) s f g k n = g.matched.1 (k.1 (f.matched.0 refl))
    agree (Ok false) s f g k n = g.unmatched.1 (λ x. f.unmatched.0 refl (k.0 x))
    agree (Err x) s f g k n = absurd (n x refl)

    refuses : (b : Bool) (x : Refusal) → bound (Ok tt) b ≡ Err x → ⊥
    refuses true x e = let k : ◌≡◌ {A = ℕ} 0 1 = cc in omega arith
    refuses false x e = let k : ◌≡◌ {A = ℕ} 0 1 = cc in omega arith

    go : (d : Result ⊤ Refusal) → pattern a.arities Q ≡ d → variables_check a (front n P) Q q (length y) ≡ pattern a.arities Q
        → variables_check a (front m P') Q q' (length z) ≡ pattern a.arities Q → Same a P n p m P' q q' Q → s ≡ r
    go (Ok _) e c c' same =
        agree r s
        (binds_told a (front n P) Q q y y' r before (c ∙ e))
        (binds_told a (front m P') Q q' z z' s now (c' ∙ e))
        same.matches
        (λ x i. refuses before.matched x (sym (before.answer ∙ ap (λ (k : Result ⊤ Refusal). bound k before.matched) (c ∙ e)) ∙ i))
    go (Err x) e c c' same =
        now.answer
        ∙ ap (λ (k : Result ⊤ Refusal). bound k now.matched) (c' ∙ e)
        ∙ sym (before.answer ∙ ap (λ (k : Result ⊤ Refusal). bound k before.matched) (c ∙ e))

pub find_stays : FindStays
find_stays a P n p m P' q q' b Q y i r y' z k s z' before answered now answers =
    let same = beside_same a P n p m P' q q' b Q in
    let was = (find_lists a (front n P) Q y i r y' before answered).0.exactly q in
    let is = (find_lists a (front m P') Q z k s z' now answers).0.exactly q' in (
      λ h. was.1 (same.before-below, same.matches.0 (is.0 h).1),
      λ h. is.1 (same.after-below, same.matches.1 (was.0 h).1),
    )

plain_pattern : (a : Alphabet) (P : Programme) (q : List ℕ) (p : ℕ) → given a P (length P.row) ≡ Ok tt → p < length P.row
    → plain_check a P.row q p ≡ pattern a.arities q
unfolding position
plain_pattern a P q p g h =
    let order = given_right a P g in
    let row = (both_fine (row_check a P.row) (beside_check a P) (sym (given_row a P (omega (arith, order.row.sized.fits, order.classed.fits))) ∙ g)).0 in
    plain_left a P.row q p ∙ rw (row, lt-leb (length P.row) p h) (then_fine (pattern a.arities q))

pub plain_stays : PlainStays
plain_stays a P n p m P' q q' b Q r s before now =
    let same = beside_same a P n p m P' q q' b Q in
    let c = plain_pattern a (front n P) Q q same.before_fine same.before-below in
    let c' = plain_pattern a (front m P') Q q' same.after_fine same.after-below in
    ap fits_said (plain_settled a (front m P').row Q q' s r now (go r before (c' ∙ sym c) same.matches))
  where
    go : (r : Result Bool Refusal) → PlainSays a (front n P).row Q q r → plain_check a (front m P').row Q q' ≡ plain_check a (front n P).row Q q
        → MatchesAt a (front m P').row Q q' ↔ MatchesAt a (front n P).row Q q → PlainSays a (front m P').row Q q' r
    go (Ok true) h c k = (c ∙ h.0, k.1 h.1)
    go (Ok false) h c k = (c ∙ h.0, λ x. h.1 (k.0 x))
    go (Err x) h c k = c ∙ h

-- ---- putting back, and two replacements

pub putting_back : PuttingBack
putting_back a P n v p m change r P₁ s P₂ o₁ e o₂ =
    let d = done a P n v p m change r P₁ o₁ e in
    let old = old_symbols a P n v p m change P₁ (went a P n v p P₁ m change d) in
    let back = put_straight_back a P n v p m change P₁ s P₂ d (subst (λ (l : List ℕ). Replacement a P₁ m l p s P₂) (sym old) o₂) in
    (ap replaced_said back.0, back.1)

pub either_order : EitherOrder
either_order a P n u p v q q' m₁ m₁₂ m₂ m₂₁ c₁ c₁₂ c₂ c₂₁ r₁ r₁₂ r₂ r₂₁ P₁ P₁₂ P₂ P₂₁ apart moves o₁ e₁ o₁₂ e₁₂ o₂ e₂ o₂₁ e₂₁ =
    swapped a P n u p v q q' m₁ m₁₂ m₂ m₂₁ c₁ c₁₂ c₂ c₂₁ P₁ P₁₂ P₂ P₂₁ apart moves
    (done a P n u p m₁ c₁ r₁ P₁ o₁ e₁)
    (done a P₁ m₁ v q' m₁₂ c₁₂ r₁₂ P₁₂ o₁₂ e₁₂)
    (done a P n v q m₂ c₂ r₂ P₂ o₂ e₂)
    (done a P₂ m₂ u p m₂₁ c₂₁ r₂₁ P₂₁ o₂₁ e₂₁)
