-- Demand 1 of specs/Demands, each sentence with its proof.
-- Assumes nothing.
use Rattle.std.specs.Prelude.{ℤ, Result, Ok, Err, ⊤}
use Prim.Native.Nat.{ℕ, zero, suc, ◌+◌, ◌≤◌, ◌<◌, ◌*◌}
use mathlib.Core.Path.{◌≡◌, refl, sym, ap, ap₂, ◌∙◌, subst}
use mathlib.Core.List.{List}
use mathlib.Core.Bool.{Bool, true, false}
use mathlib.Core.Logic.{◌↔◌, ◌⊎◌, inl, inr, ⊎_elim}
use native.Mathlib.Omega.{arith}
use native.Mathlib.Decide.{dec_lt}
use borrow.Author.Tests.{lt-ltb, le-ltb}
use lib.ListN.{length, get_or, length-take}
use Rattle.rows.specs.Programme.{Alphabet, Programme, programme, room, front}
use Rattle.rows.specs.Tree.{Forest, size}
use Rattle.rows.specs.Parse.{table}
use Rattle.rows.specs.Classes.{classes}
use Rattle.rows.specs.Limits.{row_most, span_places}
use Rattle.rows.specs.Row.{pick, sized, verdict, allowed}
use Rattle.rows.specs.declared.Leaves.TheVariants.{Symbols}
use Rattle.rows.specs.declared.Kept.{Kept}
use Rattle.rows.specs.declared.Kept.TheVariants.{Stale}
use Rattle.rows.specs.Buffers.{written, after, One}
use Rattle.rows.specs.Refusals.{◌then◌, as_kept, alphabet, sizes, symbols, fresh, classed, kept, given, pattern, replacement, position, grown, output}
use Rattle.rows.specs.declared.Refusal.{Refusal}
use Rattle.rows.specs.declared.Refusal.TheVariants.{Row, OnRecord as RecordRow, OutputShort}
use Rattle.rows.proofs.Entry.{length-table}
use Rattle.rows.proofs.Classes.{class_of_row}
use Rattle.rows.proofs.Differ.{differs_whole}
use Rattle.rows.proofs.Passing.{Fits, both_fine, then_assoc, row_fine, sizes_fits, position_fine, below}
use Rattle.refusal_numbers.specs.Table.{Refuses}
use Rattle.refusal_numbers.proofs.Table.{table as table-of-refusals}
use Rattle.patterns.specs.Searchable.{Checked}
use Rattle.patterns.specs.Walk.{comes_through, list_of}
use Rattle.patterns.specs.Answers.{MatchesAt, spans}
use Rattle.patterns.proofs.Promises.{walk_right, walk_lists}
use Rattle.checks.specs.Checks.{build_check, search_check, find_check, variables_check, replace_check, subtree_check, newer_check, plain_check}
use Rattle.checks.proofs.Passing.{search_checked, variables_checked, newer_checked}
use Rattle.sparrowhem.specs.Said.{Said, Said.refused, refusal, check_said, found_said, bound_said, replaced_said, newest_said, fits_said}
use Rattle.sparrowhem.specs.Build.{built, Built}
use Rattle.sparrowhem.specs.Search.{found, Finds, bound, Binds}
use Rattle.sparrowhem.specs.Edit.{new_tree, holding, answered, Replacement}
use Rattle.sparrowhem.specs.Parts.{subtree_part, subtree_answer, LiesAt, FirstMatch, NoMatch, NewestSays, newest_part, NewestLies, NewerPart, NewerLies}
use Rattle.sparrowhem.specs.Plain.{PlainSays}
use Rattle.sparrowhem.specs.declared.parts.Newest.{Newest}
use Rattle.sparrowhem.specs.declared.parts.Newest.TheVariants.{Corrected, OnRecord, Nowhere}
use Rattle.sparrowhem.proofs.Preferring.{one_answer}
use Rattle.sparrowhem.proofs.Searching.{finds_list}
use Rattle.promises.specs.Demands.{BuildOne, FindOne, VariablesOne, ReplaceOne, SubtreeOne, SubtreePlaceOne, NewerOne, NewerPlaceOne, PlainOne, BuildOrder, FindOrder, VariablesOrder, ReplaceOrder, SubtreeOrder, NewerOrder, PlainOrder, FindShort, BuildRefused, FindRefused, VariablesRefused, ReplaceRefused, MisclassedAt, WrongBeside, FindStale, VariablesStale, ReplaceStale, SubtreeStale, NewerStale, NewerRefused}
use Rattle.promises.proofs.Said.{apart, refusal-said, check_said_lem, found-said, bound-said, answered-said, placed-said, check_refusal, found-refusal, bound-refusal, replaced_refusal, newest_refusal, fits_refusal}
use Rattle.promises.proofs.Calls.{build_settled, find_settled, variables_settled, replace_settled, lies_settled, newer_settled, newer_place_settled, plain_settled, build_kept, find_kept, variables-kept}
use Rattle.promises.proofs.Agreeing.{row_check, left_row, search_left, plain_left}
use Rattle.promises.proofs.Holding.{begins, stayed}

-- ---- one outcome

pub pair : {X Y : Type 0} (x y : X × Y) → (x.0 ≡ y.0) × (x.1 ≡ y.1) → x ≡ y
pair {X} {Y} x y e = ap₂ {C = X × Y} (λ (a : X) (b : Y). (a, b)) e.0 e.1

unfoldable pub build_one : BuildOne
build_one a P =
    let c : (Result ⊤ Refusal) = build_check a P in
    let some : (Result ⊤ Refusal) × Programme = (c, after c (built a P) P) in
    let here : Built a P some.0 some.1 = record { answer = refl; lists = refl } in
    record {
      some = some;
      holds = here;
      only = λ x h. pair x some (build_settled a P x.0 some.0 x.1 some.1 h here);
    }

unfoldable pub find_one : FindOne
find_one a P q y =
    let ps : List ℕ = list_of a P.row q in
    let c : (Result ⊤ Refusal) = find_check a P q (length ps) (length y) in
    let some : (Result ℕ Refusal) × List ℕ = (found c (length ps), after c (written y 0 ps) y) in
    let here : Finds a P q y some.0 some.1 =
    record { positions = ps; listed = λ e. walk_lists a P q (search_checked a P q e); answer = refl; output = refl } in
    record {
      some = some;
      holds = here;
      only = λ x h. pair x some (find_settled a P q y x.0 some.0 x.1 some.1 h here);
    }

unfoldable pub variables_one : VariablesOne
variables_one a P q p y =
    let b : Bool = comes_through P.row (table a.arities P.row) q p in
    let c : (Result ⊤ Refusal) = variables_check a P q p (length y) in
    let some : (Result Bool Refusal) × List ℕ = (bound c b, after c (pick b (written y 0 (spans a.arities P.row q p)) y) y) in
    let here : Binds a P q p y some.0 some.1 =
    record {
      matched = b;
      exactly = λ e. (let i = variables_checked a P q p (length y) e in walk_right a P q i.0 p i.1);
      answer = refl;
      output = refl;
    } in
    record {
      some = some;
      holds = here;
      only = λ x h. pair x some (variables_settled a P q p y x.0 some.0 x.1 some.1 h here);
    }

unfoldable pub replace_one : ReplaceOne
replace_one a P n v p =
    let c : (Result ⊤ Refusal) = replace_check a P n v p in
    let f : Forest = new_tree a P n v p in
    let some : (Result (ℕ × ℤ) Refusal) × Programme = (answered c (size f) n, after c (holding P n f) P) in
    let here : Replacement a P n v p some.0 some.1 = record { answer = refl; lists = refl } in
    record {
      some = some;
      holds = here;
      only = λ x h. pair x some (replace_settled a P n v p x.0 some.0 x.1 some.1 h here);
    }

pub subtree_one : SubtreeOne
subtree_one a P p =
    record {
      some = (subtree_part a P p, subtree_answer a P p);
      holds = (refl, refl);
      only = λ x h. pair x (subtree_part a P p, subtree_answer a P p) h;
    }

-- a part lies in one place
lies_one : (row : ℕ × ℕ) (b : ℕ) → One {X = ℕ × ℕ} (λ x. LiesAt row b x)
lies_one row b = record { some = (row.0, b * 2 + row.1); holds = (refl, refl); only = λ x h. lies_settled row b x (row.0, b * 2 + row.1) h (refl, refl) }

pub subtree_place_one : SubtreePlaceOne
subtree_place_one (Ok (b, e)) row = lies_one row b
subtree_place_one (Err r) row = lies_one row 0

-- the first of the numbers below n that passes the test, if there is one
abbrev Least : (ℕ → Bool) → ℕ → Type 0
Least f p = (f p ≡ true) × ((k : ℕ) → k < p → f k ≡ false)

least : (f : ℕ → Bool) (n : ℕ) → ((k : ℕ) → k < n → f k ≡ false) ⊎ ((p : ℕ) × (p < n) × Least f p)
least f zero = inl (λ k h. absurd (omega arith))
least f (suc n) = ⊎_elim (λ none. go (f n) refl none) (λ s. inr (s.0, omega (arith, s.1), s.2)) (least f n)
  where
    go : (b : Bool) → f n ≡ b → ((k : ℕ) → k < n → f k ≡ false)
        → ((k : ℕ) → k < suc n → f k ≡ false) ⊎ ((p : ℕ) × (p < suc n) × Least f p)
    go true e none = inr (n, omega arith, (e, none))
    go false e none = inl (λ k h. below k n (λ i. none k i) (λ i. (let same : k ≡ n = omega arith in ap f same ∙ e)))

-- a row that can be searched has a first match or none
first_or_none : (a : Alphabet) (P : Programme) (q : List ℕ) → Checked a P q
    → NoMatch a P.row q ⊎ ((p : ℕ) × FirstMatch a P.row q p (get_or (table a.arities P.row) p 0))
first_or_none a P q c =
    ⊎_elim
    (λ none. inl (λ k h m. fails k h (none k h) m))
    (λ s.
    inr (
      s.0,
      record {
        within = s.1;
        here = (walk_right a P q c s.0 s.1).0 s.2.0;
        before = λ k h m. fails k (omega (arith, s.1)) (s.2.1 k h) m;
        end = refl;
      },
    ))
    (least through (length P.row))
  where
    through : ℕ → Bool
    through = comes_through P.row (table a.arities P.row) q

    fails : (k : ℕ) → k < length P.row → through k ≡ false → MatchesAt a P.row q k → ⊥
    fails k h e m = let d = (walk_right a P q c k h).1 m in let z : ◌≡◌ {A = ℕ} 0 1 = cc in omega arith

newest_some : (a : Alphabet) (P O : Programme) (q : List ℕ) → (r : Result Newest Refusal) × NewestSays a P O q r
newest_some a P O q = go (newer_check a P O q) refl
  where
    go : (c : Result ⊤ Refusal) → newer_check a P O q ≡ c → (r : Result Newest Refusal) × NewestSays a P O q r
    go (Err x) e = (Err x, e)
    go (Ok _) e =
        let both = newer_checked a P O q e in
        ⊎_elim
        (λ none.
        ⊎_elim
        (λ none_there. (Ok Nowhere, (e, none, none_there)))
        (λ s. (Ok (OnRecord s.0 (get_or (table a.arities O.row) s.0 0)), (e, none, s.1)))
        (first_or_none a O q both.1))
        (λ s. (Ok (Corrected s.0 (get_or (table a.arities P.row) s.0 0)), (e, s.1)))
        (first_or_none a P q both.0)

pub newer_one : NewerOne
newer_one a P O q =
    let s = newest_some a P O q in
    let some : List ℕ × Result Newest Refusal = (newest_part a P O s.0, s.0) in
    let here : NewerPart a P O q some.0 = record { answer = s.0; says = s.1; part = refl } in
    record {
      some = some;
      holds = (here, s.1);
      only = λ x h. pair x some (newer_settled a P O q x.0 some.0 h.0 here, one_answer a P O q x.1 some.1 h.1 s.1);
    }

pub newer_place_one : NewerPlaceOne
newer_place_one a P O q corrected older =
    let s = newest_some a P O q in
    let lies = newest_place s.0 in
    let here : NewerLies a P O q corrected older lies.some = record { answer = s.0; says = s.1; lies = lies.holds } in
    record { some = lies.some; holds = here; only = λ x h. newer_place_settled a P O q corrected older x lies.some h here }
  where
    newest_place : (r : Result Newest Refusal) → One {X = ℕ × ℕ} (λ x. NewestLies r corrected older x)
    newest_place (Ok (Corrected p e)) = lies_one corrected p
    newest_place (Ok (OnRecord p e)) = lies_one older p
    newest_place (Ok Nowhere) = lies_one corrected 0
    newest_place (Err r) = lies_one corrected 0

-- a row that the plain matcher does not refuse can be searched with its own table and its own classes
pub plain_checked : (a : Alphabet) (w q : List ℕ) (p : ℕ) → plain_check a w q p ≡ Ok tt
    → (t : List ℕ) × (c : List ℕ) × Checked a (programme w t c) q × (p < length w)
plain_checked a w q p e =
    let old : Programme = programme w (table a.arities w) (classes a.arities w) in
    let b = build_one a old in
    let left : Programme = b.some.1 in
    let long : length w ≤ room old = omega (arith, length-table a.arities w, (class_of_row a.arities w).0) in
    let both = both_fine (row_check a w then pattern a.arities q) (position (length w) p) (sym (plain_left a w q p) ∙ e) in
    let same = left_row a old b.some.0 left long b.holds in
    let fine : search_check a left q ≡ (Ok tt) =
    search_left a old b.some.0 left long b.holds q ∙ ap (λ (l : List ℕ). row_check a l then pattern a.arities q) same ∙ both.0 in (
      left.table,
      left.classes,
      subst (λ (l : List ℕ). Checked a (programme l left.table left.classes) q) same (search_checked a left q fine),
      position_fine (length w) p both.1,
    )

plain_some : (a : Alphabet) (w q : List ℕ) (p : ℕ) → (r : Result Bool Refusal) × PlainSays a w q p r
plain_some a w q p = go (plain_check a w q p) refl
  where
    go : (c : Result ⊤ Refusal) → plain_check a w q p ≡ c → (r : Result Bool Refusal) × PlainSays a w q p r
    go (Err x) e = (Err x, e)
    go (Ok _) e = let c = plain_checked a w q p e in tells (comes_through w (table a.arities w) q p) refl (walk_right a (programme w c.0 c.1) q c.2 p c.3)
      where
        tells : (b : Bool) → comes_through w (table a.arities w) q p ≡ b → (comes_through w (table a.arities w) q p ≡ true) ↔ MatchesAt a w q p
            → (r : Result Bool Refusal) × PlainSays a w q p r
        tells true z m = (Ok true, (e, m.0 z))
        tells false z m = (Ok false, (e, λ x. (let d = m.1 x in let k : ◌≡◌ {A = ℕ} 0 1 = cc in omega arith)))

pub plain_one : PlainOne
plain_one a w q p =
    let s = plain_some a w q p in
    record { some = s.0; holds = s.1; only = λ r h. plain_settled a w q p r s.0 h s.1 }

-- ---- the first refusal in the order

-- an answer that is what a check makes of it says what the check refuses
pub through_answer : {X : Type 0} (said : X → Said) (r s : X) (k x : ℕ) (R : Type 0) → r ≡ s → (said s ≡ refused k x) ↔ R → (said r ≡ refused k x) ↔ R
through_answer said r s k x R e f = (λ h. f.0 (ap said (sym e) ∙ h), λ h. ap said e ∙ f.1 h)

pub build_order : BuildOrder
build_order a P r P' b k x = through_answer check_said r _ k x _ b.answer (check_said_lem (build_check a P) k x)

pub find_order : FindOrder
find_order a P q y r y' f k x =
    let n : ℕ = length f.positions in
    through_answer found_said r _ k x _ f.answer (found-said (find_check a P q n (length y)) n k x)

pub variables_order : VariablesOrder
variables_order a P q p y r y' b k x =
    through_answer bound_said r _ k x _ b.answer (bound-said (variables_check a P q p (length y)) b.matched k x)

pub replace_order : ReplaceOrder
replace_order a P n v p r P' o k x =
    through_answer replaced_said r _ k x _ o.answer (answered-said (replace_check a P n v p) (size (new_tree a P n v p)) n k x)

pub subtree_order : SubtreeOrder
unfolding subtree_answer
subtree_order a P p k x = placed-said (subtree_check a P p) p (get_or (table a.arities P.row) p 0) k x

-- a check that refuses, refuses so
refuses_is : (c : Result ⊤ Refusal) (r : Refusal) (k x : ℕ) → c ≡ Err r → refusal r ≡ refused k x → Refuses c k x
refuses_is c r k x e h = subst (λ (d : Result ⊤ Refusal). Refuses d k x) (sym e) ((refusal-said r k x).0 h)

refuses_some : (c : Result ⊤ Refusal) (k x : ℕ) → Refuses c k x → (r : Refusal) × (c ≡ Err r) × (refusal r ≡ refused k x)
refuses_some (Ok _) k x h = absurd h
refuses_some (Err r) k x h = (r, refl, (refusal-said r k x).1 h)

pub newer_order : NewerOrder
newer_order a P O q r h k x = (
  λ e. (let y = newest_refusal r k x e in refuses_is _ y.0 k x (subst (NewestSays a P O q) y.1 h) (ap newest_said (sym y.1) ∙ e)),
  λ z. (let y = refuses_some _ k x z in ap newest_said (one_answer a P O q r (Err y.0) h y.1) ∙ y.2),
)

pub plain_order : PlainOrder
plain_order a w q p r h k x = (
  λ e. (let y = fits_refusal r k x e in refuses_is _ y.0 k x (subst (PlainSays a w q p) y.1 h) (ap fits_said (sym y.1) ∙ e)),
  λ z. (let y = refuses_some _ k x z in ap fits_said (plain_settled a w q p r (Err y.0) h y.1) ∙ y.2),
)

pub find_short : FindShort
unfolding find_check output
find_short a P q y r y' f e ps l = (λ z. go (dec_lt (length y) (length ps)) z, λ h. (let short : r ≡ Err (OutputShort (length ps)) = answer ∙ rw (lt-ltb (length y) (length ps) h) refl in ap found_said short))
  where
    answer : r ≡ found (output (length ps) (length y)) (length ps)
    answer = (finds_list a P q y r y' f ps (λ e. l)).0 ∙ ap (λ (c : Result ⊤ Refusal). found (c then output (length ps) (length y)) (length ps)) e

    go : Dec (length y < length ps) → found_said r ≡ refused 19 (length ps) → length y < length ps
    go (yes h) z = h
    go (no h) z =
        let fits : r ≡ Ok (length ps) = answer ∙ rw (le-ltb (length y) (length ps) (omega arith)) refl in
        absurd (apart _ _ _ (sym z ∙ ap found_said fits))

-- ---- a refusal writes nothing

pub build_refused : BuildRefused
build_refused a P r P' b k x e = let y = check_refusal r k x e in build_kept a P y.0 P' (subst (λ (c : Result ⊤ Refusal). Built a P c P') y.1 b)

pub find_refused : FindRefused
find_refused a P q y r y' f k x e = let z = found-refusal r k x e in find_kept a P q y z.0 y' (subst (λ (c : Result ℕ Refusal). Finds a P q y c y') z.1 f)

pub variables_refused : VariablesRefused
variables_refused a P q p y r y' f k x e = let z = bound-refusal r k x e in variables-kept a P q p y z.0 y' (subst (λ (c : Result Bool Refusal). Binds a P q p y c y') z.1 f)

pub replace_refused : ReplaceRefused
replace_refused a P n v p r P' o k x e = let z = replaced_refusal r k x e in stayed a P n v p P' z.0 (subst (λ (c : Result (ℕ × ℤ) Refusal). Replacement a P n v p c P') z.1 o)

-- ---- what is kept is not the row's

-- what is left of 4 to 6 holds whose row it is
pub sizes_fine : (whose : Kept → Refusal) (n m : ℕ) → Fits n m → sizes whose n m ≡ Ok tt
unfolding sizes sized
sizes_fine whose n m f = simp (le-ltb n 1 f.some, le-ltb row_most n f.most, le-ltb m n f.room)

pub on_refuses : (c d : Result ⊤ Refusal) (k x : ℕ) → Refuses c k x → Refuses (c then d) k x
on_refuses c d k x h = (table-of-refusals.order c d k x).1 (inl h)

module _ (a : Alphabet) (P : Programme) (n : ℕ) where
  abbrev A : List ℕ
  A = a.arities

  abbrev w : List ℕ
  w = (front n P).row

  -- where 1 to 9 refuse nothing
  record Read : Type 0 where
    alphabet_fine : alphabet a ≡ Ok tt
    sizes_fit : sizes Row n (room P) ≡ Ok tt
    symbols_fine : symbols Row A w ≡ Ok tt
    table-room : length w ≤ length P.table
    class_room : length w ≤ length P.classes

  read_up_to : alphabet a then sizes Row n (room P) then symbols Row A w ≡ Ok tt → Read
  read_up_to e =
      let x = both_fine (alphabet a) (sizes Row n (room P) then symbols Row A w) e in
      let y = both_fine (sizes Row n (room P)) (symbols Row A w) x.1 in
      let fits = sizes_fits Row n (room P) y.0 in
      record {
        alphabet_fine = x.0;
        sizes_fit = y.0;
        symbols_fine = y.1;
        table-room = omega (arith, fits.room, length-take n P.row);
        class_room = omega (arith, fits.room, length-take n P.row);
      }

  -- and 10 neither
  entered : (p : ℕ) → MisclassedAt a P n p → Read × (fresh Row A w P.table ≡ Ok tt)
  entered p s =
      let b : (Result ⊤ Refusal) = fresh Row A w P.table in
      let x = both_fine (alphabet a then sizes Row n (room P) then symbols Row A w) b
      (then_assoc (alphabet a) (sizes Row n (room P) then symbols Row A w) b ∙ ap (λ (c : Result ⊤ Refusal). alphabet a then c) (then_assoc (sizes Row n (room P)) (symbols Row A w) b) ∙ s.earlier) in
      (read_up_to x.0, x.1)

  -- the chain of checks refuses it, whatever comes behind it
  pub wrong_given : (k p : ℕ) → WrongBeside a P n k p → Refuses (given a P n) k p
  unfolding given kept
  wrong_given k p (inl s) =
      let r = read_up_to s.1.earlier in
      rw (r.alphabet_fine, r.sizes_fit, r.symbols_fine)
      (on_refuses (fresh Row A w P.table) (classed Row A w P.classes) k p ((table-of-refusals.stale A w P.table k p r.table-room).1 (s.0, s.1.first)))
  wrong_given k p (inr s) =
      let r = entered p s.1 in
      rw (r.0.alphabet_fine, r.0.sizes_fit, r.0.symbols_fine, r.1) ((table-of-refusals.misclassed A w P.classes k p r.0.class_room).1 (s.0, s.1.first))

  -- that of the row on record likewise
  wrong_record : (k p : ℕ) → WrongBeside a P n k p → Refuses (kept RecordRow a P n) (40 + k) p
  unfolding kept symbols fresh
  wrong_record k p (inl s) =
      let r = read_up_to s.1.earlier in
      let whole = ap (as_kept RecordRow) (row_fine Row (verdict A (allowed Symbols A) 1 0 w) r.symbols_fine) in
      rw (sizes_fine RecordRow n (room P) (sizes_fits Row n (room P) r.sizes_fit), whole)
      (on_refuses (fresh RecordRow A w P.table) (classed RecordRow A w P.classes) (40 + k) p
      ((table-of-refusals.on_record_stale A w P.table (40 + k) p r.table-room).1 (ap (λ (j : ℕ). 40 + j) s.0, s.1.first)))
  wrong_record k p (inr s) =
      let r = entered p s.1 in
      let whole = ap (as_kept RecordRow) (row_fine Row (verdict A (allowed Symbols A) 1 0 w) r.0.symbols_fine) in
      let ends-fine = begins (λ j. RecordRow (Stale j)) (length (table A w)) (table A w) P.table (differs_whole (λ j. Row (Stale j)) 0 (table A w) P.table r.1) in
      rw (sizes_fine RecordRow n (room P) (sizes_fits Row n (room P) r.0.sizes_fit), whole, ends-fine)
      ((table-of-refusals.on_record_misclassed A w P.classes (40 + k) p r.0.class_room).1 (ap (λ (j : ℕ). 40 + j) s.0, s.1.first))

wrong_search : (a : Alphabet) (P : Programme) (q : List ℕ) (k p : ℕ) → WrongBeside a P (length P.row) k p → Refuses (search_check a P q) k p
unfolding search_check
wrong_search a P q k p s = on_refuses (given a P (length P.row)) (pattern a.arities q) k p (wrong_given a P (length P.row) k p s)

pub find_stale : FindStale
unfolding find_check
find_stale a P q y r y' k p f s =
    (find_order a P q y r y' f k p).1 (on_refuses (search_check a P q) (output (length f.positions) (length y)) k p (wrong_search a P q k p s))

pub variables_stale : VariablesStale
unfolding variables_check
variables_stale a P q x y r y' k p b s =
    (variables_order a P q x y r y' b k p).1
    (on_refuses (search_check a P q) (position (length P.row) x then output span_places (length y)) k p (wrong_search a P q k p s))

pub replace_stale : ReplaceStale
unfolding replace_check
replace_stale a P n v x r P' k p o s =
    (replace_order a P n v x r P' o k p).1
    (on_refuses (given a P n) (replacement a.arities v then position n x then grown (size (new_tree a P n v x)) (room P)) k p (wrong_given a P n k p s))

pub subtree_stale : SubtreeStale
unfolding subtree_check
subtree_stale a P x k p s = (subtree_order a P x k p).1 (on_refuses (given a P (length P.row)) (position (length P.row) x) k p (wrong_given a P (length P.row) k p s))

pub newer_refused : NewerRefused
unfolding newer_check
newer_refused a P O q r k x h z = (newer_order a P O q r h k x).1 (on_refuses (given a P (length P.row)) (kept RecordRow a O (length O.row) then pattern a.arities q) k x z)

pub newer_stale : NewerStale
unfolding newer_check
newer_stale a P O q r k p h = (
  λ s. newer_refused a P O q r k p h (wrong_given a P (length P.row) k p s),
  λ e s. (newer_order a P O q r h (40 + k) p).1 (rw e (on_refuses (kept RecordRow a O (length O.row)) (pattern a.arities q) (40 + k) p (wrong_record a O (length O.row) k p s))),
)
