-- Rows that are held with their tables and classes, and what a replacement makes of them.
-- Assumes nothing.
use Rattle.std.specs.Prelude.{Result, Ok, Err, ⊤}
use Prim.Native.Nat.{ℕ, ◌+◌, ◌≤◌, ◌<◌}
use mathlib.Core.Path.{◌≡◌, refl, sym, ap, ◌∙◌, subst}
use mathlib.Core.List.{List, [], ◌++◌, append-nil}
use native.Mathlib.Omega.{arith}
use lib.ListN.{length, take, drop, take-append-drop, length-take}
use lib.Seq.{length-take-le}
use lib.IntN.{ℤ, pos, ◌-ℤ◌}
use borrow.Author.Tests.{le-ltb}
use Rattle.rows.specs.Limits.{row_most, freed_symbol, freed_entry, freed_class}
use Rattle.rows.specs.Programme.{Alphabet, Programme, room, front}
use Rattle.rows.specs.Tree.{Forest, single, size, count, prefix, ends, Ranked}
use Rattle.rows.specs.Parse.{parse, tree_of, table}
use Rattle.rows.specs.Classes.{classes_of, classes}
use Rattle.rows.specs.Row.{verdict, allowed, sized}
use Rattle.rows.specs.Buffers.{written, after}
use Rattle.rows.specs.Refusals.{◌then◌, alphabet, sizes, symbols, differs, fresh, classed, kept, given}
use Rattle.rows.specs.declared.Leaves.TheVariants.{Symbols}
use Rattle.rows.specs.declared.Kept.TheVariants.{Stale, Misclassed}
use Rattle.rows.specs.declared.Refusal.{Refusal}
use Rattle.rows.specs.declared.Refusal.TheVariants.{Row}
use Rattle.rows.proofs.Tree.{length-prefix, length-ends}
use Rattle.rows.proofs.Parse.{prefix-parse, size-parse, parse-prefix}
use Rattle.rows.proofs.Accept.{verdict_forest, count-parse, ranked_parse, row_of_whole, parse_whole}
use Rattle.rows.proofs.Buffers.{written-front, length-written}
use Rattle.rows.proofs.Scan.{verdict_whole}
use Rattle.rows.proofs.Entry.{length-table, same_end}
use Rattle.rows.proofs.Passing.{both_fine, sizes_fits, below}
use Rattle.rows.proofs.Alike.{length-classes}
use Rattle.rows.proofs.Classes.{class_of_row}
use Rattle.rows.proofs.Differ.{differs_same}
use Rattle.buffers.proofs.Renewed.{take-renewed, length-renewed}
use Rattle.edits.proofs.Put.{put_count, put_ranked, put-below}
use Rattle.checks.specs.Checks.{build_check, replace_check}
use Rattle.checks.proofs.Building.{build_fillable}
use Rattle.checks.proofs.Replacing.{given_held, replace_held, replace_able, replace_classes}
use Rattle.sparrowhem.specs.Build.{Built}
use Rattle.sparrowhem.specs.Edit.{new_tree, holding, answered, Replacement}
use Rattle.promises.proofs.Calls.{build_fine}
use Rattle.promises.proofs.Said.{ok_pair}

-- ---- held rows

-- the first n places of the row's buffer are the row of the tree f, those of the table its table and those of the classes its classes;
-- and no call with that row length refuses them
pub record Holds (a : Alphabet) (P : Programme) (n : ℕ) (f : Forest) : Type 0 where
  pub tree : parse a.arities (take n P.row) ≡ f
  pub row_is : take n P.row ≡ prefix f
  pub table_is : take n P.table ≡ ends 0 f
  pub classes_are : take n P.classes ≡ classes_of f
  pub fine : given a P n ≡ Ok tt

alphabet_fine : (a : Alphabet) (P : Programme) (n : ℕ) → given a P n ≡ Ok tt → alphabet a ≡ Ok tt
unfolding given
alphabet_fine a P n e = (both_fine (alphabet a) (kept Row a P n) e).0

-- a list whose first n places are another does not differ from it
pub begins : (wrong : ℕ → Refusal) (n : ℕ) (l t : List ℕ) → take n t ≡ l → differs wrong 0 l t ≡ Ok tt
begins wrong n l t e =
    ap (differs wrong 0 l) (sym (take-append-drop n t) ∙ ap (λ (x : List ℕ). x ++ drop n t) e) ∙ differs_same wrong 0 l (drop n t)

-- a ranked forest of one tree, at the front of the row's buffer, with its table and its classes
pub held_forest : (a : Alphabet) (P : Programme) (n : ℕ) (f : Forest) → alphabet a ≡ Ok tt → n ≤ row_most → n ≤ room P → 0 < n
    → Ranked a.arities (allowed Symbols a.arities) f → count f ≡ 1 → take n P.row ≡ prefix f → take n P.table ≡ ends 0 f → take n P.classes ≡ classes_of f → Holds a P n f
unfolding given kept sizes sized symbols fresh classed table classes count
held_forest a P n f alpha most fits some ranked one reads tabled named =
    let A : List ℕ = a.arities in
    let ok = allowed Symbols A in
    let w : List ℕ = take n P.row in
    let t : List ℕ = P.table in
    let tree : parse A w ≡ f = ap (parse A) reads ∙ parse-prefix A ok f ranked in
    let whole : verdict A ok 1 0 w ≡ (Ok tt) =
    ap (verdict A ok 1 0) (reads ∙ sym (append-nil (prefix f)))
    ∙ ap (λ (k : ℕ). verdict A ok k 0 (prefix f ++ [])) (omega arith)
    ∙ verdict_forest A ok f 0 0 [] ranked
    ∙ verdict_whole A ok (0 + size f) in
    let right : differs (λ k. Row (Stale k)) 0 (ends 0 (parse A w)) t ≡ (Ok tt) = begins (λ k. Row (Stale k)) n (ends 0 (parse A w)) t (tabled ∙ ap (ends 0) (sym tree)) in
    let classed-right : differs (λ k. Row (Misclassed k)) 0 (classes_of (parse A w)) P.classes ≡ (Ok tt) =
    begins (λ k. Row (Misclassed k)) n (classes_of (parse A w)) P.classes (named ∙ ap classes_of (sym tree)) in
    record {
      tree = tree;
      row_is = reads;
      table_is = tabled;
      classes_are = named;
      fine = simp (alpha, le-ltb n 1 (omega arith), le-ltb row_most n most, le-ltb (room P) n fits, whole, right, classed-right);
    }

-- an accepted row with its built table and classes is held
pub built-holds : (a : Alphabet) (T P : Programme) (n : ℕ) → Built a T (Ok tt) (front n P) → length T.row ≡ n
    → Holds a P n (parse a.arities T.row)
unfolding build_check table classes
built-holds a T P n b long =
    let A : List ℕ = a.arities in
    let ok = allowed Symbols A in
    let w : List ℕ = T.row in
    let fine = sym b.answer in
    let x = both_fine (alphabet a) (sizes Row (length w) (room T) then symbols Row A w) fine in
    let fits = sizes_fits Row (length w) (room T) (both_fine (sizes Row (length w) (room T)) (symbols Row A w) x.1).0 in
    let can = build_fillable a T fine in
    let now = build_fine a T (front n P) b in
    let row_now : take n P.row ≡ w = ap (λ (x : Programme). x.row) now in
    let table_now : P.table ≡ written T.table 0 (table A w) = ap (λ (x : Programme). x.table) now in
    let classes_now : P.classes ≡ written T.classes 0 (classes A w) = ap (λ (x : Programme). x.classes) now in
    let lt = length-table A w in
    let lc = (class_of_row A w).0 in
    let same : length P.table ≡ length T.table = ap length table_now ∙ length-written T.table 0 (table A w) (omega (arith, fits.room)) in
    let same-too : length P.classes ≡ length T.classes = ap length classes_now ∙ length-written T.classes 0 (classes A w) (omega (arith, fits.room)) in
    let within : n ≤ length P.row = omega (arith, ap length row_now, long, length-take n P.row) in
    held_forest a P n (parse A w)
    x.0
    (omega (arith, fits.most))
    (omega (arith, fits.room))
    (omega (arith, fits.some))
    (ranked_parse A ok w 1 0 can.accepted)
    (count-parse A ok w 1 0 can.accepted)
    (row_now ∙ sym (prefix-parse A w))
    (ap (take n) table_now ∙ ap (λ (k : ℕ). take k (written T.table 0 (table A w))) (sym (lt ∙ long)) ∙ written-front T.table (table A w))
    (ap (take n) classes_now ∙ ap (λ (k : ℕ). take k (written T.classes 0 (classes A w))) (sym (lc ∙ long)) ∙ written-front T.classes (classes A w))

-- so a held row has one length only
pub held_once : (a : Alphabet) (P : Programme) (n k : ℕ) → given a P n ≡ Ok tt → given a P k ≡ Ok tt → n ≡ k
held_once a P n k e d =
    let A : List ℕ = a.arities in
    let ok = allowed Symbols A in
    let f = given_held a P n e in
    let g = given_held a P k d in
    let x = row_of_whole A ok (take n P.row) f.order.row.accepted in
    let y = row_of_whole A ok (take k P.row) g.order.row.accepted in
    below n k
    (λ h. same_end A ok ok P.row n k (omega arith) (omega (arith, g.fits)) x y)
    (λ h. sym (same_end A ok ok P.row k n h (omega (arith, f.fits)) y x))

-- ---- outcomes

-- what an answer that is no refusal tells
pub record Went (a : Alphabet) (P : Programme) (n : ℕ) (v : List ℕ) (p m : ℕ) (change : ℤ) (P' : Programme) : Type 0 where
  pub fine : replace_check a P n v p ≡ Ok tt
  pub length_is : m ≡ size (new_tree a P n v p)
  pub change_is : change ≡ pos m -ℤ pos n
  pub lists : P' ≡ holding P n (new_tree a P n v p)

module _ (a : Alphabet) (P : Programme) (n : ℕ) (v : List ℕ) (p : ℕ) (P' : Programme) where
  abbrev F : Forest
  F = new_tree a P n v p

  -- where nothing is refused, the answer is the new length and the change
  pub goes : (r : Result (ℕ × ℤ) Refusal) → replace_check a P n v p ≡ Ok tt → Replacement a P n v p r P'
      → (r ≡ Ok ((size F), (pos (size F) -ℤ pos n))) × Went a P n v p (size F) (pos (size F) -ℤ pos n) P'
  goes r e o = (
    o.answer ∙ ap (λ (c : Result ⊤ Refusal). answered c (size F) n) e,
    record { fine = e; length_is = refl; change_is = refl; lists = o.lists ∙ ap (λ (c : Result ⊤ Refusal). after c (holding P n F) P) e },
  )

  pub went : (m : ℕ) (change : ℤ) → Replacement a P n v p (Ok (m, change)) P' → Went a P n v p m change P'
  went m change o =
      let fine = go (replace_check a P n v p) refl o.answer in
      let g = goes (Ok (m, change)) fine o in
      let same = ok_pair g.0 in
      let long : m ≡ size F = same.0 in
      let by : change ≡ pos (size F) -ℤ pos n = same.1 in
      record {
        fine = fine;
        length_is = long;
        change_is = by ∙ ap (λ (k : ℕ). pos k -ℤ pos n) (sym long);
        lists = g.1.lists;
      }
    where
      go : (c : Result ⊤ Refusal) → replace_check a P n v p ≡ c → Ok (m, change) ≡ answered c (size F) n → replace_check a P n v p ≡ Ok tt
      go (Ok _) e is = e
      go (Err r) e is = let z : ◌≡◌ {A = ℕ} 0 1 = cc in absurd (omega arith)

  pub stayed : (r : Refusal) → Replacement a P n v p (Err r) P' → P' ≡ P
  stayed r o = go (replace_check a P n v p) refl o.answer
    where
      go : (c : Result ⊤ Refusal) → replace_check a P n v p ≡ c → Err r ≡ answered c (size F) n → P' ≡ P
      go (Ok _) e is = let z : ◌≡◌ {A = ℕ} 0 1 = cc in absurd (omega arith)
      go (Err q) e is = o.lists ∙ ap (λ (c : Result ⊤ Refusal). after c (holding P n F) P) e

  module _ (m : ℕ) (change : ℤ) (w : Went a P n v p m change P') where
    abbrev A : List ℕ
    A = a.arities

    pub row_now : P'.row ≡ (holding P n F).row
    row_now = ap (λ (x : Programme). x.row) w.lists

    pub table_now : P'.table ≡ (holding P n F).table
    table_now = ap (λ (x : Programme). x.table) w.lists

    pub classes_now : P'.classes ≡ (holding P n F).classes
    classes_now = ap (λ (x : Programme). x.classes) w.lists

    -- the lists keep their length, and the old row fits them
    pub same_lengths : (length P'.row ≡ length P.row) × (length P'.table ≡ length P.table) × (length P'.classes ≡ length P.classes) × (n ≤ room P)
    same_lengths =
        let r = replace_able a P n v p w.fine in
        let c = replace_classes a P n v p w.fine in
        let lt : n ≤ length P.table = omega (arith, r.right.sized.fits, length-take-le n P.row r.within) in (
          ap length row_now ∙ length-renewed P.row n freed_symbol (prefix F) r.within (omega (arith, length-prefix F, r.row_room)),
          ap length table_now ∙ length-renewed P.table n freed_entry (ends 0 F) lt (omega (arith, length-ends 0 F, r.table-room)),
          ap length classes_now ∙ length-renewed P.classes n freed_class (classes_of F) c.old (omega (arith, length-classes F, c.new)),
          omega (arith, r.within, lt, c.old),
        )

    -- the lists hold the changed tree
    pub holds-changed : Holds a P' m F
    holds-changed =
        let ok = allowed Symbols A in
        let r = replace_able a P n v p w.fine in
        let c = replace_classes a P n v p w.fine in
        let old : List ℕ = take n P.row in
        let G = parse A old in
        let u = tree_of A v in
        let ranked-u : Ranked A ok (single u) = subst (Ranked A ok) (parse_whole A ok v r.accepted) (ranked_parse A ok v 1 0 r.accepted) in
        let lp = length-prefix F in
        let le = length-ends 0 F in
        let i : p < size G = omega (arith, r.position, size-parse A old, length-take-le n P.row r.within) in
        let long = same_lengths in
        held_forest a P' m F
        (alphabet_fine a P n (replace_held a P n v p w.fine))
        (omega (arith, w.length_is, r.most))
        (omega (arith, w.length_is, r.row_room, r.table-room, c.new, long.0, long.1, long.2))
        (omega (arith, w.length_is, put-below u G p i))
        (put_ranked A ok u ranked-u G p (ranked_parse A ok old 1 0 r.right.accepted))
        (put_count u G p ∙ count-parse A ok old 1 0 r.right.accepted)
        (ap (take m) row_now ∙ take-renewed P.row n freed_symbol (prefix F) m (lp ∙ sym w.length_is))
        (ap (take m) table_now ∙ take-renewed P.table n freed_entry (ends 0 F) m (le ∙ sym w.length_is))
        (ap (take m) classes_now ∙ take-renewed P.classes n freed_class (classes_of F) m (length-classes F ∙ sym w.length_is))
