-- A table and classes that were built are right, so a search after a build meets only the refusals of the pattern.
-- Assumes nothing.
use Rattle.std.specs.Prelude.{Result, Ok, Err, ⊤}
use Prim.Native.Nat.{ℕ, ◌+◌, ◌≤◌, min}
use mathlib.Core.Path.{◌≡◌, refl, sym, ap, ◌∙◌}
use mathlib.Core.List.{List}
use mathlib.Core.Bool.{Bool, true, false}
use native.Mathlib.Omega.{arith}
use borrow.Author.Tests.{ltb-false, le-ltb}
use lib.Dec.{ltb}
use lib.ListN.{length, drop, take, replicate, length-replicate}
use lib.Seq.{take-length}
use Rattle.rows.specs.Limits.{row_most}
use Rattle.rows.specs.Programme.{alphabet_of, programme, room}
use Rattle.rows.specs.Row.{pick, sized}
use Rattle.rows.specs.Parse.{table}
use Rattle.rows.specs.Classes.{classes}
use Rattle.rows.specs.Buffers.{written}
use Rattle.rows.specs.Refusals.{◌then◌, refuse_if, as_kept, alphabet, sizes, symbols, fresh, classed, kept, given, pattern, output}
use Rattle.rows.specs.declared.Fault.TheVariants.{Empty, Long}
use Rattle.rows.specs.declared.Kept.TheVariants.{Short, Stale, Misclassed}
use Rattle.rows.specs.declared.Refusal.{Refusal}
use Rattle.rows.specs.declared.Refusal.TheVariants.{Row}
use Rattle.rows.proofs.Buffers.{length-written, written-front}
use Rattle.rows.proofs.Entry.{length-table}
use Rattle.rows.proofs.Classes.{class_of_row}
use Rattle.rows.proofs.Differ.{differs_same}
use Rattle.rows.proofs.Passing.{both_fine, sizes_fits}
use Rattle.patterns.specs.Answers.{Listed}
use Rattle.patterns.specs.Searchable.{Checked}
use Rattle.patterns.specs.Walk.{list_of}
use Rattle.patterns.proofs.Promises.{walk_lists}
use Rattle.searches.proofs.Counting.{listed_length}
use Rattle.checks.specs.Checks.{build_check, search_check, find_check}
use Rattle.checks.proofs.Passing.{search_checked}
use Rattle.sparrowhem.specs.Build.{Built, built}
use Rattle.sparrowhem.specs.Search.{Finds}
use Rattle.seek_text.specs.Seek.{seek_check}
use Rattle.seek_text.specs.Inside.{Searched}

-- lists of 16,384 places are never too short
sizes_roomy : (n m : ℕ) → row_most ≤ m → sizes Row n (min n m) ≡ as_kept Row (sized n row_most)
unfolding sizes sized
sizes_roomy n m h = go (ltb n 1) (ltb row_most n) refl
  where
    go : (a b : Bool) → ltb row_most n ≡ b
        → as_kept Row (pick a (Err Empty) (pick b (Err (Long n)) (Ok tt))) then refuse_if (ltb (min n m) n) (Row (Short n)) ≡ as_kept Row (pick a (Err Empty) (pick b (Err (Long n)) (Ok tt)))
    go true b e = refl
    go false true e = refl
    go false false e = let l = ltb-false row_most n e in rw (le-ltb (min n m) n (omega arith))

-- the refusals of a build, and then the pattern's
seek_is : (A w t c q : List ℕ) → row_most ≤ length t → row_most ≤ length c → seek_check A w q ≡ build_check (alphabet_of A) (programme w t c) then pattern A q
unfolding seek_check build_check
seek_is A w t c q h k = rw (sizes_roomy (length w) (min (length t) (length c)) (omega arith)) (go (alphabet (alphabet_of A)) (as_kept Row (sized (length w) row_most)) (symbols Row A w) (pattern A q))
  where
    go : (a b c d : Result ⊤ Refusal) → a then b then c then d ≡ (a then b then c) then d
    go (Ok _) (Ok _) (Ok _) d = refl
    go (Ok _) (Ok _) (Err r) d = refl
    go (Ok _) (Err r) c d = refl
    go (Err r) b c d = refl

module _ (A w t c : List ℕ) (e : build_check (alphabet_of A) (programme w t c) ≡ Ok tt) where
  built_lengths : (length (written t 0 (table A w)) ≡ length t) × (length (written c 0 (classes A w)) ≡ length c)
  unfolding build_check
  built_lengths =
      let s = (both_fine (sizes Row (length w) (room (programme w t c))) (symbols Row A w) (both_fine (alphabet (alphabet_of A)) (sizes Row (length w) (room (programme w t c)) then symbols Row A w) e).1).0 in
      let r = (sizes_fits Row (length w) (room (programme w t c)) s).room in (
        length-written t 0 (table A w) (omega (arith, length-table A w)),
        length-written c 0 (classes A w) (omega (arith, (class_of_row A w).0)),
      )

  built-fresh : fresh Row A w (written t 0 (table A w)) ≡ Ok tt
  unfolding fresh written
  built-fresh = differs_same (λ k. Row (Stale k)) 0 (table A w) (drop (0 + length (table A w)) t)

  built-classed : classed Row A w (written c 0 (classes A w)) ≡ Ok tt
  unfolding classed written
  built-classed = differs_same (λ k. Row (Misclassed k)) 0 (classes A w) (drop (0 + length (classes A w)) c)

  built-given : given (alphabet_of A) (built (alphabet_of A) (programme w t c)) (length w) ≡ Ok tt
  unfolding given kept build_check
  built-given =
      let a = both_fine (alphabet (alphabet_of A)) (sizes Row (length w) (room (programme w t c)) then symbols Row A w) e in
      let b = both_fine (sizes Row (length w) (room (programme w t c))) (symbols Row A w) a.1 in
      rw (a.0, built_lengths.0, built_lengths.1, b.0, take-length w, b.1, built-fresh) built-classed

  built_search : (q : List ℕ) → search_check (alphabet_of A) (built (alphabet_of A) (programme w t c)) q ≡ pattern A q
  unfolding search_check
  built_search q = rw built-given

module _ (A w q t t' c c' y y' : List ℕ) (room : row_most ≤ length t) (class_room : row_most ≤ length c) (places : row_most ≤ length y) where
  pub searched_refused : (r : Refusal) → Built (alphabet_of A) (programme w t c) (Err r) (programme w t' c') → seek_check A w q ≡ Err r
  searched_refused r b = seek_is A w t c q room class_room ∙ ap (λ x. x then pattern A q) (sym b.answer)

  module _ (b : Built (alphabet_of A) (programme w t c) (Ok tt) (programme w t' c')) (r : Result ℕ Refusal) (f : Finds (alphabet_of A) (programme w t' c') q y r y') where
    fine : build_check (alphabet_of A) (programme w t c) ≡ Ok tt
    fine = sym b.answer

    check_is : search_check (alphabet_of A) (programme w t' c') q ≡ pattern A q
    check_is =
        let e : programme w t' c' ≡ built (alphabet_of A) (programme w t c) = b.lists ∙ rw fine in
        rw e (built_search A w t c fine q)

    seek_check_lem : seek_check A w q ≡ pattern A q
    seek_check_lem = seek_is A w t c q room class_room ∙ ap (λ x. x then pattern A q) fine

    no_pattern : (x : Refusal) → pattern A q ≡ Err x → Searched A w q r t' c' y'
    unfolding find_check
    no_pattern x e =
        let done : find_check (alphabet_of A) (programme w t' c') q (length f.positions) (length y) ≡ Err x = rw (check_is, e) in
        let g : r ≡ Err x = f.answer ∙ rw done in
        rw g (seek_check_lem ∙ e)

    all_found : pattern A q ≡ Ok tt → Searched A w q r t' c' y'
    unfolding find_check output
    all_found e =
        let s : search_check (alphabet_of A) (programme w t' c') q ≡ (Ok tt) = check_is ∙ e in
        let k : Checked (alphabet_of A) (programme w t' c') q = search_checked (alphabet_of A) (programme w t' c') q s in
        let l : Listed (alphabet_of A) w q (length w) f.positions = f.listed s in
        let n : length f.positions ≤ row_most = omega (arith, listed_length (alphabet_of A) (programme w t' c') q k (length w) f.positions (omega arith) l, k.row.sized.most) in
        let m : length f.positions ≤ length y = omega arith in
        let done : find_check (alphabet_of A) (programme w t' c') q (length f.positions) (length y) ≡ (Ok tt) = rw (s, le-ltb (length y) (length f.positions) m) in
        let g : r ≡ Ok (length f.positions) = f.answer ∙ rw done in
        let z : y' ≡ written y 0 f.positions = f.output ∙ rw done in
        let p : take (length f.positions) y' ≡ f.positions = rw z (written-front y f.positions) in
        rw g (record {
          fine = seek_check_lem ∙ e;
          count = rw z (omega (arith, length-written y 0 f.positions (omega arith)));
          few = n;
          ready = record { checked = k; listed = rw p l };
        })

    pub searched : Searched A w q r t' c' y'
    searched = go (pattern A q) refl
      where
        go : (x : Result ⊤ Refusal) → pattern A q ≡ x → Searched A w q r t' c' y'
        go (Ok _) e = all_found e
        go (Err x) e = no_pattern x e

-- where nothing is refused, the list of all matches is there: any lists with room enough serve
listed_by : (A w q t c : List ℕ) → row_most ≤ length t → row_most ≤ length c → seek_check A w q ≡ Ok tt → Listed (alphabet_of A) w q (length w) (list_of (alphabet_of A) w q)
listed_by A w q t c h k e =
    let both = both_fine (build_check (alphabet_of A) (programme w t c)) (pattern A q) (sym (seek_is A w t c q h k) ∙ e) in
    let P = built (alphabet_of A) (programme w t c) in
    walk_lists (alphabet_of A) P q (search_checked (alphabet_of A) P q (built_search A w t c both.0 q ∙ both.1))

pub fine_listed : (A w q : List ℕ) → seek_check A w q ≡ Ok tt → Listed (alphabet_of A) w q (length w) (list_of (alphabet_of A) w q)
fine_listed A w q e =
    let room : List ℕ = replicate {A = ℕ} row_most 0 in
    let long : row_most ≤ length room = omega (arith, length-replicate {A = ℕ} row_most 0) in
    listed_by A w q room room long long e
