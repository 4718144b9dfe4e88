-- What a sheet makes of what its checks leave.
-- Assumes nothing.
use Rattle.std.specs.Prelude.{Result, Ok, Err, ⊤}
use Prim.Native.Nat.{ℕ, ◌*◌, ◌≤◌, ◌<◌}
use mathlib.Core.Path.{◌≡◌, refl, sym, ap, ap₂, ◌∙◌, subst}
use mathlib.Core.List.{List}
use native.Mathlib.Omega.{arith}
use borrow.Author.Tests.{lt-ltb, le-ltb}
use lib.ListN.{length}
use Rattle.rows.specs.Limits.{result_places}
use Rattle.rows.specs.Programme.{Alphabet, Programme}
use Rattle.rows.specs.Sheet.{pattern_at, laid}
use Rattle.rows.specs.Buffers.{written, after}
use Rattle.rows.specs.Refusals.{◌then◌, given, pattern, sheet, output}
use Rattle.rows.specs.declared.Refusal.{Refusal}
use Rattle.rows.specs.declared.Refusal.TheVariants.{OutputShort}
use Rattle.rows.proofs.Passing.{both_fine, output_fine, sheet-laid}
use Rattle.rows.proofs.Sheet.{laid_same}
use Rattle.patterns.proofs.Promises.{one_list}
use Rattle.checks.specs.Checks.{results_check, sheet_check}
use Rattle.sheets.specs.Result.{result_of}
use Rattle.sheets.specs.Sheets.{result, positions_of, results_of, Answerable, SheetTold}
use Rattle.sheets.proofs.Sheets.{alone_listed, alone-refused}
use Rattle.sparrowhem.proofs.Searching.{counted}
use Rattle.sparrowhem.specs.Sheet.{sheet_found, Positions, all_positions, all_results, SheetAnswers}

-- n numbers have room in m places, or not
output-room : (n m : ℕ) → n ≤ m → output n m ≡ Ok tt
unfolding output
output-room n m h = rw (le-ltb m n h) refl

output_none : (n m : ℕ) → m < n → output n m ≡ Err (OutputShort n)
unfolding output
output_none n m h = rw (lt-ltb m n h) refl

module _ (a : Alphabet) (P : Programme) (qs ls y z : List ℕ) where
  -- the positions of all patterns, computed, their results, and what the sheet then refuses
  abbrev pub every : List ℕ
  every = laid (positions_of a P.row qs ls) (length ls)

  abbrev pub threes : List ℕ
  threes = laid (results_of a P.row qs ls) (length ls)

  abbrev pub computed : Result ⊤ Refusal
  computed = sheet_check a P qs ls (length z) (length every) (length y)

  -- what the checks leave
  module _ (e : results_check a P qs ls (length z) ≡ Ok tt) where
    pub sheet-given : given a P (length P.row) ≡ Ok tt
    unfolding results_check
    sheet-given = (both_fine (given a P (length P.row)) (sheet ls (length qs) then output (result_places * length ls) (length z)) e).0

    pub sheet_answerable : Answerable a P qs ls z
    unfolding results_check
    sheet_answerable =
        let both = both_fine (given a P (length P.row)) (sheet ls (length qs) then output (result_places * length ls) (length z)) e in
        let rest = both_fine (sheet ls (length qs)) (output (result_places * length ls) (length z)) both.1 in
        let fits = sheet-laid ls (length qs) rest.0 in
        record { given = both.0; few = fits.most; sum = fits.sum; room = output_fine (result_places * length ls) (length z) rest.1 }

  each_alone : results_check a P qs ls (length z) ≡ Ok tt → (i : ℕ) → i < length ls → Positions a P.row (pattern_at qs ls i) (positions_of a P.row qs ls i)
  each_alone e i h =
      record {
        listed = λ f. alone_listed a P (sheet-given e) (pattern_at qs ls i) f;
        refused = λ x f. alone-refused a P (sheet-given e) (pattern_at qs ls i) x f;
      }

  same_results : all_results a qs ls (positions_of a P.row qs ls) ≡ threes
  unfolding result
  same_results = laid_same _ _ (length ls) (λ i h. refl)

  -- what is computed answers the sheet
  pub sheet_answers : (r : Result (ℕ × ℕ) Refusal) (y' z' : List ℕ) → r ≡ sheet_found computed (length ls) (length every) → y' ≡ after computed (written y 0 every) y
      → z' ≡ after computed (written z 0 threes) z → SheetAnswers a P qs ls y z r y' z'
  sheet_answers r y' z' is p t =
      record {
        positions = positions_of a P.row qs ls;
        each = each_alone;
        answer = is;
        output = p;
        results = t ∙ ap (λ (l : List ℕ). after computed (written z 0 l) z) (sym same_results);
      }

  -- after the checks the first output counts
  then_output : (c : Result ⊤ Refusal) → results_check a P qs ls (length z) ≡ c → computed ≡ (c then output (length every) (length y))
  unfolding sheet_check
  then_output c e = ap (λ (d : Result ⊤ Refusal). d then output (length every) (length y)) e

  pub sheet_refused : (r : Result (ℕ × ℕ) Refusal) (x : Refusal) → r ≡ Err x → results_check a P qs ls (length z) ≡ Err x → SheetAnswers a P qs ls y z r y z
  sheet_refused r x is e =
      let c : computed ≡ Err x = then_output (Err x) e in
      sheet_answers r y z (is ∙ sym (ap (λ (d : Result ⊤ Refusal). sheet_found d (length ls) (length every)) c)) (sym (ap (λ (d : Result ⊤ Refusal). after d (written y 0 every) y) c)) (sym (ap (λ (d : Result ⊤ Refusal). after d (written z 0 threes) z) c))

  module _ (e : results_check a P qs ls (length z) ≡ Ok tt) (n : ℕ) (r : Result ℕ ℕ) (y' z' : List ℕ) (l : SheetTold every threes y z r y' z') where
    pub sheet_all : r ≡ Ok n → SheetAnswers a P qs ls y z (Ok ((length ls), n)) y' z'
    sheet_all d =
        let t = subst (λ (x : Result ℕ ℕ). SheetTold every threes y z x y' z') d l in
        let c : computed ≡ (Ok tt) = then_output (Ok tt) e ∙ output-room (length every) (length y) (omega (arith, t.0, t.1)) in
        sheet_answers (Ok ((length ls), n)) y' z'
        (ap (λ (x : ℕ). Ok (length ls, x)) t.0 ∙ sym (ap (λ (x : Result ⊤ Refusal). sheet_found x (length ls) (length every)) c))
        (t.2 ∙ sym (ap (λ (x : Result ⊤ Refusal). after x (written y 0 every) y) c))
        (t.3 ∙ sym (ap (λ (x : Result ⊤ Refusal). after x (written z 0 threes) z) c))

    pub sheet_needs : r ≡ Err n → SheetAnswers a P qs ls y z (Err (OutputShort n)) y' z'
    sheet_needs d =
        let t = subst (λ (x : Result ℕ ℕ). SheetTold every threes y z x y' z') d l in
        let c : computed ≡ Err (OutputShort n) = then_output (Ok tt) e ∙ output_none (length every) (length y) (omega (arith, t.0, t.1)) ∙ ap (λ (k : ℕ). Err (OutputShort k)) (sym t.0) in
        sheet_answers (Err (OutputShort n)) y' z'
        (sym (ap (λ (x : Result ⊤ Refusal). sheet_found x (length ls) (length every)) c))
        (t.2 ∙ sym (ap (λ (x : Result ⊤ Refusal). after x (written y 0 every) y) c))
        (t.3 ∙ sym (ap (λ (x : Result ⊤ Refusal). after x (written z 0 threes) z) c))

  -- the same, by what is counted
  module _ (e : results_check a P qs ls (length z) ≡ Ok tt) (r : Result ℕ ℕ) (y' z' : List ℕ) (l : SheetTold every threes y z r y' z') where
    pub sheet_counted : (n : ℕ) → counted r ≡ Ok n → SheetAnswers a P qs ls y z (Ok (length ls, n)) y' z'
    sheet_counted n d = sheet_all e n r y' z' l (go r d)
      where
        go : (r : Result ℕ ℕ) → counted r ≡ Ok n → r ≡ Ok n
        go (Ok k) d = cc
        go (Err k) d = cc

    pub sheet_short : (s : Result (ℕ × ℕ) Refusal) (x : Refusal) → s ≡ Err x → counted r ≡ Err x → SheetAnswers a P qs ls y z s y' z'
    sheet_short s x is d = go r refl d
      where
        go : (k : Result ℕ ℕ) → r ≡ k → counted k ≡ Err x → SheetAnswers a P qs ls y z s y' z'
        go (Ok n) f d = let z : ◌≡◌ {A = ℕ} 0 1 = cc in absurd (omega arith)
        go (Err n) f d =
            let x-is : x ≡ OutputShort n = cc in
            let same : s ≡ Err (OutputShort n) = is ∙ ap Err x-is in
            subst (λ (t : Result (ℕ × ℕ) Refusal). SheetAnswers a P qs ls y z t y' z') (sym same) (sheet_needs e n r y' z' l f)

-- WHAT AN ANSWER TELLS: it is the computed one
module _ (a : Alphabet) (P : Programme) (qs ls y z : List ℕ) (r : Result (ℕ × ℕ) Refusal) (y' z' : List ℕ) (s : SheetAnswers a P qs ls y z r y' z') where
  same_position : results_check a P qs ls (length z) ≡ Ok tt → (i : ℕ) → i < length ls → s.positions i ≡ positions_of a P.row qs ls i
  same_position e i h = go (pattern a.arities (pattern_at qs ls i)) refl
    where
      go : (c : Result ⊤ Refusal) → pattern a.arities (pattern_at qs ls i) ≡ c → s.positions i ≡ positions_of a P.row qs ls i
      go (Ok _) f =
          one_list a P.row (pattern_at qs ls i) (length P.row) (s.positions i) _ ((s.each e i h).listed f)
          (alone_listed a P (sheet-given a P qs ls y z e) (pattern_at qs ls i) f)
      go (Err x) f = (s.each e i h).refused x f ∙ sym (alone-refused a P (sheet-given a P qs ls y z e) (pattern_at qs ls i) x f)

  pub sheet_computed : (r ≡ sheet_found (computed a P qs ls y z) (length ls) (length (every a P qs ls y z)))
      × (y' ≡ after (computed a P qs ls y z) (written y 0 (every a P qs ls y z)) y)
      × (z' ≡ after (computed a P qs ls y z) (written z 0 (threes a P qs ls y z)) z)
  unfolding sheet_check result
  sheet_computed = go (results_check a P qs ls (length z)) refl s.answer s.output s.results
    where
      go : (c : Result ⊤ Refusal) → results_check a P qs ls (length z) ≡ c
          → r ≡ sheet_found (c then output (length (all_positions ls s.positions)) (length y)) (length ls) (length (all_positions ls s.positions))
          → y' ≡ after (c then output (length (all_positions ls s.positions)) (length y)) (written y 0 (all_positions ls s.positions)) y
          → z' ≡ after (c then output (length (all_positions ls s.positions)) (length y)) (written z 0 (all_results a qs ls s.positions)) z
          → (r ≡ sheet_found (c then output (length (every a P qs ls y z)) (length y)) (length ls) (length (every a P qs ls y z)))
          × (y' ≡ after (c then output (length (every a P qs ls y z)) (length y)) (written y 0 (every a P qs ls y z)) y)
          × (z' ≡ after (c then output (length (every a P qs ls y z)) (length y)) (written z 0 (threes a P qs ls y z)) z)
      go (Err x) e is p t = (is, p, t)
      go (Ok _) e is p t =
          let same : all_positions ls s.positions ≡ every a P qs ls y z = laid_same _ _ (length ls) (λ i h. same_position e i h) in
          let results : all_results a qs ls s.positions ≡ threes a P qs ls y z =
          laid_same _ _ (length ls) (λ i h. ap (λ (l : List ℕ). result_of (pattern a.arities (pattern_at qs ls i)) (length l)) (same_position e i h)) in (
            is ∙ ap (λ (l : List ℕ). sheet_found (output (length l) (length y)) (length ls) (length l)) same,
            p ∙ ap (λ (l : List ℕ). after (output (length l) (length y)) (written y 0 l) y) same,
            t ∙ ap₂ (λ (l t : List ℕ). after (output (length l) (length y)) (written z 0 t) z) same results,
          )
