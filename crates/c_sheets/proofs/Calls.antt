-- A sheet, with its positions gathered beside the output.
-- Assumes nothing.
use Rattle.std.specs.Prelude.{Result, Ok, Err, ⊤}
use Prim.Native.Nat.{ℕ, ◌*◌, ◌≤◌, ◌<◌}
use mathlib.Core.Path.{◌≡◌, refl, sym, ap, ap₂, ◌∙◌, subst}
use mathlib.Core.List.{List}
use native.Mathlib.Omega.{arith}
use borrow.Author.Tests.{lt-ltb, le-ltb}
use lib.ListN.{length, take}
use Rattle.rows.specs.Limits.{result_places, sheet_most}
use Rattle.rows.specs.Programme.{Alphabet, Programme, alphabet_of, programme}
use Rattle.rows.specs.Sheet.{pattern_at}
use Rattle.rows.specs.Buffers.{written, after}
use Rattle.rows.specs.Refusals.{◌then◌, given, sheet, sheet_size, output}
use Rattle.rows.specs.declared.Refusal.{Refusal}
use Rattle.rows.specs.declared.Refusal.TheVariants.{OutputShort, SheetSize}
use Rattle.checks.specs.Checks.{results_check, sheet_check}
use Rattle.sheets.proofs.Sheets.{results_length}
use Rattle.sparrowhem.specs.Sheet.{sheet_found, Positions, all_positions, all_results, SheetAnswers}
use Rattle.sparrowhem.proofs.Sheeting.{every, threes, sheet_answerable, sheet_refused, sheet_all, sheet_needs}
use Rattle.wire.specs.Wire.{numbers, bytes_of, Bytes}
use Rattle.wire.proofs.Numbers.{write_read, written_again}
use Rattle.c_copied.proofs.Reading.{Copies}
use Rattle.c_lent.specs.Answer.{find_answer}
use Rattle.c_lent.specs.Calls.{SheetBytes}
use Rattle.c_lent.specs.declared.Answer.{Answer}

module _ (a : Alphabet) (P : Programme) (qs ls out res : List ℕ) (small : Bytes out) (small-results : Bytes res) where
  abbrev check : Result ⊤ Refusal
  check = results_check a P qs ls (length (numbers res))

  -- a sheet that is refused before anything is sought
  pub sheet-bytes-refused : (r : Result ℕ Refusal) (x : Refusal) → r ≡ Err x → check ≡ Err x → SheetBytes a P qs ls out res (find_answer r) out res
  sheet-bytes-refused r x z e =
      record {
        outcome = Err x;
        left = numbers out;
        results_left = numbers res;
        call = sheet_refused a P qs ls (numbers out) (numbers res) (Err x) x refl e;
        answer = ap find_answer z;
        bytes = sym (write_read out small);
        result-bytes = sym (write_read res small-results);
      }

  module _ (e : check ≡ Ok tt) (n : ℕ) (count : n ≡ length (every a P qs ls (numbers out) (numbers res))) where
    -- the positions have no room
    pub sheet-bytes-short : length (numbers out) < n → (r : Result ℕ Refusal) → r ≡ Err (OutputShort n) → SheetBytes a P qs ls out res (find_answer r) out res
    sheet-bytes-short h r z =
        record {
          outcome = Err (OutputShort n);
          left = numbers out;
          results_left = numbers res;
          call = sheet_needs a P qs ls (numbers out) (numbers res) e n (Err n) (numbers out) (numbers res) (count, h, refl, refl) refl;
          answer = ap find_answer z;
          bytes = sym (write_read out small);
          result-bytes = sym (write_read res small-results);
        }

    -- positions and results are written
    pub sheet-bytes_all : n ≤ length (numbers out) → (out' res' : List ℕ)
        → out' ≡ written out 0 (bytes_of (every a P qs ls (numbers out) (numbers res))) → res' ≡ written res 0 (bytes_of (threes a P qs ls (numbers out) (numbers res)))
        → SheetBytes a P qs ls out res (find_answer (Ok n)) out' res'
    sheet-bytes_all h out' res' p t =
        let ps : List ℕ = every a P qs ls (numbers out) (numbers res) in
        let rs : List ℕ = threes a P qs ls (numbers out) (numbers res) in
        let room = (sheet_answerable a P qs ls (numbers out) (numbers res) e).room in
        record {
          outcome = Ok (length ls, n);
          left = written (numbers out) 0 ps;
          results_left = written (numbers res) 0 rs;
          call = sheet_all a P qs ls (numbers out) (numbers res) e n (Ok n) (written (numbers out) 0 ps) (written (numbers res) 0 rs) (count, h, refl, refl) refl;
          answer = refl;
          bytes = p ∙ sym (written_again out ps small (omega (arith, count, h)));
          result-bytes = t ∙ sym (written_again res rs small-results (omega (arith, results_length a P.row qs ls (length ls), room)));
        }

-- too many lengths are refused
pub lengths_many : (a : Alphabet) (P : Programme) (qs ls : List ℕ) (k : ℕ) → given a P (length P.row) ≡ Ok tt → sheet_most < length ls
    → results_check a P qs ls k ≡ Err (SheetSize (length ls))
unfolding results_check sheet sheet_size
lengths_many a P qs ls k g h = simp (g, le-ltb (length ls) 1 (omega arith), lt-ltb sheet_most (length ls) h)

-- A sheet looks at what stands beside the row only for what is refused: on copies of which nothing is refused it answers as on the whole.
module _ (A : List ℕ) (P : Programme) (k n : ℕ) (a w t c : List ℕ) (d : Copies A P k n a w t c) (qs ls : List ℕ) where
  abbrev copy : Programme
  copy = programme (take n w) (take n t) (take n c)

  same_check : (m : ℕ) → results_check (alphabet_of (take k a)) copy qs ls m ≡ results_check (alphabet_of A) P qs ls m
  unfolding results_check
  same_check m = ap (λ (c : Result ⊤ Refusal). c then sheet ls (length qs) then output (result_places * length ls) m) (d.fine ∙ sym d.whole)

  same_sheet : (y z : List ℕ) (r : Result (ℕ × ℕ) Refusal) (y' z' : List ℕ) → SheetAnswers (alphabet_of (take k a)) copy qs ls y z r y' z' → SheetAnswers (alphabet_of A) P qs ls y z r y' z'
  unfolding sheet_check
  same_sheet y z r y' z' s =
      let m : ℕ = length (all_positions ls s.positions) in
      let same : all_results (alphabet_of (take k a)) qs ls s.positions ≡ all_results (alphabet_of A) qs ls s.positions =
      ap (λ (l : List ℕ). all_results (alphabet_of l) qs ls s.positions) d.alphabet in
      record {
        positions = s.positions;
        each = λ e i h. subst (λ (l : List ℕ). Positions (alphabet_of l) P.row (pattern_at qs ls i) (s.positions i)) d.alphabet
            (subst (λ (v : List ℕ). Positions (alphabet_of (take k a)) v (pattern_at qs ls i) (s.positions i)) d.row (s.each (same_check (length z) ∙ e) i h));
        answer = s.answer ∙ ap (λ (c : Result ⊤ Refusal). sheet_found (c then output m (length y)) (length ls) m) (same_check (length z));
        output = s.output ∙ ap (λ (c : Result ⊤ Refusal). after (c then output m (length y)) (written y 0 (all_positions ls s.positions)) y) (same_check (length z));
        results = s.results ∙ ap₂ (λ (c : Result ⊤ Refusal) (l : List ℕ). after (c then output m (length y)) (written z 0 l) z) (same_check (length z)) same;
      }

  pub sheet_whole : (out res : List ℕ) (r : Answer) (out' res' : List ℕ) → SheetBytes (alphabet_of (take k a)) copy qs ls out res r out' res' → SheetBytes (alphabet_of A) P qs ls out res r out' res'
  sheet_whole out res r out' res' s =
      record {
        outcome = s.outcome;
        left = s.left;
        results_left = s.results_left;
        call = same_sheet (numbers out) (numbers res) s.outcome s.left s.results_left s.call;
        answer = s.answer;
        bytes = s.bytes;
        result-bytes = s.result-bytes;
      }
