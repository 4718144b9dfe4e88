-- Find, with its matches gathered beside the output.
-- Assumes nothing.
use Rattle.std.specs.Prelude.{Result, Ok, Err, ⊤}
use Prim.Native.Nat.{ℕ, ◌≤◌, ◌<◌}
use mathlib.Core.Path.{◌≡◌, refl, sym, ap, ap₂, subst, ◌∙◌}
use mathlib.Core.List.{List}
use native.Mathlib.Omega.{arith}
use lib.ListN.{length, take}
use Rattle.rows.specs.Buffers.{written, after}
use Rattle.rows.specs.Programme.{Alphabet, Programme, alphabet_of, programme}
use Rattle.rows.specs.Refusals.{◌then◌, pattern, output}
use Rattle.rows.specs.declared.Refusal.{Refusal}
use Rattle.rows.specs.declared.Refusal.TheVariants.{OutputShort}
use Rattle.patterns.specs.Answers.{Listed}
use Rattle.searches.specs.Searches.{Lists}
use Rattle.searches.proofs.Writing.{front_taken}
use Rattle.wire.specs.Wire.{numbers, bytes_of, Bytes}
use Rattle.wire.proofs.Numbers.{write_read, written_again}
use Rattle.checks.specs.Checks.{search_check, find_check}
use Rattle.sparrowhem.specs.Search.{found, Finds}
use Rattle.sparrowhem.proofs.Searching.{finds_refused, finds_told}
use Rattle.c_lent.specs.Answer.{find_answer}
use Rattle.c_lent.specs.Calls.{FoundBytes}
use Rattle.c_lent.specs.declared.Answer.{Answer}
use Rattle.c_copied.proofs.Reading.{Copies}

module _ (a : Alphabet) (P : Programme) (q out : List ℕ) (small : Bytes out) where
  -- a search that is refused before anything is sought
  pub found-refused : (r : Result ℕ Refusal) (x : Refusal) → r ≡ Err x → search_check a P q ≡ Err x → FoundBytes a P q out (find_answer r) out
  found-refused r x z e = record {
    outcome = r;
    left = numbers out;
    call = finds_refused a P q (numbers out) r x z e;
    answer = refl;
    bytes = sym (write_read out small);
  }

  -- n matches at the front of a room
  module _ (e : search_check a P q ≡ Ok tt) (room room' : List ℕ) (n : ℕ) (l : Lists a P.row q room (Ok n) room') where
    abbrev ps : List ℕ
    ps = l.positions

    pub found-short : length (numbers out) < n → (r : Result ℕ Refusal) → r ≡ Err (OutputShort n) → FoundBytes a P q out (find_answer r) out
    found-short h r z = record {
      outcome = r;
      left = numbers out;
      call = finds_told a P q (numbers out) e (Err n) (numbers out) (record { positions = ps; listed = l.listed; told = (l.told.0, h, refl) }) r z;
      answer = refl;
      bytes = sym (write_read out small);
    }

    pub found_all : n ≤ length (numbers out) → (out' : List ℕ) → out' ≡ written out 0 (bytes_of (take n room')) → FoundBytes a P q out (find_answer (Ok n)) out'
    found_all h out' b =
        let left : List ℕ = written (numbers out) 0 ps in
        let many : length ps ≤ length (numbers out) = omega (arith, l.told.0) in
        let same : take n room' ≡ ps = ap (take n) l.told.2 ∙ front_taken room ps n l.told.0 in
        record {
          outcome = Ok n;
          left = left;
          call = finds_told a P q (numbers out) e (Ok n) left (record { positions = ps; listed = l.listed; told = (l.told.0, h, refl) }) (Ok n) refl;
          answer = refl;
          bytes = b ∙ ap (λ (x : List ℕ). written out 0 (bytes_of x)) same ∙ sym (written_again out ps small many);
        }

-- Table and classes decide what is refused, and nothing else: on copies that are not refused find answers as on the whole.
module _ (A : List ℕ) (P : Programme) (k n : ℕ) (a w t c : List ℕ) (d : Copies A P k n a w t c) (q : List ℕ) where
  abbrev copy : Programme
  copy = programme (take n w) (take n t) (take n c)

  search_same : search_check (alphabet_of (take k a)) copy q ≡ search_check (alphabet_of A) P q
  unfolding search_check
  search_same = ap₂ (λ (g : Result ⊤ Refusal) (l : List ℕ). g then pattern l q) (d.fine ∙ sym d.whole) d.alphabet

  finds_same : (y : List ℕ) (r : Result ℕ Refusal) (y' : List ℕ) → Finds (alphabet_of (take k a)) copy q y r y' → Finds (alphabet_of A) P q y r y'
  unfolding find_check
  finds_same y r y' f =
      let ps = f.positions in
      let n = length ps in
      record {
        positions = ps;
        listed =
            λ e. subst (λ (l : List ℕ). Listed (alphabet_of A) l q (length l) ps) d.row
            (subst (λ (l : List ℕ). Listed (alphabet_of l) copy.row q (length copy.row) ps) d.alphabet (f.listed (search_same ∙ e)));
        answer = f.answer ∙ ap (λ (g : Result ⊤ Refusal). found (g then output n (length y)) n) search_same;
        output = f.output ∙ ap (λ (g : Result ⊤ Refusal). after (g then output n (length y)) (written y 0 ps) y) search_same;
      }

  pub found_whole : (out : List ℕ) (r : Answer) (out' : List ℕ) → FoundBytes (alphabet_of (take k a)) copy q out r out' → FoundBytes (alphabet_of A) P q out r out'
  found_whole out r out' f = record {
    outcome = f.outcome;
    left = f.left;
    call = finds_same (numbers out) f.outcome f.left f.call;
    answer = f.answer;
    bytes = f.bytes;
  }
