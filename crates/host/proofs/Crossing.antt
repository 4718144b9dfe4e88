-- What crosses: the bytes after a call, read as numbers, are what the Rattle call leaves, since each list keeps its length.
-- Assumes nothing.
use Rattle.std.specs.Prelude.{ℤ, Result, Ok, Err, ⊤}
use Prim.Native.Nat.{ℕ, ◌*◌, ◌≤◌}
use mathlib.Core.Path.{◌≡◌, refl, sym, ap, ◌∙◌, subst}
use mathlib.Core.List.{List}
use native.Mathlib.Omega.{arith}
use lib.ListN.{length, drop}
use Rattle.rows.specs.Programme.{Alphabet, Programme}
use Rattle.rows.specs.Parse.{table}
use Rattle.rows.specs.Classes.{classes}
use Rattle.rows.specs.Buffers.{written, after}
use Rattle.rows.specs.Refusals.{output}
use Rattle.rows.proofs.Buffers.{length-written}
use Rattle.rows.proofs.Entry.{length-table}
use Rattle.rows.proofs.Passing.{both_fine, output_fine}
use Rattle.rows.proofs.Classes.{class_of_row}
use Rattle.checks.specs.Checks.{results_check, sheet_check}
use Rattle.checks.proofs.Building.{build_fillable, build_classes}
use Rattle.sparrowhem.specs.Build.{Built}
use Rattle.sparrowhem.specs.Search.{Finds}
use Rattle.sparrowhem.specs.Sheet.{SheetAnswers}
use Rattle.sparrowhem.specs.Edit.{Replacement}
use Rattle.sheets.proofs.Sheets.{results_length}
use Rattle.sparrowhem.proofs.Searching.{finds_matches}
use Rattle.sparrowhem.proofs.Sheeting.{every, threes, computed, sheet_answerable, sheet_computed}
use Rattle.bars.specs.Bars.{bars_of, unbarred, read_check, write_check}
use Rattle.bars.specs.Calls.{ReadsBars, WritesBars}
use Rattle.bars.proofs.Forms.{length_bars}
use Rattle.bars.proofs.Passing.{read_readable, write_legible}
use Rattle.promises.proofs.Calls.{build_fine, build_kept, find_kept}
use Rattle.promises.proofs.Holding.{went, stayed, same_lengths}
use Rattle.wire.specs.Wire.{numbers, bytes_of}
use Rattle.wire.proofs.Promises.{odd_byte_is_kept}
use Rattle.c_lent.specs.Lent.{Lent, numbers_of}
use Rattle.c_lent.proofs.Lists.{Covers, beside_reads, rewritten_reads}
use Rattle.host.specs.Promises.{OddByteStays, BuildCrosses, FindCrosses, SheetCrosses, ReplaceCrosses, BarsReadCrosses, BarsWriteCrosses}
use Rattle.rows.specs.declared.Refusal.{Refusal}

-- the odd last byte, where as many numbers are written as there are
odd : (l v l' : List ℕ) → length v ≡ length (numbers l) → l' ≡ written l 0 (bytes_of v) → OddByteStays l l'
odd l v l' h e =
    ap (drop (2 * length (numbers l))) e
    ∙ ap (λ (n : ℕ). drop (2 * n) (written l 0 (bytes_of v))) (sym h)
    ∙ (odd_byte_is_kept l v h).1
    ∙ ap (λ (n : ℕ). drop (2 * n) l) h

-- build leaves the row, and a table and classes of the old length
built_row : (a : Alphabet) (P : Programme) (r : Result ⊤ Refusal) (P' : Programme) → Built a P r P' → P'.row ≡ P.row
built_row a P (Ok _) P' b = ap (λ (x : Programme). x.row) (build_fine a P P' b)
built_row a P (Err x) P' b = ap (λ (x : Programme). x.row) (build_kept a P x P' b)

built-table : (a : Alphabet) (P : Programme) (r : Result ⊤ Refusal) (P' : Programme) → Built a P r P' → length P'.table ≡ length P.table
built-table a P (Ok _) P' b =
    ap (λ (x : Programme). length x.table) (build_fine a P P' b)
    ∙ length-written P.table 0 (table a.arities P.row) (omega (arith, length-table a.arities P.row, (build_fillable a P (sym b.answer)).fits))
built-table a P (Err x) P' b = ap (λ (x : Programme). length x.table) (build_kept a P x P' b)

built-classes : (a : Alphabet) (P : Programme) (r : Result ⊤ Refusal) (P' : Programme) → Built a P r P' → length P'.classes ≡ length P.classes
built-classes a P (Ok _) P' b =
    ap (λ (x : Programme). length x.classes) (build_fine a P P' b)
    ∙ length-written P.classes 0 (classes a.arities P.row) (omega (arith, (class_of_row a.arities P.row).0, build_classes a P (sym b.answer)))
built-classes a P (Err x) P' b = ap (λ (x : Programme). length x.classes) (build_kept a P x P' b)

pub build_crosses : BuildCrosses
build_crosses a b r b' c =
    let P : Programme = numbers_of b in
    let row_is = built_row a P c.outcome c.left c.call in
    let ends-long = built-table a P c.outcome c.left c.call in
    let classes-long = built-classes a P c.outcome c.left c.call in
    let covers : Covers b c.left = record { row = ap length row_is; table = ends-long; classes = classes-long } in
    let reads : numbers_of b' ≡ c.left = ap numbers_of c.bytes ∙ beside_reads b c.left covers row_is in
    let same : b'.row ≡ b.row = ap (λ (x : Lent). x.row) c.bytes in
    record {
      outcome = c.outcome;
      call = subst (Built a P c.outcome) (sym reads) c.call;
      answer = c.answer;
      row_stays = same;
      odd = record {
        row = ap (drop (2 * length P.row)) same;
        table = odd b.table c.left.table b'.table ends-long (ap (λ (x : Lent). x.table) c.bytes);
        classes = odd b.classes c.left.classes b'.classes classes-long (ap (λ (x : Lent). x.classes) c.bytes);
      };
    }

-- find leaves an output of the old length
found-length : (a : Alphabet) (P : Programme) (q y : List ℕ) (r : Result ℕ Refusal) (y' : List ℕ) → Finds a P q y r y' → length y' ≡ length y
found-length a P q y (Ok n) y' f =
    let m = finds_matches a P q y (Ok n) y' f n refl in
    ap length m.wrote ∙ length-written y 0 f.positions (omega (arith, m.room, m.many))
found-length a P q y (Err x) y' f = ap length (find_kept a P q y x y' f)

pub find_crosses : FindCrosses
find_crosses a P q out r out' c =
    let y : List ℕ = numbers out in
    let long = found-length a P q y c.outcome c.left c.call in
    let reads : numbers out' ≡ c.left = ap numbers c.bytes ∙ (odd_byte_is_kept out c.left long).0 in
    record {
      outcome = c.outcome;
      call = subst (Finds a P q y c.outcome) (sym reads) c.call;
      answer = c.answer;
      odd = odd out c.left out' long c.bytes;
    }

-- a sheet leaves outputs of the old lengths
sheet_lengths : (a : Alphabet) (P : Programme) (qs ls y z : List ℕ) (r : Result (ℕ × ℕ) Refusal) (y' z' : List ℕ) → SheetAnswers a P qs ls y z r y' z'
    → (length y' ≡ length y) × (length z' ≡ length z)
unfolding sheet_check
sheet_lengths a P qs ls y z r y' z' s =
    let e = sheet_computed a P qs ls y z r y' z' s in
    go (computed a P qs ls y z) refl e.1 e.2
  where
    go : (c : Result ⊤ Refusal) → computed a P qs ls y z ≡ c → y' ≡ after c (written y 0 (every a P qs ls y z)) y → z' ≡ after c (written z 0 (threes a P qs ls y z)) z
        → (length y' ≡ length y) × (length z' ≡ length z)
    go (Err x) d p t = (ap length p, ap length t)
    go (Ok _) d p t =
        let both = both_fine (results_check a P qs ls (length z)) (output (length (every a P qs ls y z)) (length y)) d in
        let room = (sheet_answerable a P qs ls y z both.0).room in (
          ap length p ∙ length-written y 0 (every a P qs ls y z) (omega (arith, output_fine (length (every a P qs ls y z)) (length y) both.1)),
          ap length t ∙ length-written z 0 (threes a P qs ls y z) (omega (arith, room, results_length a P.row qs ls (length ls))),
        )

pub sheet_crosses : SheetCrosses
sheet_crosses a P qs ls out res r out' res' c =
    let y : List ℕ = numbers out in
    let z : List ℕ = numbers res in
    let long = sheet_lengths a P qs ls y z c.outcome c.left c.results_left c.call in
    let reads : numbers out' ≡ c.left = ap numbers c.bytes ∙ (odd_byte_is_kept out c.left long.0).0 in
    let results : numbers res' ≡ c.results_left = ap numbers c.result-bytes ∙ (odd_byte_is_kept res c.results_left long.1).0 in
    record {
      outcome = c.outcome;
      call =
          subst (λ (l : List ℕ). SheetAnswers a P qs ls y z c.outcome l (numbers res')) (sym reads)
          (subst (λ (l : List ℕ). SheetAnswers a P qs ls y z c.outcome c.left l) (sym results) c.call);
      answer = c.answer;
      odd = odd out c.left out' long.0 c.bytes;
      results_odd = odd res c.results_left res' long.1 c.result-bytes;
    }

-- replace leaves lists of the old lengths
replaced_covers : (a : Alphabet) (b : Lent) (n : ℕ) (v : List ℕ) (p : ℕ) (r : Result (ℕ × ℤ) Refusal) (P' : Programme) → Replacement a (numbers_of b) n v p r P' → Covers b P'
replaced_covers a b n v p (Ok (m, d)) P' o =
    let same = same_lengths a (numbers_of b) n v p P' m d (went a (numbers_of b) n v p P' m d o) in
    record { row = same.0; table = same.1; classes = same.2 }
replaced_covers a b n v p (Err x) P' o =
    let same = stayed a (numbers_of b) n v p P' x o in
    record {
      row = ap (λ (Q : Programme). length Q.row) same;
      table = ap (λ (Q : Programme). length Q.table) same;
      classes = ap (λ (Q : Programme). length Q.classes) same;
    }

pub replace_crosses : ReplaceCrosses
replace_crosses a b n v p r b' c =
    let covers = replaced_covers a b n v p c.outcome c.left c.call in
    let reads : numbers_of b' ≡ c.left = ap numbers_of c.bytes ∙ rewritten_reads b c.left covers in
    record {
      outcome = c.outcome;
      call = subst (Replacement a (numbers_of b) n v p c.outcome) (sym reads) c.call;
      answer = c.answer;
      odd = record {
        row = odd b.row c.left.row b'.row covers.row (ap (λ (x : Lent). x.row) c.bytes);
        table = odd b.table c.left.table b'.table covers.table (ap (λ (x : Lent). x.table) c.bytes);
        classes = odd b.classes c.left.classes b'.classes covers.classes (ap (λ (x : Lent). x.classes) c.bytes);
      };
    }

-- a list to whose front others are written, if they have room, keeps its length
kept-length : (c : Result ⊤ Refusal) (y v y' : List ℕ) → y' ≡ after c (written y 0 v) y → (c ≡ Ok tt → length v ≤ length y) → length y' ≡ length y
kept-length (Ok _) y v y' e room = ap length e ∙ length-written y 0 v (omega (arith, room refl))
kept-length (Err x) y v y' e room = ap length e

pub bars_read_crosses : BarsReadCrosses
bars_read_crosses A v out r out' c =
    let y : List ℕ = numbers out in
    let long = kept-length (read_check A v (length y)) y (unbarred v) c.left c.call.row (λ e. (read_readable A v (length y) e).room) in
    let reads : numbers out' ≡ c.left = ap numbers c.bytes ∙ (odd_byte_is_kept out c.left long).0 in
    record {
      outcome = c.outcome;
      call = subst (ReadsBars A v y c.outcome) (sym reads) c.call;
      answer = c.answer;
      odd = odd out c.left out' long c.bytes;
    }

pub bars_write_crosses : BarsWriteCrosses
bars_write_crosses A w out r out' c =
    let y : List ℕ = numbers out in
    let fits : write_check A w (length y) ≡ Ok tt → length (bars_of A w) ≤ length y = λ e. omega (arith, length_bars A w, (write_legible A w (length y) e).room) in
    let long = kept-length (write_check A w (length y)) y (bars_of A w) c.left c.call.bars fits in
    let reads : numbers out' ≡ c.left = ap numbers c.bytes ∙ (odd_byte_is_kept out c.left long).0 in
    record {
      outcome = c.outcome;
      call = subst (WritesBars A w y c.outcome) (sym reads) c.call;
      answer = c.answer;
      odd = odd out c.left out' long c.bytes;
    }
