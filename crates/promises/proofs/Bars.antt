-- The promises on bar notation, as specs/Bars states them, each with its proof.
-- Assumes nothing.
use Rattle.std.specs.Prelude.{Result, Ok, Err, ⊤}
use Prim.Native.Nat.{ℕ, ◌*◌, ◌<◌, ◌≤◌, min}
use mathlib.Core.Path.{◌≡◌, refl, sym, ap, ap₂, ◌∙◌, subst}
use mathlib.Core.List.{List}
use mathlib.Core.Logic.{◌↔◌}
use native.Mathlib.Omega.{arith}
use borrow.Author.Tests.{le-ltb}
use lib.ListN.{length, take, drop}
use Rattle.rows.specs.Limits.{row_most, bars_most}
use Rattle.rows.specs.Tree.{Tree, single, size}
use Rattle.rows.specs.Row.{allowed, sized}
use Rattle.rows.specs.Programme.{alphabet_of, programme}
use Rattle.rows.specs.Buffers.{written, after}
use Rattle.rows.specs.Refusals.{sizes, symbols}
use Rattle.rows.specs.declared.Leaves.TheVariants.{Symbols as OnlySymbols}
use Rattle.rows.specs.declared.Refusal.{Refusal}
use Rattle.rows.proofs.Accept.{row_of_whole, whole_of_row}
use Rattle.rows.proofs.Buffers.{written-front, written_behind}
use Rattle.rows.proofs.Passing.{clash}
use Rattle.rows.proofs.Scan.{sized_whole}
use Rattle.bars.specs.Bars.{bars_of, unbarred, read_check, write_check}
use Rattle.bars.specs.Calls.{bars_read, bars_written, ReadsBars, WritesBars}
use Rattle.rows.proofs.Alphabets.{symbols_most}
use Rattle.bars.proofs.Calls.{read_told, written_told, twice, output-room}
use Rattle.bars.proofs.Closing.{rooted_of_bars, bars_of_rooted}
use Rattle.bars.proofs.Forms.{length_form, length_bars}
use Rattle.bars.proofs.Passing.{Readable, read_readable, write_legible}
use Rattle.bars.proofs.Promises.{accepts_bars, stops_first, one_due, nothing_is_open, wrong_children, stray_child, ends_open, row_of_bars, bars_of_row, twice_as_long, one_form, write_read, read_write, write_then_read, read_then_write}
use Rattle.checks.specs.Checks.{build_check}
use Rattle.promises.specs.Bars.{BarsReadOne, BarsWriteOne, BarsReadOrder, BarsWriteOrder, BarsReadRefused, BarsWriteRefused, ReadRow, BarsReadAnswers, BarsReadAccepts, BarsWriteAnswers, BuildsRead, BarNotation}
use Rattle.promises.proofs.Demand1.{pair}

-- ---- one outcome

unfoldable pub bars_read_one : BarsReadOne
bars_read_one A v w =
    let c : (Result ⊤ Refusal) = read_check A v (length w) in
    let some : (Result ℕ Refusal) × List ℕ = (bars_read c (length (unbarred v)), after c (written w 0 (unbarred v)) w) in
    let here : ReadsBars A v w some.0 some.1 = record { answer = refl; row = refl } in
    record { some = some; holds = here; only = λ x h. pair x some (h.answer, h.row) }

unfoldable pub bars_write_one : BarsWriteOne
bars_write_one A w b =
    let c : (Result ⊤ Refusal) = write_check A w (length b) in
    let some : (Result ℕ Refusal) × List ℕ = (bars_written c (length (bars_of A w)), after c (written b 0 (bars_of A w)) b) in
    let here : WritesBars A w b some.0 some.1 = record { answer = refl; bars = refl } in
    record { some = some; holds = here; only = λ x h. pair x some (h.answer, h.bars) }

-- ---- the first refusal in the order, which writes nothing

-- an answer that is made of a check is a refusal exactly if the check is
unread : (c : Result ⊤ Refusal) (n : ℕ) (x : Refusal) → (bars_read c n ≡ Err x) ↔ (c ≡ Err x)
unread (Ok _) n x = (λ e. (let z : ◌≡◌ {A = ℕ} 0 1 = cc in absurd (omega arith)), λ e. absurd (clash (Ok tt) x refl e))
unread (Err r) n x = (λ e. (let z : r ≡ x = cc in ap Err z), λ e. (let z : r ≡ x = cc in ap Err z))

unwritten : (c : Result ⊤ Refusal) (n : ℕ) (x : Refusal) → (bars_written c n ≡ Err x) ↔ (c ≡ Err x)
unwritten (Ok _) n x = (λ e. (let z : ◌≡◌ {A = ℕ} 0 1 = cc in absurd (omega arith)), λ e. absurd (clash (Ok tt) x refl e))
unwritten (Err r) n x = (λ e. (let z : r ≡ x = cc in ap Err z), λ e. (let z : r ≡ x = cc in ap Err z))

pub bars_read_order : BarsReadOrder
bars_read_order A v w r w' x h = (λ e. (unread _ _ x).0 (sym h.answer ∙ e), λ e. h.answer ∙ (unread _ _ x).1 e)

pub bars_write_order : BarsWriteOrder
bars_write_order A w b r b' x h = (λ e. (unwritten _ _ x).0 (sym h.answer ∙ e), λ e. h.answer ∙ (unwritten _ _ x).1 e)

pub bars_read_refused : BarsReadRefused
bars_read_refused A v w x w' h =
    h.row ∙ ap (λ (c : Result ⊤ Refusal). after c (written w 0 (unbarred v)) w) ((bars_read_order A v w (Err x) w' x h).0 refl)

pub bars_write_refused : BarsWriteRefused
bars_write_refused A w b x b' h =
    h.bars ∙ ap (λ (c : Result ⊤ Refusal). after c (written b 0 (bars_of A w)) b) ((bars_write_order A w b (Err x) b' x h).0 refl)

-- ---- what is read

module _ (A v w : List ℕ) (n : ℕ) (w' : List ℕ) (h : ReadsBars A v w (Ok n) w') where
  told : (read_check A v (length w) ≡ Ok tt) × (n ≡ length (unbarred v))
  told = read_told (read_check A v (length w)) (length (unbarred v)) n h.answer

  left : Readable A v (length w)
  left = read_readable A v (length w) told.0

  filled : w' ≡ written w 0 (unbarred v)
  filled = h.row ∙ ap (λ (c : Result ⊤ Refusal). after c (written w 0 (unbarred v)) w) told.0

  front : take n w' ≡ unbarred v
  front = ap₂ take told.1 filled ∙ written-front w (unbarred v)

  half : 2 * n ≡ length v
  half = ap (λ (m : ℕ). 2 * m) told.1 ∙ twice A v (length w) told.0

  read_row : ReadRow A v w n w'
  read_row =
      let is_bars = bars_of_rooted A v left.closed in
      record {
        is_bars = is_bars;
        row = front ∙ row_of_bars A v (symbols_most A left.fine) is_bars;
        half = half;
        later = ap₂ drop told.1 filled ∙ written_behind w (unbarred v) ∙ ap (λ (i : ℕ). drop i w) (sym told.1);
      }

  -- the row is within the sizes, and one tree's
  builds : (t c : List ℕ) → n ≤ length t → n ≤ length c → build_check (alphabet_of A) (programme (take n w') t c) ≡ Ok tt
  unfolding build_check sizes sized symbols
  builds t c room places =
      let row : List ℕ = unbarred v in
      let few = symbols_most A left.fine in
      let whole = whole_of_row A (allowed OnlySymbols A) row (read_write A v few left.closed).0 in
      let beside : length row ≤ min (length row) (min (length t) (length c)) = omega (arith, told.1) in
      let size : 0 < length row = omega (arith, half, told.1, left.some) in
      let most : length row ≤ row_most = omega (arith, half, told.1, left.most) in
      let fine : build_check (alphabet_of A) (programme row t c) ≡ (Ok tt) =
      simp (left.fine, le-ltb (length row) 1 size, le-ltb row_most (length row) most, le-ltb (min (length row) (min (length t) (length c))) (length row) beside, whole) in
      subst (λ (l : List ℕ). build_check (alphabet_of A) (programme l t c) ≡ Ok tt) (sym front) fine

pub bars_read_answers : BarsReadAnswers
bars_read_answers A v w n w' h = read_row A v w n w' h

-- a tree has a root
some_tree : (u : Tree) → 0 < size (single u)
unfolding size
some_tree u = omega arith

pub bars_read_accepts : BarsReadAccepts
unfolding read_check
bars_read_accepts A v w r w' fine t most room h =
    let few = symbols_most A fine in
    let long : length v ≡ 2 * size (single t.tree) = ap length (sym t.reads) ∙ length_form (single t.tree) in
    let row = ap length (row_of_bars A v few t) in
    let check : read_check A v (length w) ≡ (Ok tt) =
    simp (fine, sized_whole (length v) bars_most (omega (arith, long, some_tree t.tree)) most, rooted_of_bars A v few t, output-room (length (unbarred v)) (length w) (omega (arith, row))) in
    h.answer ∙ ap₂ bars_read check row

pub builds_read : BuildsRead
builds_read A v w n w' h t c r P' room places b = b.answer ∙ builds A v w n w' h t c room places

-- ---- what is written

pub bars_write_answers : BarsWriteAnswers
bars_write_answers A w b n b' h =
    let form : List ℕ = bars_of A w in
    let told = written_told (write_check A w (length b)) (length form) n h.answer in
    let filled : b' ≡ written b 0 form = h.bars ∙ ap (λ (c : Result ⊤ Refusal). after c (written b 0 form) b) told.0 in
    let is_row = row_of_whole A (allowed OnlySymbols A) w (write_legible A w (length b) told.0).accepted in
    record {
      is_row = is_row;
      bars = ap₂ take told.1 filled ∙ written-front b form ∙ bars_of_row A w is_row;
      twice = told.1 ∙ length_bars A w;
      later = ap₂ drop told.1 filled ∙ written_behind b form ∙ ap (λ (i : ℕ). drop i b) (sym told.1);
    }

pub bar_notation : BarNotation
bar_notation =
    record {
      accepts_bars = accepts_bars;
      stops_first = stops_first;
      one_due = one_due;
      nothing_is_open = nothing_is_open;
      wrong_children = wrong_children;
      stray_child = stray_child;
      ends_open = ends_open;
      row_of_bars = row_of_bars;
      bars_of_row = bars_of_row;
      twice_as_long = twice_as_long;
      one_form = one_form;
      write_read = write_read;
      read_write = read_write;
      write_then_read = write_then_read;
      read_then_write = read_then_write;
      bars_read_one = bars_read_one;
      bars_write_one = bars_write_one;
      bars_read_order = bars_read_order;
      bars_write_order = bars_write_order;
      bars_read_refused = bars_read_refused;
      bars_write_refused = bars_write_refused;
      bars_read_answers = bars_read_answers;
      bars_read_accepts = bars_read_accepts;
      bars_write_answers = bars_write_answers;
      builds_read = builds_read;
    }
