-- The promises on bar notation, each proved in proofs/Bars under the same name in small letters. The contracts are `ReadsBars` and
-- `WritesBars` (crates/bars/specs/Calls.antt); this file says what they come to.
-- A are arities, v is a list in bar notation, w a row, b a lent list, n a count, r an answer, x a refusal. ' marks what a list holds
-- afterwards.
use Rattle.std.specs.Prelude.{ℕ, ◌*◌, ◌≤◌, ◌≡◌, List, ◌↔◌, length, take, drop, Result, Ok, Err, ⊤}
use Rattle.rows.specs.Programme.{Programme, alphabet_of, programme}
use Rattle.rows.specs.Tree.{single, prefix, IsRow}
use Rattle.rows.specs.Row.{symbol}
use Rattle.rows.specs.Refusals.{alphabet}
use Rattle.rows.specs.Buffers.{One}
use Rattle.rows.specs.declared.Refusal.{Refusal}
use Rattle.bars.specs.Bars.{bar_form, IsBars, read_check, write_check}
use Rattle.bars.specs.Calls.{ReadsBars, WritesBars}
use Rattle.bars.specs.Promises.{AcceptsBars, StopsFirst, OneDue, NothingIsOpen, WrongChildren, StrayChild, EndsOpen, RowOfBars, BarsOfRow, TwiceAsLong, OneForm, WriteRead, ReadWrite, WriteThenRead, ReadThenWrite}
use Rattle.sparrowhem.specs.Build.{Built}

-- Every list gets an answer from either call: there is one outcome that the contract admits, and no other. An outcome is the answer and
-- what the lent list holds afterwards.
abbrev pub BarsReadOne : Type 0
BarsReadOne = (A v w : List ℕ) → One {X = (Result ℕ Refusal) × List ℕ} (λ x. ReadsBars A v w x.0 x.1)

abbrev pub BarsWriteOne : Type 0
BarsWriteOne = (A w b : List ℕ) → One {X = (Result ℕ Refusal) × List ℕ} (λ x. WritesBars A w b x.0 x.1)

-- A call refuses exactly if its check does, with the refusal of that: the first in its order.
abbrev pub BarsReadOrder : Type 0
BarsReadOrder = (A v w : List ℕ) (r : Result ℕ Refusal) (w' : List ℕ) (x : Refusal) → ReadsBars A v w r w'
    → (r ≡ Err x) ↔ (read_check A v (length w) ≡ Err x)

abbrev pub BarsWriteOrder : Type 0
BarsWriteOrder = (A w b : List ℕ) (r : Result ℕ Refusal) (b' : List ℕ) (x : Refusal) → WritesBars A w b r b'
    → (r ≡ Err x) ↔ (write_check A w (length b) ≡ Err x)

-- A refusal writes nothing.
abbrev pub BarsReadRefused : Type 0
BarsReadRefused = (A v w : List ℕ) (x : Refusal) (w' : List ℕ) → ReadsBars A v w (Err x) w' → w' ≡ w

abbrev pub BarsWriteRefused : Type 0
BarsWriteRefused = (A w b : List ℕ) (x : Refusal) (b' : List ℕ) → WritesBars A w b (Err x) b' → b' ≡ b

-- What is read is the bar form of a ranked tree, the first n places then hold the tree's row, which is half as long, and later ones stay.
pub record ReadRow (A v w : List ℕ) (n : ℕ) (w' : List ℕ) : Type 0 where
  pub is_bars : IsBars A v
  pub row : take n w' ≡ prefix (single is_bars.tree)
  pub half : 2 * n ≡ length v
  pub later : drop n w' ≡ drop n w

abbrev pub BarsReadAnswers : Type 0
BarsReadAnswers = (A v w : List ℕ) (n : ℕ) (w' : List ℕ) → ReadsBars A v w (Ok n) w' → ReadRow A v w n w'

-- And the bar form of each ranked tree is read, within the sizes and where the row has room.
abbrev pub BarsReadAccepts : Type 0
BarsReadAccepts = (A v w : List ℕ) (r : Result ℕ Refusal) (w' : List ℕ) → alphabet (alphabet_of A) ≡ Ok tt → (t : IsBars A v) → length v ≤ 32768
    → length (prefix (single t.tree)) ≤ length w → ReadsBars A v w r w' → r ≡ Ok (length (prefix (single t.tree)))

-- What is written is the bar form of the row's tree, twice as long as the row, and later places stay.
pub record WrittenBars (A w b : List ℕ) (n : ℕ) (b' : List ℕ) : Type 0 where
  pub is_row : IsRow A (symbol A) w
  pub bars : take n b' ≡ bar_form (single is_row.tree)
  pub twice : n ≡ 2 * length w
  pub later : drop n b' ≡ drop n b

abbrev pub BarsWriteAnswers : Type 0
BarsWriteAnswers = (A w b : List ℕ) (n : ℕ) (b' : List ℕ) → WritesBars A w b (Ok n) b' → WrittenBars A w b n b'

-- The row that was read can be built at once: no build refuses it that has room for its table and its classes.
abbrev pub BuildsRead : Type 0
BuildsRead = (A v w : List ℕ) (n : ℕ) (w' : List ℕ) → ReadsBars A v w (Ok n) w'
    → (t c : List ℕ) (r : Result ⊤ Refusal) (P' : Programme) → n ≤ length t → n ≤ length c → Built (alphabet_of A) (programme (take n w') t c) r P' → r ≡ Ok tt

-- All of them, with those on lists alone and on one call behind the other (crates/bars/specs/Promises.antt).
pub record BarNotation : Type 0 where
  pub accepts_bars : AcceptsBars
  pub stops_first : StopsFirst
  pub one_due : OneDue
  pub nothing_is_open : NothingIsOpen
  pub wrong_children : WrongChildren
  pub stray_child : StrayChild
  pub ends_open : EndsOpen
  pub row_of_bars : RowOfBars
  pub bars_of_row : BarsOfRow
  pub twice_as_long : TwiceAsLong
  pub one_form : OneForm
  pub write_read : WriteRead
  pub read_write : ReadWrite
  pub write_then_read : WriteThenRead
  pub read_then_write : ReadThenWrite
  pub bars_read_one : BarsReadOne
  pub bars_write_one : BarsWriteOne
  pub bars_read_order : BarsReadOrder
  pub bars_write_order : BarsWriteOrder
  pub bars_read_refused : BarsReadRefused
  pub bars_write_refused : BarsWriteRefused
  pub bars_read_answers : BarsReadAnswers
  pub bars_read_accepts : BarsReadAccepts
  pub bars_write_answers : BarsWriteAnswers
  pub builds_read : BuildsRead
