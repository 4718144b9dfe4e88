-- The promises of specs/Promises, each with its proof.
-- Assumes nothing.
use mathlib.Core.Path.{sym, ap, ◌∙◌}
use Rattle.rows.specs.Tree.{single}
use Rattle.rows.specs.Row.{allowed}
use Rattle.rows.specs.declared.Leaves.TheVariants.{Symbols}
use Rattle.rows.proofs.Parse.{one_forest}
use Rattle.bars.specs.Bars.{bar_form, unbarred}
use Rattle.bars.specs.Promises.{AcceptsBars, StopsFirst, OneDue, NothingIsOpen, WrongChildren, StrayChild, EndsOpen, RowOfBars, BarsOfRow, TwiceAsLong, OneForm, WriteRead, ReadWrite, WriteThenRead, ReadThenWrite}
use Rattle.bars.proofs.Forms.{length_bars, unbarred_form}
use Rattle.bars.proofs.Closing.{rooted_of_bars, bars_of_rooted}
use Rattle.bars.proofs.Stopping as stopping
use Rattle.bars.proofs.Telling as telling
use Rattle.bars.proofs.Trips as trips
use Rattle.bars.proofs.Calls as calls

pub accepts_bars : AcceptsBars
accepts_bars A v few = (bars_of_rooted A v, rooted_of_bars A v few)

pub stops_first : StopsFirst
stops_first = stopping.stops_first

pub one_due : OneDue
one_due = telling.one_due

pub nothing_is_open : NothingIsOpen
nothing_is_open = telling.nothing_is_open

pub wrong_children : WrongChildren
wrong_children = telling.wrong_children

pub stray_child : StrayChild
stray_child = telling.stray_child

pub ends_open : EndsOpen
ends_open = telling.ends_open

pub twice_as_long : TwiceAsLong
twice_as_long = length_bars

pub one_form : OneForm
one_form A t u few r q = (
  λ e. ap bar_form (one_forest A (allowed Symbols A) (allowed Symbols A) (single t) (single u) r q e),
  λ e. sym (unbarred_form A (single t) few r) ∙ ap unbarred e ∙ unbarred_form A (single u) few q,
)

pub row_of_bars : RowOfBars
row_of_bars = trips.row_of_bars

pub bars_of_row : BarsOfRow
bars_of_row = trips.bars_of_row

pub write_read : WriteRead
write_read = trips.write_read

pub read_write : ReadWrite
read_write = trips.read_write

pub write_then_read : WriteThenRead
write_then_read = calls.write_then_read

pub read_then_write : ReadThenWrite
read_then_write = calls.read_then_write
