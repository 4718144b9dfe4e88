-- `bars::read_bars` meets its contract. Where nothing is refused, the symbols are copied, half as many as there are numbers.
use Rattle.std.proofs.Common.{sym, ◌∙◌}
use Rattle.rows.proofs.Alphabets.{symbols_most}
use Rattle.bars.proofs.Closing.{rooted_half}
use Rattle.bars.proofs.Calls.{twice}
use Rattle.bars.proofs.Passing.{read_readable}
use Rattle.bars.proofs.read_bars.Goals as goal

pub copy_symbols-requires : goal.copy_symbols-requires
copy_symbols-requires c =
    let fine = sym c.check_read.ensures ∙ c.in_ok-check_read.was in
    (twice _ _ _ fine, (read_readable _ _ _ fine).room)

pub returns : goal.returns
returns c =
    let a = c.args in
    let fine = sym c.check_read.ensures ∙ c.in_ok-check_read.was in
    let l = read_readable _ _ _ fine in
    let half = rooted_half a.arities.now a.bars.now (symbols_most a.arities.now l.fine) l.closed in
    record { answer = simp (fine, half); row = c.copy_symbols.ensures ∙ simp fine }
