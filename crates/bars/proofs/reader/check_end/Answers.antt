use Rattle.std.proofs.Common.{sym}
use Rattle.bars.proofs.Reading.{all_closed, none_open}
use Rattle.bars.proofs.reader.check_end.Goals as goal

pub returns-then-i-bars : goal.returns-then-i-bars
returns-then-i-bars c A = sym (none_open A _ _ c.if-i-bars.true)

pub returns : goal.returns
returns c A = sym (all_closed A _ _ c.if-i-bars.false)
