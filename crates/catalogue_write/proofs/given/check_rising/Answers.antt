-- `catalogue_write::given::check_rising` meets its contract. The number at k decides what is said from k on.
use Rattle.std.proofs.Common.{sym, ◌∙◌, arith}
use borrow.Author.Tests.{lt-ltb, le-ltb}
use Rattle.catalogue_write.proofs.Counting.{rising_at, rising_done}
use Rattle.catalogue_write.proofs.given.check_rising.Goals as goal

pub returns-then-number-least : goal.returns-then-number-least
returns-then-number-least c =
    let l = c.loop-k in
    simp (l.invariant.1 ∙ rising_at c.args.numbers.now l.k l.least (omega arith), lt-ltb _ _ c.if-number-least.true)

pub loop-k-preserved : goal.loop-k-preserved
loop-k-preserved c =
    let l = c.loop-k in (
      omega (arith, c.type_inv.numbers l.k),
      l.invariant.1 ∙ rising_at c.args.numbers.now l.k l.least (omega arith) ∙ simp (le-ltb _ _ c.if-number-least.false),
    )

pub returns : goal.returns
returns c =
    let l = c.loop-k in
    sym (l.invariant.1 ∙ rising_done c.args.numbers.now l.k l.least (omega arith))
