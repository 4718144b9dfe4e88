-- `catalogue_read::contents::check_rising` meets its contract. The number of the entry at k decides what is said from k on.
use Rattle.std.proofs.Common.{List, map, sym, ap, ◌∙◌, arith}
use borrow.Author.Tests.{lt-ltb, le-ltb}
use Rattle.wire.specs.Wire.{numbers}
use Rattle.catalogue.specs.Refusals.{rises, programme_of}
use Rattle.catalogue.specs.declared.Entry.{Entry}
use Rattle.catalogue.proofs.Scan.{entries_all, rising_at, rising_done}
use Rattle.catalogue_read.proofs.contents.check_rising.Goals as goal

pub loop-k-init : goal.loop-k-init
loop-k-init c = (omega arith, ap (λ (es : List Entry). rises 12 4 0 (map programme_of es)) (entries_all _ _))

pub returns-then-number-least : goal.returns-then-number-least
returns-then-number-least c =
    let l = c.loop-k in
    simp (l.invariant.1 ∙ rising_at (numbers c.args.file.now) c.args.n l.k (omega arith) l.least, sym c.wide_at-number.ensures, lt-ltb _ _ c.if-number-least.true)

pub loop-k-preserved : goal.loop-k-preserved
loop-k-preserved c =
    let l = c.loop-k in (
      omega arith,
      l.invariant.1 ∙ rising_at (numbers c.args.file.now) c.args.n l.k (omega arith) l.least ∙ simp (sym c.wide_at-number.ensures, le-ltb _ _ c.if-number-least.false),
    )

pub returns : goal.returns
returns c =
    let l = c.loop-k in
    sym (l.invariant.1 ∙ rising_done (numbers c.args.file.now) c.args.n l.k l.least (omega arith))
