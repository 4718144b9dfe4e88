-- `seek_print::put_span` meets its contract: the pieces stand one behind the other.
use Rattle.std.proofs.Common.{arith, rules}
use borrow.Author.Tests.{ne_eqb}
use Rattle.decimal.proofs.Putting.{put_more}
use Rattle.seek_print.specs.Print.{span_text}
use Rattle.seek_print.proofs.put_span.Goals as goal

pub returns : goal.returns
unfolding span_text
returns c =
    let number = c.put_marked.ensures in
    let begin = rw c.from.ensures at c.put_marked-2.ensures in
    let end = rw c.from-2.ensures at c.put_marked-3.ensures in (
      rw (ne_eqb c.args.end 0 (search rules))
          (put_more (omega (arith, number.1)) number.0 (put_more (omega (arith, number.0.size, number.1, begin.1)) begin.0 end.0)),
      omega (arith, number.1, begin.1, end.1),
    )
