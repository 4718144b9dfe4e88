-- `seek_print::put_count` meets its contract: the pieces stand one behind the other.
use Rattle.std.proofs.Common.{arith}
use Rattle.decimal.proofs.Putting.{put_more}
use Rattle.seek_print.specs.Print.{count_text}
use Rattle.seek_print.proofs.put_count.Goals as goal

pub returns : goal.returns
unfolding count_text
returns c =
    let word = c.put_bytes.ensures in
    let count = c.put_marked.ensures in
    let newline = c.put_byte.ensures in (
      put_more (omega (arith, word.printed.next)) word (put_more (omega (arith, word.size, word.printed.next, count.1)) count.0 newline),
      omega (arith, word.printed.next, count.1, newline.printed.next),
    )
