-- `seek_print::put_refusal` meets its contract: the pieces stand one behind the other.
use Rattle.std.proofs.Common.{arith}
use Rattle.decimal.proofs.Putting.{put_more}
use Rattle.seek_print.specs.Print.{refusal_text}
use Rattle.seek_print.proofs.put_refusal.Goals as goal

pub returns : goal.returns
unfolding refusal_text
returns c =
    let word = c.put_bytes.ensures in
    let number = rw c.number_of.ensures at c.put_marked.ensures in
    let place = rw c.place_of.ensures at c.put_marked-2.ensures in
    let newline = c.put_byte.ensures in (
      put_more (omega (arith, word.printed.next)) word
          (put_more (omega (arith, word.size, word.printed.next, number.1)) number.0
          (put_more (omega (arith, word.size, word.printed.next, number.0.size, number.1, place.1)) place.0 newline)),
      omega (arith, word.printed.next, number.1, place.1, newline.printed.next),
    )
