-- `seek_print::put_match` meets its contract: the pieces stand one behind the other.
use Rattle.std.proofs.Common.{arith}
use Rattle.decimal.proofs.Putting.{put_more}
use Rattle.seek_print.specs.Print.{match_text}
use Rattle.seek_print.proofs.put_match.Goals as goal

pub returns : goal.returns
unfolding match_text
returns c =
    let word = c.put_bytes.ensures in
    let position = rw c.from.ensures at c.put_marked.ensures in
    let end = rw c.from-2.ensures at c.put_marked-2.ensures in
    let spans = c.put_spans.ensures in
    let newline = c.put_byte.ensures in
    let k = word.size in
    let k₁ = position.0.size in
    let k₂ = end.0.size in
    let n = word.printed.next in (
      put_more (omega (arith, n)) word
          (put_more (omega (arith, n, k, position.1)) position.0
          (put_more (omega (arith, n, k, position.1, k₁, end.1)) end.0
          (put_more (omega (arith, n, k, position.1, k₁, end.1, k₂, spans.1)) spans.0 newline))),
      omega (arith, n, position.1, end.1, spans.1, newline.printed.next),
    )
