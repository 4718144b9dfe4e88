-- `decimal::Printer::put_marked` meets its contract. A machine word has at most 20 digits.
use Rattle.std.proofs.Common.{refl, arith}
use Rattle.decimal.proofs.Numerals.{numeral_word}
use Rattle.decimal.proofs.Putting.{put_more}
use Rattle.decimal.proofs.Printer.put_marked.Goals as goal

pub put_digits-self-requires : goal.put_digits-self-requires
put_digits-self-requires c = omega (arith, numeral_word c.args.n c.ranges.n.fits)

pub returns : goal.returns
returns c =
    let digits = c.put_digits-self in (
      put_more (omega arith) c.put_byte.ensures (record { lent = refl; size = digits.auto.out; printed = digits.ensures }),
      omega (arith, numeral_word c.args.n c.ranges.n.fits),
    )
