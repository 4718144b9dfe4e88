-- `decimal::put_digits` meets its contract.
use Rattle.std.proofs.Common.{refl, arith}
use Rattle.decimal.proofs.Numerals.{numeral_one, numeral_more, numeral_some}
use Rattle.decimal.proofs.Putting.{numeral_tenth}
use Rattle.decimal.proofs.Writing.{written_byte, printed_more}
use Rattle.decimal.proofs.+put_digits.Goals as goal

pub bounds-out-at : goal.bounds-out-at
bounds-out-at t c = omega (arith, numeral_some c.args.n)

pub returns-then-n-lt10 : goal.returns-then-n-lt10
returns-then-n-lt10 t c =
    rw (numeral_one c.args.n c.if-n-lt10.true) (record { next = refl; buffer = written_byte _ _ _ (omega (arith, numeral_some c.args.n)) })

pub put_digits-last-requires : goal.put_digits-last-requires
put_digits-last-requires t c = (omega (arith, c.decreases), omega (arith, numeral_tenth c.args.n c.if-n-lt10.false))

pub bounds-out-last : goal.bounds-out-last
bounds-out-last t c = omega (arith, numeral_tenth c.args.n c.if-n-lt10.false)

pub overflow_add-result-2 : goal.overflow_add-result-2
overflow_add-result-2 t c = omega (arith, numeral_tenth c.args.n c.if-n-lt10.false)

pub returns : goal.returns
returns t c =
    let tenth = numeral_tenth c.args.n c.if-n-lt10.false in
    rw (numeral_more c.args.n c.if-n-lt10.false)
    (printed_more (omega (arith, tenth)) c.put_digits-last.ensures (record { next = refl; buffer = written_byte _ _ _ (omega (arith, tenth)) }))
