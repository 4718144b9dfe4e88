-- `c_bars::writer::write_bytes` meets its contract. An alphabet that is too long is refused for that.
use Rattle.std.proofs.Common.{ℕ, ◌<◌, length, ap, arith, Err}
use Rattle.rows.specs.Limits.{alphabet_most}
use Rattle.rows.specs.declared.Arities.TheVariants.{Count}
use Rattle.rows.specs.declared.Refusal.TheVariants.{Arities}
use Rattle.wire.specs.Wire.{numbers}
use Rattle.c_bars.proofs.Calls.{write_refused, write_alphabet_long}
use Rattle.c_bars.proofs.writer.write_bytes.Goals as goal

pub returns-then-k-gt-ALPHABET_MOST : goal.returns-then-k-gt-ALPHABET_MOST
returns-then-k-gt-ALPHABET_MOST c =
    let A = numbers c.args.arities.now in
    let v = numbers c.args.row.now in
    let over : alphabet_most < length A = omega (arith, c.count-k.ensures) in
    write_refused A v c.args.bars.now (λ i. (c.type_inv.bars i).fits) (Arities (Count (length A))) _ (write_alphabet_long A v _ over)
    (ap (λ (m : ℕ). Err (Arities (Count m))) c.count-k.ensures)
