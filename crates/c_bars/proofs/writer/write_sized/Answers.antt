-- `c_bars::writer::write_sized` meets its contract. A row that is too long is refused for that, once the alphabet is accepted.
use Rattle.std.proofs.Common.{ℕ, ◌≡◌, ◌<◌, length, sym, ap, ◌∙◌, arith, Err}
use Rattle.std.proofs.lemmas.Grind.{common_steps}
use Rattle.rows.specs.Limits.{row_most}
use Rattle.rows.specs.declared.Fault.TheVariants.{Long}
use Rattle.rows.specs.declared.Kept.TheVariants.{Misread}
use Rattle.rows.specs.declared.Refusal.TheVariants.{Row}
use Rattle.wire.specs.Wire.{numbers}
use Rattle.c_bars.proofs.Calls.{write_refused, write_long}
use Rattle.c_bars.proofs.writer.write_sized.Goals as goal

pub returns-in_err-check_alphabet : goal.returns-in_err-check_alphabet
returns-in_err-check_alphabet c =
    let A = c.args.arities.now in
    let v = numbers c.args.row.now in
    let over : row_most < length v = omega (arith, c.count-n.ensures) in
    let failed : c.from_residual.result ≡ Err c.in_err-check_alphabet.field-0.0 = grind (arith, common_steps) in
    write_refused A v c.args.bars.now (λ i. (c.type_inv.bars i).fits) c.in_err-check_alphabet.field-0.0 _
    (write_long A v _ over ∙ simp (sym c.check_alphabet.ensures ∙ c.in_err-check_alphabet.was)) failed

pub returns-then-n-gt-ROW_MOST : goal.returns-then-n-gt-ROW_MOST
returns-then-n-gt-ROW_MOST c =
    let A = c.args.arities.now in
    let v = numbers c.args.row.now in
    let over : row_most < length v = omega (arith, c.count-n.ensures) in
    write_refused A v c.args.bars.now (λ i. (c.type_inv.bars i).fits) (Row (Misread (Long (length v)))) _
    (write_long A v _ over ∙ simp (sym c.check_alphabet.ensures ∙ c.in_ok-check_alphabet.was))
    (ap (λ (m : ℕ). Err (Row (Misread (Long m)))) c.count-n.ensures)
