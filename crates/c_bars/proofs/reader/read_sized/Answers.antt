-- `c_bars::reader::read_sized` meets its contract. Bars that are too many are refused for that, once the alphabet is accepted.
use Rattle.std.proofs.Common.{ℕ, ◌≡◌, ◌<◌, length, sym, ap, ◌∙◌, arith, Err}
use Rattle.std.proofs.lemmas.Grind.{common_steps}
use Rattle.rows.specs.Limits.{bars_most}
use Rattle.rows.specs.declared.Fault.TheVariants.{Long}
use Rattle.rows.specs.declared.Kept.TheVariants.{Misread}
use Rattle.rows.specs.declared.Refusal.TheVariants.{Row}
use Rattle.wire.specs.Wire.{numbers}
use Rattle.c_bars.proofs.Calls.{read_refused, read_long}
use Rattle.c_bars.proofs.reader.read_sized.Goals as goal

pub returns-in_err-check_alphabet : goal.returns-in_err-check_alphabet
returns-in_err-check_alphabet c =
    let A = c.args.arities.now in
    let v = numbers c.args.bars.now in
    let over : bars_most < length v = omega (arith, c.count-n.ensures) in
    let failed : c.from_residual.result ≡ Err c.in_err-check_alphabet.field-0.0 = grind (arith, common_steps) in
    read_refused A v c.args.row.now (λ i. (c.type_inv.row i).fits) c.in_err-check_alphabet.field-0.0 _
    (read_long A v _ over ∙ simp (sym c.check_alphabet.ensures ∙ c.in_err-check_alphabet.was)) failed

pub returns-then-n-gt-BARS_MOST : goal.returns-then-n-gt-BARS_MOST
returns-then-n-gt-BARS_MOST c =
    let A = c.args.arities.now in
    let v = numbers c.args.bars.now in
    let over : bars_most < length v = omega (arith, c.count-n.ensures) in
    read_refused A v c.args.row.now (λ i. (c.type_inv.row i).fits) (Row (Misread (Long (length v)))) _
    (read_long A v _ over ∙ simp (sym c.check_alphabet.ensures ∙ c.in_ok-check_alphabet.was))
    (ap (λ (m : ℕ). Err (Row (Misread (Long m)))) c.count-n.ensures)
