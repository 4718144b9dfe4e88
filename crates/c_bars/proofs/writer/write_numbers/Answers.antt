-- `c_bars::writer::write_numbers` meets its contract. The bar form at the front of the room is written to the lent bytes.
use Rattle.std.proofs.Common.{◌≡◌, ◌*◌, length, sym, ap, ◌∙◌, Err, arith, rules}
use Rattle.std.proofs.lemmas.Grind.{common_steps}
use Rattle.std.proofs.lemmas.List.{length-take-le}
use Rattle.wire.specs.Wire.{numbers}
use Rattle.bars.specs.Bars.{write_check}
use Rattle.bars.proofs.Passing.{write_legible}
use Rattle.c_bars.proofs.Calls.{write_refused, write_all}
use Rattle.c_bars.proofs.writer.write_numbers.Goals as goal

pub returns-in_err-check_write : goal.returns-in_err-check_write
returns-in_err-check_write c =
    let A = c.args.arities.now in
    let w = c.args.row.now in
    let b = c.args.bars.now in
    let said = ap (write_check A w) (sym c.count.ensures) ∙ sym c.check_write.ensures ∙ c.in_err-check_write.was in
    let failed : c.from_residual.result ≡ Err c.in_err-check_write.field-0.0 = grind (arith, common_steps) in
    write_refused A w b (λ i. search rules) c.in_err-check_write.field-0.0 c.from_residual.result said failed

pub write_form-requires : goal.write_form-requires
write_form-requires c =
    let A = c.args.arities.now in
    let w = c.args.row.now in
    let fine = ap (write_check A w) (sym c.count.ensures) ∙ sym c.check_write.ensures ∙ c.in_ok-check_write.was in
    let l = write_legible A w (length (numbers c.args.bars.now)) fine in
    (record { fine = l.fine; accepted = l.accepted; most = l.most; fits = c.requires.0 }, c.requires.1)

pub encode-requires : goal.encode-requires
encode-requires c =
    let A = c.args.arities.now in
    let w = c.args.row.now in
    let fine = ap (write_check A w) (sym c.count.ensures) ∙ sym c.check_write.ensures ∙ c.in_ok-check_write.was in
    let l = write_legible A w (length (numbers c.args.bars.now)) fine in
    let long = length-take-le (2 * length w) c.write_form.new.bars (omega (arith, c.requires.0, c.write_form.auto.bars)) in
    omega (arith, long, l.room)

pub returns : goal.returns
returns c =
    let A = c.args.arities.now in
    let w = c.args.row.now in
    let b = c.args.bars.now in
    let fine = ap (write_check A w) (sym c.count.ensures) ∙ sym c.check_write.ensures ∙ c.in_ok-check_write.was in
    write_all A w b (λ i. search rules) c.args.numbers.now c.write_form.new.bars c.encode.new.bytes fine c.write_form.ensures c.encode.ensures
