-- `c_bars::reader::read_numbers` meets its contract. The row at the front of the room is written to the lent bytes.
use Rattle.std.proofs.Common.{◌≡◌, ◌/◌, length, sym, ap, ◌∙◌, Err, arith, rules}
use Rattle.std.proofs.lemmas.Grind.{common_steps}
use Rattle.std.proofs.lemmas.List.{length-take-le}
use Rattle.wire.specs.Wire.{numbers}
use Rattle.bars.specs.Bars.{read_check}
use Rattle.bars.proofs.Calls.{twice}
use Rattle.bars.proofs.Passing.{read_readable}
use Rattle.c_bars.proofs.Calls.{read_refused, read_all}
use Rattle.c_bars.proofs.reader.read_numbers.Goals as goal

pub returns-in_err-check_read_in : goal.returns-in_err-check_read_in
returns-in_err-check_read_in c =
    let A = c.args.arities.now in
    let v = c.args.bars.now in
    let b = c.args.row.now in
    let said = ap (read_check A v) (sym c.count.ensures) ∙ sym c.check_read_in.ensures ∙ c.in_err-check_read_in.was in
    let failed : c.from_residual.result ≡ Err c.in_err-check_read_in.field-0.0 = grind (arith, common_steps) in
    read_refused A v b (λ i. search rules) c.in_err-check_read_in.field-0.0 c.from_residual.result said failed

pub copy_symbols-requires : goal.copy_symbols-requires
copy_symbols-requires c =
    let A = c.args.arities.now in
    let v = c.args.bars.now in
    let n = length (numbers c.args.row.now) in
    let fine = ap (read_check A v) (sym c.count.ensures) ∙ sym c.check_read_in.ensures ∙ c.in_ok-check_read_in.was in
    let both = twice A v n fine in
    (both, omega (arith, both, c.requires.1))

pub encode-requires : goal.encode-requires
encode-requires c =
    let A = c.args.arities.now in
    let v = c.args.bars.now in
    let n = length (numbers c.args.row.now) in
    let fine = ap (read_check A v) (sym c.count.ensures) ∙ sym c.check_read_in.ensures ∙ c.in_ok-check_read_in.was in
    let long = length-take-le (length v / 2) c.copy_symbols.new.row (omega (arith, c.requires.1, c.copy_symbols.auto.row)) in
    omega (arith, long, twice A v n fine, (read_readable A v n fine).room)

pub returns : goal.returns
returns c =
    let A = c.args.arities.now in
    let v = c.args.bars.now in
    let b = c.args.row.now in
    let fine = ap (read_check A v) (sym c.count.ensures) ∙ sym c.check_read_in.ensures ∙ c.in_ok-check_read_in.was in
    read_all A v b (λ i. search rules) c.args.symbols.now c.copy_symbols.new.row c.encode.new.bytes fine c.copy_symbols.ensures c.encode.ensures
