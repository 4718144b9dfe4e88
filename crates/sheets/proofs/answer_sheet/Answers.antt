-- `sheets::answer_sheet` meets its contract: where the first output has room for as many positions as there can be, none is needed.
use Rattle.std.proofs.Common.{length, ◌≤◌, arith}
use Rattle.rows.specs.Limits.{row_most}
use Rattle.rows.specs.Programme.{alphabet_of, programme_of}
use Rattle.sheets.proofs.Sheets.{row_most_lem, laid-few, product_most}
use Rattle.sheets.proofs.answer_sheet.Goals as goal

pub overflow_mul-most : goal.overflow_mul-most
overflow_mul-most c =
    let P = programme_of c.args.programme in
    record { fits = omega (arith, product_most (length P.row) row_most (length c.args.lengths.now) (row_most_lem (alphabet_of c.args.arities.now) P c.requires.given), c.requires.few) }

pub returns-then-most-positions : goal.returns-then-most-positions
returns-then-most-positions c =
    let P = programme_of c.args.programme in
    let told = c.answer_patterns.ensures in
    let few = laid-few (alphabet_of c.args.arities.now) P c.requires.given c.args.patterns.now c.args.lengths.now (length P.row) (length c.args.lengths.now) (omega arith) in
    let room : c.answer_patterns.result ≤ length c.args.positions.now = omega (arith, told.count, few, c.if-most-positions.true) in
    (told.count, room, told.positions.front (omega (arith, told.count, room)), told.results)
