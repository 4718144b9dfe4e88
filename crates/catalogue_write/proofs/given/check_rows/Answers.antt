-- `catalogue_write::given::check_rows` meets its contract. The row at k decides what is said of the rows from k on.
use Rattle.std.proofs.Common.{◌≡◌, get_or, drop, sym, ◌∙◌, arith, Ok, Err}
use Rattle.std.proofs.lemmas.Grind.{common_steps}
use Rattle.catalogue.specs.Refusals.{as_programme}
use Rattle.catalogue_write.proofs.Counting.{total_at, rows_step, rows_done}
use Rattle.catalogue_write.proofs.given.check_rows.Goals as goal

pub overflow_add-end : goal.overflow_add-end
overflow_add-end g c =
    let at = total_at c.args.given.lengths.now c.loop-k.k (omega (arith, c.requires.given.many)) in
    record { fits = omega (arith, at, c.loop-k.invariant.0, c.requires.small) }

pub check_part-read-requires : goal.check_part-read-requires
check_part-read-requires g c =
    let at = total_at c.args.given.lengths.now c.loop-k.k (omega (arith, c.requires.given.many)) in
    (omega arith, omega (arith, at, c.loop-k.invariant.0))

pub returns-in_err-map_err : goal.returns-in_err-map_err
returns-in_err-map_err g c =
    let ns = c.args.given.numbers.now in
    let k = c.loop-k.k in
    let step = rows_step c.args.arities.now ns c.args.given.lengths.now (g.E.Piece.numbers c.args.given.rows.now) k c.loop-k.next c.check_part-read.result (omega arith) (omega (arith, c.requires.given.many)) c.check_part-read.ensures in
    let told : c.map_err.result ≡ as_programme (get_or ns k 0) c.check_part-read.result = grind (arith, common_steps) in
    let failed : c.from_residual.result ≡ c.map_err.result = grind (arith, common_steps) in
    let said : as_programme (get_or ns k 0) c.check_part-read.result ≡ Err c.in_err-map_err.field-0.0 = sym told ∙ c.in_err-map_err.was in
    failed ∙ c.in_err-map_err.was ∙ sym (c.loop-k.invariant.1 ∙ step ∙ simp said)

pub loop-k-preserved : goal.loop-k-preserved
loop-k-preserved g c =
    let ns = c.args.given.numbers.now in
    let k = c.loop-k.k in
    let at = total_at c.args.given.lengths.now k (omega (arith, c.requires.given.many)) in
    let step = rows_step c.args.arities.now ns c.args.given.lengths.now (g.E.Piece.numbers c.args.given.rows.now) k c.loop-k.next c.check_part-read.result (omega arith) (omega (arith, c.requires.given.many)) c.check_part-read.ensures in
    let fine : c.check_part-read.result ≡ Ok tt = grind (arith, common_steps) in
    (omega (arith, at, c.loop-k.invariant.0), c.loop-k.invariant.1 ∙ step ∙ simp fine)

pub returns : goal.returns
returns g c =
    let w = g.E.Piece.numbers c.args.given.rows.now in
    sym (c.loop-k.invariant.1 ∙ rows_done c.args.arities.now c.args.given.numbers.now c.args.given.lengths.now (drop c.loop-k.next w) c.loop-k.k c.loop-k-test.false)
