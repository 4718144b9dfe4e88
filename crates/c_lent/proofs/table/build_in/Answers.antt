use Rattle.std.proofs.Common.{◌≡◌, ◌∙◌, sym, ap₂, rules, Err}
use Rattle.rows.specs.Programme.{alphabet_of}
use Rattle.wire.specs.Wire.{numbers, Bytes}
use Rattle.c_lent.specs.Lent.{lent, numbers_of}
use Rattle.c_lent.specs.Reading.{sizes_check}
use Rattle.c_lent.proofs.Built.{built_refused}
use Rattle.c_lent.proofs.Checks.{build_refused as refused_sizes}
use Rattle.c_lent.proofs.table.build_in.Goals as goal

pub returns-in_err-read_sizes : goal.returns-in_err-read_sizes
returns-in_err-read_sizes g c =
    let b = lent c.args.row.now c.args.table.now c.args.classes.now in
    let a = alphabet_of (numbers c.args.arities.now) in
    let told = ap₂ (sizes_check a) (sym c.count.ensures) (sym c.room-places.ensures) ∙ sym c.read_sizes.ensures.answer ∙ c.in_err-read_sizes.was in
    let is : c.from_residual.result ≡ Err c.in_err-read_sizes.field-0.0 = search rules in
    let table : Bytes b.table = search rules in
    let classes : Bytes b.classes = search rules in
    built_refused a b table classes _ _ is (refused_sizes a (numbers_of b) _ told)
