-- Table and classes are filled in where nothing is refused.
use Rattle.std.proofs.Common.{◌≡◌, ◌∙◌, ap, refl, take, rules, Ok, Err}
use Rattle.rows.specs.Programme.{alphabet_of}
use Rattle.rows.specs.Parse.{table}
use Rattle.rows.specs.Refusals.{symbols}
use Rattle.rows.specs.declared.Refusal.TheVariants.{Row}
use Rattle.tables.specs.Given.{Right}
use Rattle.wire.specs.Wire.{numbers, Bytes}
use Rattle.checks.specs.Checks.{build_check}
use Rattle.checks.proofs.Building.{build_fillable, build_classes, filled_right}
use Rattle.c_lent.specs.Lent.{lent, numbers_of}
use Rattle.c_lent.proofs.Built.{built_refused, built_done}
use Rattle.c_lent.proofs.Checks.{build_after, build_most}
use Rattle.c_lent.proofs.table.build_under.Goals as goal
use Rattle.c_lent.proofs.table.build_under.Goals.{In_ok-map_err, After-fill_ends}

module _ (c : In_ok-map_err) where
  fine : build_check (alphabet_of (take c.args.k c.args.room.now)) (numbers_of (lent c.args.row.now c.args.table.now c.args.classes.now)) ≡ Ok tt
  fine =
      let told : symbols Row (take c.args.k c.args.room.now) (numbers c.args.row.now) ≡ Ok tt = search rules in
      build_after _ _ c.requires.classes_value ∙ told

right : (c : After-fill_ends) → Right (take c.args.k c.args.room.now) (numbers c.args.row.now) (numbers c.fill_ends.new.table)
right c =
    let told : symbols Row (take c.args.k c.args.room.now) (numbers c.args.row.now) ≡ Ok tt = search rules in
    let f = build_fillable (alphabet_of (take c.args.k c.args.room.now)) (numbers_of (lent c.args.row.now c.args.table.now c.args.classes.now)) (build_after _ _ c.requires.classes_value ∙ told) in
    filled_right _ _ _ _ f c.fill_ends.ensures.filled

pub check_symbols-requires : goal.check_symbols-requires
check_symbols-requires c = build_most (alphabet_of (take c.args.k c.args.room.now)) (numbers_of (lent c.args.row.now c.args.table.now c.args.classes.now)) c.requires.classes_value

pub returns-in_err-map_err : goal.returns-in_err-map_err
returns-in_err-map_err c =
    let told : symbols Row (take c.args.k c.args.room.now) (numbers c.args.row.now) ≡ Err c.in_err-map_err.field-0.0 = search rules in
    let is : c.from_residual.result ≡ Err c.in_err-map_err.field-0.0 = search rules in
    built_refused (alphabet_of (take c.args.k c.args.room.now)) (lent c.args.row.now c.args.table.now c.args.classes.now) (λ i. (c.type_inv.table i).fits) (λ i. (c.type_inv.classes i).fits) _ _ is (build_after _ _ c.requires.classes_value ∙ told)

pub fill_ends-requires : goal.fill_ends-requires
fill_ends-requires c =
    build_fillable (alphabet_of (take c.args.k c.args.room.now)) (numbers_of (lent c.args.row.now c.args.table.now c.args.classes.now)) (fine (goal.at.fill_ends-requires c).In_ok-map_err)

pub fill_over-requires-clause-by_index : goal.fill_over-requires-clause-by_index
fill_over-requires-clause-by_index c = (_, right (goal.at.fill_over-requires-clause-by_index c).After-fill_ends)

pub fill_over-requires-clause-row_in_bounds : goal.fill_over-requires-clause-row_in_bounds
fill_over-requires-clause-row_in_bounds c =
    build_classes (alphabet_of (take c.args.k c.args.room.now)) (numbers_of (lent c.args.row.now c.args.table.now c.args.classes.now)) (fine (goal.at.fill_over-requires-clause-row_in_bounds c).In_ok-map_err)

pub returns : goal.returns
unfolding table
returns c =
    let T = c.fill_ends in
    let C = c.fill_over in
    let small : Bytes T.new.table = search rules in
    built_done (alphabet_of (take c.args.k c.args.room.now)) (lent c.args.row.now c.args.table.now c.args.classes.now) (lent c.args.row.now T.new.table C.new.classes) (Ok c.count.result)
    small (λ i. (c.type_inv.classes i).fits) (fine (goal.at.returns c).In_ok-map_err) (ap Ok c.count.ensures) refl T.ensures.filled T.ensures.odd
    (C.ensures.filled _ (right (goal.at.returns c).After-fill_ends)) C.ensures.odd
