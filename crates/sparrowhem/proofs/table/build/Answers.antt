-- The table is filled in, and then the classes.
use Rattle.std.proofs.Common.{◌≡◌, ◌∙◌, sym, ap, ap₂, Ok, Result}
use Rattle.std.specs.Prelude.{⊤}
use Rattle.rows.specs.Programme.{alphabet_of, programme}
use Rattle.rows.specs.Parse.{table}
use Rattle.rows.specs.Buffers.{after}
use Rattle.rows.specs.declared.Refusal.{Refusal}
use Rattle.tables.specs.Given.{Right}
use Rattle.checks.specs.Checks.{build_check}
use Rattle.checks.proofs.Building.{build_fillable, build_classes, filled_right}
use Rattle.sparrowhem.specs.Build.{built}
use Rattle.sparrowhem.proofs.table.build.Goals as goal
use Rattle.sparrowhem.proofs.table.build.Goals.{In_ok-check_build, After-fill_ends}

fine : (c : In_ok-check_build) → build_check (alphabet_of c.args.arities.now) (programme c.args.row.now c.args.table.now c.args.classes.now) ≡ Ok tt
fine c = sym c.check_build.ensures ∙ c.in_ok-check_build.was

right : (c : After-fill_ends) → Right c.args.arities.now c.args.row.now c.fill_ends.new.table
right c =
    filled_right c.args.arities.now c.args.row.now c.args.table.now _
    (build_fillable (alphabet_of c.args.arities.now) (programme c.args.row.now c.args.table.now c.args.classes.now) (sym c.check_build.ensures ∙ c.in_ok-check_build.was))
    c.fill_ends.ensures.filled

pub fill_ends-requires : goal.fill_ends-requires
fill_ends-requires c =
    build_fillable (alphabet_of c.args.arities.now) (programme c.args.row.now c.args.table.now c.args.classes.now) (fine (goal.at.fill_ends-requires c).In_ok-check_build)

pub fill_classes-requires-clause-by_index : goal.fill_classes-requires-clause-by_index
fill_classes-requires-clause-by_index c = (_, right (goal.at.fill_classes-requires-clause-by_index c).After-fill_ends)

pub fill_classes-requires-clause-row_in_bounds : goal.fill_classes-requires-clause-row_in_bounds
fill_classes-requires-clause-row_in_bounds c =
    build_classes (alphabet_of c.args.arities.now) (programme c.args.row.now c.args.table.now c.args.classes.now) (fine (goal.at.fill_classes-requires-clause-row_in_bounds c).In_ok-check_build)

pub returns : goal.returns
unfolding table
returns c =
    let a = alphabet_of c.args.arities.now in
    let P = programme c.args.row.now c.args.table.now c.args.classes.now in
    let e = fine (goal.at.returns c).In_ok-check_build in
    record {
      answer = sym e;
      lists = ap₂ (programme P.row) c.fill_ends.ensures.filled (c.fill_classes.ensures a.arities (right (goal.at.returns c).After-fill_ends)) ∙ sym (ap (λ (x : Result ⊤ Refusal). after x (built a P) P) e);
    }
