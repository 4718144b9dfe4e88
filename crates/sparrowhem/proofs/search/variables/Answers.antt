-- What the check leaves is matched.
use Rattle.std.proofs.Common.{◌≡◌, ◌∙◌, sym, Ok, length}
use Rattle.rows.specs.Programme.{alphabet_of, programme_of}
use Rattle.checks.specs.Checks.{variables_check}
use Rattle.checks.proofs.Passing.{variables_checked}
use Rattle.sparrowhem.proofs.Searching.{binds_told}
use Rattle.sparrowhem.proofs.search.variables.Goals as goal
use Rattle.sparrowhem.proofs.search.variables.Goals.{In_ok-check_variables}

module _ (c : In_ok-check_variables) where
  fine : variables_check (alphabet_of c.args.arities.now) (programme_of c.args.programme) c.args.pattern.now c.args.position (length c.args.out.now) ≡ Ok tt
  fine = sym c.check_variables.ensures ∙ c.in_ok-check_variables.was

pub variables_at-requires : goal.variables_at-requires
variables_at-requires c =
    let k = variables_checked (alphabet_of c.args.arities.now) (programme_of c.args.programme) c.args.pattern.now c.args.position _ (fine (goal.at.variables_at-requires c).In_ok-check_variables) in
    ((_, k.0), k.1, k.2)

pub returns : goal.returns
returns c =
    let e = fine (goal.at.returns c).In_ok-check_variables in
    let k = variables_checked (alphabet_of c.args.arities.now) (programme_of c.args.programme) c.args.pattern.now c.args.position _ e in
    let v = c.variables_at in
    binds_told (alphabet_of c.args.arities.now) (programme_of c.args.programme) c.args.pattern.now c.args.position c.args.out.now e v.result v.new.out (v.ensures _ k.0) c.is_ok.result c.is_ok.ensures.value
