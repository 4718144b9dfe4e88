-- The entry at the position is the row's, since the table is right.
use Rattle.std.proofs.Common.{◌≡◌, ◌∙◌, sym, Err, rules, arith}
use Rattle.rows.specs.Programme.{alphabet_of, programme_of}
use Rattle.tables.proofs.Given.{right_entry}
use Rattle.checks.proofs.Passing.{Stands, subtree_stands}
use Rattle.sparrowhem.specs.Parts.{subtree_answer}
use Rattle.sparrowhem.proofs.parts.subtree_answer.Goals as goal
use Rattle.sparrowhem.proofs.parts.subtree_answer.Goals.{In_ok-check_subtree}

-- nothing is refused: the position lies in the row, whose table is right
stands : (c : In_ok-check_subtree) → Stands (alphabet_of c.args.arities.now) (programme_of c.args.programme) c.args.position
stands c =
    subtree_stands (alphabet_of c.args.arities.now) (programme_of c.args.programme) c.args.position (sym c.check_subtree.ensures ∙ c.in_ok-check_subtree.was)

pub returns-in_err-check_subtree : goal.returns-in_err-check_subtree
unfolding subtree_answer
returns-in_err-check_subtree c =
    let told : c.from_residual.result ≡ Err c.in_err-check_subtree.field-0.0 = search rules in
    told ∙ simp (sym c.check_subtree.ensures ∙ c.in_err-check_subtree.was)

pub offset_bounds-programme-position : goal.offset_bounds-programme-position
offset_bounds-programme-position c =
    let h = stands (goal.at.offset_bounds-programme-position c).In_ok-check_subtree in
    omega (arith, h.below, h.right.sized.most)

pub bounds-programme-position : goal.bounds-programme-position
bounds-programme-position c =
    let h = stands (goal.at.bounds-programme-position c).In_ok-check_subtree in
    omega (arith, h.below, h.right.sized.fits)

pub returns : goal.returns
unfolding subtree_answer
returns c =
    let P = c.args.programme in
    let h = stands (goal.at.returns c).In_ok-check_subtree in
    simp (sym c.check_subtree.ensures ∙ c.in_ok-check_subtree.was, c.from.ensures, right_entry c.args.arities.now P.row.now P.table.now h.right c.args.position h.below)
