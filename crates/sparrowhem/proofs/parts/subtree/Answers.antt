-- The span that the companion answers is that of the subtree.
use Rattle.std.proofs.Common.{◌∙◌, sym, arith, ◌<◌, ◌≤◌, length}
use Rattle.rows.specs.Programme.{alphabet_of, programme}
use Rattle.sparrowhem.proofs.Handing.{Spans, answer_span, answer_none, span_within, span_part}
use Rattle.sparrowhem.proofs.parts.subtree.Goals as goal
use Rattle.sparrowhem.proofs.parts.subtree.Goals.{In-Ok}

-- the companion has answered with a span
module _ (c : In-Ok) where
  spans : Spans (alphabet_of c.args.arities.now) (programme c.args.row.now c.args.table.now c.args.classes.now) c.args.position c.in-Ok.begin c.in-Ok.end
  spans = answer_span (alphabet_of c.args.arities.now) (programme c.args.row.now c.args.table.now c.args.classes.now) c.args.position _ _ (sym c.subtree_answer.ensures ∙ c.in-Ok.is)

  within : (c.in-Ok.begin < c.in-Ok.end) × (c.in-Ok.end ≤ length c.args.row.now)
  within = span_within (alphabet_of c.args.arities.now) (programme c.args.row.now c.args.table.now c.args.classes.now) c.args.position _ _ spans

pub offset_bounds-row-begin : goal.offset_bounds-row-begin
offset_bounds-row-begin c = omega (arith, within (goal.at.offset_bounds-row-begin c).In-Ok)

pub slice_bounds-result-count-in-Ok : goal.slice_bounds-result-count-in-Ok
slice_bounds-result-count-in-Ok c = omega (arith, within (goal.at.slice_bounds-result-count-in-Ok c).In-Ok)

pub slice_bounds-result-start-in-Ok : goal.slice_bounds-result-start-in-Ok
slice_bounds-result-start-in-Ok c = omega (arith, within (goal.at.slice_bounds-result-start-in-Ok c).In-Ok)

pub slice_bounds-result-end-in-Ok : goal.slice_bounds-result-end-in-Ok
slice_bounds-result-end-in-Ok c = omega (arith, within (goal.at.slice_bounds-result-end-in-Ok c).In-Ok)

pub returns-in-Err-clause-result_value : goal.returns-in-Err-clause-result_value
returns-in-Err-clause-result_value c =
    sym (answer_none (alphabet_of c.args.arities.now) (programme c.args.row.now c.args.table.now c.args.classes.now) c.args.position _ (sym c.subtree_answer.ensures ∙ c.in-Err.is))

pub returns-in-Ok-clause-result_value : goal.returns-in-Ok-clause-result_value
returns-in-Ok-clause-result_value c =
    sym (span_part (alphabet_of c.args.arities.now) (programme c.args.row.now c.args.table.now c.args.classes.now) c.args.position _ _ (spans (goal.at.returns-in-Ok-clause-result_value c).In-Ok))
