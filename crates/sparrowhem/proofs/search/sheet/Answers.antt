-- What the checks leave is answered.
use Rattle.std.proofs.Common.{◌≡◌, ◌∙◌, sym, Ok, length, rules}
use Rattle.rows.specs.Programme.{alphabet_of, programme_of}
use Rattle.checks.specs.Checks.{results_check}
use Rattle.sparrowhem.proofs.Sheeting.{sheet_answerable, sheet_refused, sheet_counted, sheet_short}
use Rattle.sparrowhem.proofs.Searching.{counted}
use Rattle.sparrowhem.proofs.search.sheet.Goals as goal
use Rattle.sparrowhem.proofs.search.sheet.Goals.{In_ok-check_sheet}

module _ (c : In_ok-check_sheet) where
  fine : results_check (alphabet_of c.args.arities.now) (programme_of c.args.programme) c.args.patterns.now c.args.lengths.now (length c.args.results.now) ≡ Ok tt
  fine = sym c.check_sheet.ensures ∙ c.in_ok-check_sheet.was

pub returns-in_err-check_sheet : goal.returns-in_err-check_sheet
returns-in_err-check_sheet c =
    sheet_refused (alphabet_of c.args.arities.now) (programme_of c.args.programme) c.args.patterns.now c.args.lengths.now c.args.positions.now c.args.results.now _ _ (search rules) (sym c.check_sheet.ensures ∙ c.in_err-check_sheet.was)

pub answer_sheet-requires : goal.answer_sheet-requires
answer_sheet-requires c =
    sheet_answerable (alphabet_of c.args.arities.now) (programme_of c.args.programme) c.args.patterns.now c.args.lengths.now c.args.positions.now c.args.results.now (fine (goal.at.answer_sheet-requires c).In_ok-check_sheet)

pub returns-in_err-count : goal.returns-in_err-count
returns-in_err-count c =
    let e = fine (goal.at.returns-in_err-count c).In_ok-check_sheet in
    let l = c.answer_sheet in
    let told : c.map_err.result ≡ counted l.result = search rules in
    sheet_short (alphabet_of c.args.arities.now) (programme_of c.args.programme) c.args.patterns.now c.args.lengths.now c.args.positions.now c.args.results.now e l.result l.new.positions l.new.results l.ensures _ _ (search rules) (sym told ∙ c.in_err-count.was)

pub returns : goal.returns
returns c =
    let e = fine (goal.at.returns c).In_ok-check_sheet in
    let l = c.answer_sheet in
    let told : c.map_err.result ≡ counted l.result = search rules in
    sheet_counted (alphabet_of c.args.arities.now) (programme_of c.args.programme) c.args.patterns.now c.args.lengths.now c.args.positions.now c.args.results.now e l.result l.new.positions l.new.results l.ensures _ (sym told ∙ c.in_ok-count.was)
