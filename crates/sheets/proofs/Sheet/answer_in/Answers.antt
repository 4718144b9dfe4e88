-- `sheets::Sheet::answer_in` meets its contract: what was gathered is copied, or all is answered once more in the outputs.
use Rattle.std.proofs.Common.{ℕ, List, length, sym, ap, ◌∙◌, arith}
use Rattle.rows.specs.Programme.{alphabet_of}
use Rattle.rows.specs.Sheet.{laid}
use Rattle.rows.specs.Buffers.{written}
use Rattle.sheets.specs.Sheets.{positions_of, results_of}
use Rattle.sheets.proofs.Sheets.{results_length, front_read}
use Rattle.sheets.proofs.Sheet.answer_in.Goals as goal

pub returns : goal.returns
returns g c =
    let s = c.args.self.now in
    let a = alphabet_of s.arities.now in
    let n = length s.lengths.now in
    let ps : List ℕ = laid (positions_of a s.programme.row.now s.patterns.now s.lengths.now) n in
    let rs : List ℕ = laid (results_of a s.programme.row.now s.patterns.now s.lengths.now) n in
    let told = c.answer_patterns-count.ensures in
    let gathered = front_read _ _ ps _ (told.positions.front (omega (arith, told.count, c.if-count.false))) told.count in
    let kept = front_read _ _ rs _ told.results (sym (results_length a s.programme.row.now s.patterns.now s.lengths.now n)) in (
      told.count,
      c.if-positions-count.false,
      c.copy_into.ensures ∙ ap (written c.args.positions.now 0) gathered,
      c.copy_into-2.ensures ∙ ap (written c.args.results.now 0) kept,
    )
