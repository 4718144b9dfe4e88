-- What is read is answered.
use Rattle.std.proofs.Common.{◌≡◌, ◌∙◌, ◌*◌, sym, ap, subst, length, take, Result, Ok, Err, rules, arith}
use Rattle.std.specs.Prelude.{⊤}
use Rattle.rows.specs.Limits.{result_places}
use Rattle.rows.specs.Programme.{Programme, alphabet_of}
use Rattle.rows.specs.Refusals.{◌then◌, given, sheet, output}
use Rattle.rows.specs.declared.Refusal.{Refusal}
use Rattle.checks.specs.Checks.{results_check}
use Rattle.wire.specs.Wire.{numbers, Bytes}
use Rattle.c_lent.specs.Answer.{find_answer}
use Rattle.c_lent.specs.Lent.{lent_of, numbers_of}
use Rattle.c_lent.specs.Calls.{SheetBytes}
use Rattle.c_copied.proofs.Checks.{given_fits_lem}
use Rattle.c_copied.proofs.Reading.{Copies, copies_read}
use Rattle.c_sheets.proofs.Calls.{sheet-bytes-refused, sheet_whole}
use Rattle.c_sheets.proofs.sheet_in.Given.{Over}
use Rattle.c_sheets.proofs.sheet_in.Goals as goal
use Rattle.c_sheets.proofs.sheet_in.Goals.{After-count-2}

-- what is read and not refused
copies : (g : Over) (c : After-count-2 g) → Copies (numbers c.args.arities.now) (numbers_of (lent_of c.args.lent)) c.count.result c.count-2.result c.read_given.new.a c.read_given.new.copies.row c.read_given.new.copies.table c.read_given.new.copies.classes
copies g c = copies_read _ _ _ _ _ _ _ _ c.count.ensures c.count-2.ensures c.read_given.result c.in_ok-read_given.was c.read_given.ensures

pub returns-in_err-read_given : goal.returns-in_err-read_given
unfolding results_check
returns-in_err-read_given g c =
    let qs = numbers c.args.patterns.now in
    let ls = numbers c.args.lengths.now in
    let small : Bytes c.args.positions.now = search rules in
    let small_results : Bytes c.args.results.now = search rules in
    let is : c.from_residual.result ≡ Err c.in_err-read_given.field-0.0 = search rules in
    sheet-bytes-refused (alphabet_of (numbers c.args.arities.now)) (numbers_of (lent_of c.args.lent)) qs ls c.args.positions.now c.args.results.now small small_results _ _ is
    (ap (λ (g : Result ⊤ Refusal). g then sheet ls (length qs) then output (result_places * length ls) (length (numbers c.args.results.now))) (sym c.read_given.ensures.answer ∙ c.in_err-read_given.was))

pub programme-requires : goal.programme-requires
programme-requires g c =
    let fine = sym c.read_given.ensures.answer ∙ c.in_ok-read_given.was in
    let P = numbers_of (lent_of c.args.lent) in
    let f = given_fits_lem (alphabet_of (numbers c.args.arities.now)) P (length P.row) fine in
    (search rules, omega (arith, c.count-2.ensures, f.most, c.requires.1))

pub sheet_given-requires : goal.sheet_given-requires
sheet_given-requires g c =
    let d = copies g (goal.at.sheet_given-requires g c).After-count-2 in
    let same = c.programme.ensures in (
      subst (λ (Q : Programme). given (alphabet_of (take c.count.result c.read_given.new.a)) Q (length Q.row) ≡ Ok tt) (sym same) d.fine,
      omega (arith, ap (λ (Q : Programme). length Q.row) same, ap length d.row, d.most, c.read_given.auto.room, c.requires.1),
    )

pub returns : goal.returns
returns g c =
    let d = copies g (goal.at.returns g c).After-count-2 in
    let f = c.sheet_given in
    let s = c.read_given.new in
    sheet_whole (numbers c.args.arities.now) (numbers_of (lent_of c.args.lent)) _ _ s.a s.copies.row s.copies.table s.copies.classes d (numbers c.args.patterns.now) (numbers c.args.lengths.now)
    c.args.positions.now c.args.results.now (find_answer f.result) f.new.positions f.new.results
    (subst (λ (Q : Programme). SheetBytes (alphabet_of (take c.count.result s.a)) Q (numbers c.args.patterns.now) (numbers c.args.lengths.now) c.args.positions.now c.args.results.now (find_answer f.result) f.new.positions f.new.results) c.programme.ensures f.ensures)
