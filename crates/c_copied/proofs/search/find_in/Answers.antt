-- What is read is searched.
use Rattle.std.proofs.Common.{◌≡◌, ◌∙◌, sym, ap, subst, length, take, Result, Ok, Err, rules, arith}
use Rattle.std.specs.Prelude.{⊤}
use Rattle.rows.specs.Programme.{Programme, alphabet_of}
use Rattle.rows.specs.Refusals.{◌then◌, given, pattern}
use Rattle.rows.specs.declared.Refusal.{Refusal}
use Rattle.checks.specs.Checks.{search_check}
use Rattle.wire.specs.Wire.{numbers, Bytes}
use Rattle.c_lent.specs.Answer.{find_answer}
use Rattle.c_lent.specs.Lent.{lent_of, numbers_of}
use Rattle.c_lent.specs.Calls.{FoundBytes}
use Rattle.c_copied.proofs.Checks.{given_fits_lem}
use Rattle.c_copied.proofs.Reading.{Copies, copies_read}
use Rattle.c_copied.proofs.Found.{found-refused, found_whole}
use Rattle.c_copied.proofs.search.find_in.Given.{Over}
use Rattle.c_copied.proofs.search.find_in.Goals as goal
use Rattle.c_copied.proofs.search.find_in.Goals.{After-count, After-count-2}

-- what is read and not refused
copies : (g : Over) (c : After-count-2 g) → Copies (numbers c.args.arities.now) (numbers_of (lent_of c.args.lent)) c.count-2.result c.count.result c.read_given.new.a c.read_given.new.copies.row c.read_given.new.copies.table c.read_given.new.copies.classes
copies g c = copies_read _ _ _ _ _ _ _ _ c.count-2.ensures c.count.ensures c.read_given.result c.in_ok-read_given.was c.read_given.ensures

pub returns-in_err-read_given : goal.returns-in_err-read_given
unfolding search_check
returns-in_err-read_given g c =
    let A = numbers c.args.arities.now in
    let q = numbers c.args.pattern.now in
    let small : Bytes c.args.out.now = search rules in
    let is : c.from_residual.result ≡ Err c.in_err-read_given.field-0.0 = search rules in
    found-refused (alphabet_of A) (numbers_of (lent_of c.args.lent)) q c.args.out.now small _ _ is
    (ap (λ (g : Result ⊤ Refusal). g then pattern A q) (sym c.read_given.ensures.answer ∙ c.in_err-read_given.was))

pub programme-programme-requires : goal.programme-programme-requires
programme-programme-requires g c =
    let fine = sym c.read_given.ensures.answer ∙ c.in_ok-read_given.was in
    let P = numbers_of (lent_of c.args.lent) in
    let f = given_fits_lem (alphabet_of (numbers c.args.arities.now)) P (length P.row) fine in
    (search rules, omega (arith, c.count.ensures, f.most, c.requires.row_in_bounds.1))

pub find_pattern-requires : goal.find_pattern-requires
find_pattern-requires g c =
    let d = copies g (goal.at.find_pattern-requires g c).After-count-2 in
    let a = alphabet_of (take c.count-2.result c.read_given.new.a) in
    let same = c.programme-programme.ensures in
    (subst (λ (Q : Programme). given a Q (length Q.row) ≡ Ok tt) (sym same) d.fine, omega (arith, ap (λ (Q : Programme). length Q.row) same, ap length d.row, d.most, c.read_given.auto.room, c.requires.row_in_bounds.1))

pub returns : goal.returns
returns g c =
    let d = copies g (goal.at.returns g c).After-count-2 in
    let A = numbers c.args.arities.now in
    let q = numbers c.args.pattern.now in
    let f = c.find_pattern in
    let s = c.read_given.new in
    found_whole A (numbers_of (lent_of c.args.lent)) _ _ s.a s.copies.row s.copies.table s.copies.classes d q c.args.out.now (find_answer f.result) f.new.out
    (subst (λ (Q : Programme). FoundBytes (alphabet_of (take c.count-2.result s.a)) Q q c.args.out.now (find_answer f.result) f.new.out) c.programme-programme.ensures f.ensures)
