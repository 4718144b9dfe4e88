-- Refusals 1 to 6 are told by the sizes, the rest by the copies.
use Rattle.std.proofs.Common.{ℕ, ◌≡◌, ◌∙◌, ◌≤◌, sym, ap, ap₂, subst, List, length, take, Result, Ok, rules, arith, length-take-le}
use Rattle.std.specs.Prelude.{⊤}
use Rattle.rows.specs.Programme.{Programme, alphabet_of, programme, room}
use Rattle.rows.specs.Refusals.{◌then◌, keeps, symbols, fresh, classed}
use Rattle.rows.specs.declared.Refusal.{Refusal}
use Rattle.rows.specs.declared.Refusal.TheVariants.{Row}
use Rattle.rows.proofs.Passing.{Fits}
use Rattle.wire.specs.Wire.{numbers}
use Rattle.c_lent.specs.Lent.{lent_of, numbers_of}
use Rattle.c_lent.specs.Reading.{sizes_check}
use Rattle.c_copied.specs.Copies.{Copied}
use Rattle.c_copied.proofs.Checks.{sizes_left, given_goes_on}
use Rattle.c_copied.proofs.Reading.{read_refused, read_told}
use Rattle.c_copied.proofs.copies.read_given.Given.{Over}
use Rattle.c_copied.proofs.copies.read_given.Goals as goal
use Rattle.c_copied.proofs.copies.read_given.Goals.{After-read_sizes, In_ok-read_sizes, After-programme}

-- what the call is lent, and the check of the sizes
sized : (g : Over) (c : After-read_sizes g) (r : Result ⊤ Refusal) → c.read_sizes.result ≡ r
    → sizes_check (alphabet_of (numbers c.args.arities.now)) (length (numbers_of (lent_of c.args.lent)).row) (room (numbers_of (lent_of c.args.lent))) ≡ r
sized g c r e =
    ap₂ (sizes_check (alphabet_of (numbers c.args.arities.now))) (sym c.count-n.ensures) (sym c.room.ensures) ∙ sym c.read_sizes.ensures.answer ∙ e

fits : (g : Over) (c : In_ok-read_sizes g) → Fits (length (numbers_of (lent_of c.args.lent)).row) (room (numbers_of (lent_of c.args.lent)))
fits g c =
    let P = numbers_of (lent_of c.args.lent) in
    sizes_left (alphabet_of (numbers c.args.arities.now)) P (length P.row) (ap₂ (sizes_check (alphabet_of (numbers c.args.arities.now))) (sym c.count-n.ensures) (sym c.room.ensures) ∙ sym c.read_sizes.ensures.answer ∙ c.in_ok-read_sizes.was)

pub returns-in_err-read_sizes : goal.returns-in_err-read_sizes
returns-in_err-read_sizes g c =
    let P = numbers_of (lent_of c.args.lent) in
    let A = numbers c.args.arities.now in
    let z = c.in_err-read_sizes.was in
    read_refused A P _ (given_goes_on (alphabet_of A) P (length P.row) _ (sized g (goal.at.returns-in_err-read_sizes g c).After-read_sizes _ z)) _ (search rules) _ _ _ _

pub copy-requires : goal.copy-requires
copy-requires g c =
    let f = fits g (goal.at.copy-requires g c).In_ok-read_sizes in
    (search rules, (omega (arith, c.count-n.ensures, f.room), omega (arith, c.count-n.ensures, f.most, c.requires.row_in_bounds.0)))

pub programme-requires : goal.programme-requires
programme-requires g c =
    let f = fits g (goal.at.programme-requires g c).In_ok-read_sizes in
    (search rules, omega (arith, c.count-n.ensures, f.most, c.requires.row_in_bounds.0))

pub check_beside-requires : goal.check_beside-requires
check_beside-requires g c =
    let f = fits g (goal.at.check_beside-requires g c).In_ok-read_sizes in
    let n = c.count-n in
    let s = c.copy.new.self in
    let long = c.copy.ensures.long in
    let within : n.result ≤ g.row.N = omega (arith, n.ensures, f.most, c.requires.row_in_bounds.0) in
    let in_row : n.result ≤ length s.row = omega (arith, within, long.0) in
    let in_table : n.result ≤ length s.table = omega (arith, within, long.1) in
    let in_classes : n.result ≤ length s.classes = omega (arith, within, long.2) in
    let row = ap (λ (Q : Programme). length Q.row) c.programme.ensures ∙ length-take-le n.result s.row in_row in
    let table = ap (λ (Q : Programme). length Q.table) c.programme.ensures ∙ length-take-le n.result s.table in_table in
    let classes = ap (λ (Q : Programme). length Q.classes) c.programme.ensures ∙ length-take-le n.result s.classes in_classes in
    (record { most = omega (arith, row, n.ensures, f.most); fits = omega (arith, row, table) }, omega (arith, row, classes), omega (arith, row, n.ensures, f.most, c.requires.row_in_bounds.1))

pub returns : goal.returns
returns g c =
    let P = numbers_of (lent_of c.args.lent) in
    let A = numbers c.args.arities.now in
    let n = c.count-n in
    let s = c.copy.new.self in
    let o = (goal.at.returns g c).In_ok-read_sizes in
    let z = sized g (goal.at.returns g c).After-read_sizes (Ok tt) c.in_ok-read_sizes.was in
    let copied : Copied P (length P.row) s.row s.table s.classes = subst (λ (i : ℕ). Copied P i s.row s.table s.classes) n.ensures c.copy.ensures.copied in
    let f = fits g o in
    let long = c.copy.ensures.long in
    let in_table : length P.row ≤ length s.table = omega (arith, f.most, c.requires.row_in_bounds.0, long.1) in
    let in_classes : length P.row ≤ length s.classes = omega (arith, f.most, c.requires.row_in_bounds.0, long.2) in
    let alphabet : take (length A) c.read_sizes.new.room ≡ A = c.read_sizes.ensures.front c.in_ok-read_sizes.was in
    let says : List ℕ → Programme → Result ⊤ Refusal = λ l Q. symbols Row l Q.row then fresh Row l Q.row Q.table then classed Row l Q.row Q.classes in
    let cut : ℕ → Programme = λ i. programme (take i s.row) (take i s.table) (take i s.classes) in
    let kept : c.map_err.result ≡ keeps Row c.check_beside.result = search rules in
    read_told A P s.row s.table s.classes z copied in_table in_classes _ alphabet c.map_err.result
    (kept ∙ c.check_beside.ensures Row ∙ ap (says (take c.count-k.result c.read_sizes.new.room)) c.programme.ensures
    ∙ ap₂ (λ (l : List ℕ) (i : ℕ). says l (cut i)) (ap (λ (k : ℕ). take k c.read_sizes.new.room) c.count-k.ensures ∙ alphabet) n.ensures)
