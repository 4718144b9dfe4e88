-- Alphabet, row, table and classes are right, so the lengths decide.
use Rattle.std.proofs.Common.{ℕ, ◌≡◌, ◌∙◌, ◌*◌, sym, ap, ap₂, subst, refl, List, length, take, Result, Ok, Err, rules, arith}
use Rattle.std.proofs.Math.Seq.{take-length}
use Rattle.std.specs.Prelude.{⊤}
use Rattle.rows.specs.Limits.{result_places}
use Rattle.rows.specs.Programme.{alphabet_of, programme_of}
use Rattle.rows.specs.Refusals.{◌then◌, sheet, output}
use Rattle.rows.specs.declared.Refusal.{Refusal}
use Rattle.rows.specs.declared.Refusal.TheVariants.{SheetSize}
use Rattle.checks.specs.Checks.{results_check}
use Rattle.wire.specs.Wire.{numbers, Bytes}
use Rattle.wire.proofs.Numbers.{front_read}
use Rattle.c_lent.specs.Answer.{find_answer}
use Rattle.c_lent.specs.Calls.{SheetBytes}
use Rattle.c_sheets.proofs.Calls.{sheet-bytes-refused, lengths_many}
use Rattle.c_sheets.proofs.sheet_given.Goals as goal
use Rattle.c_sheets.proofs.sheet_given.Goals.{After-decode, After-check_results}

-- the copy of the lengths
front : (c : After-decode) → take c.count-k.result c.decode.new.room ≡ numbers c.args.lengths.now
front c =
    let l = numbers c.args.lengths.now in
    let k = c.count-k in
    ap (take k.result) c.decode.ensures
    ∙ front_read l _ k.result (omega (arith, k.ensures))
    ∙ ap (λ (n : ℕ). take n l) k.ensures
    ∙ take-length l

checked : (c : After-check_results) → take c.count-k.result c.decode.new.room ≡ numbers c.args.lengths.now → (r : Result ⊤ Refusal) → c.check_results.result ≡ r
    → results_check (alphabet_of c.args.arities.now) (programme_of c.args.programme) (numbers c.args.patterns.now) (numbers c.args.lengths.now) (length (numbers c.args.results.now)) ≡ r
unfolding results_check
checked c same r e =
    let qs = numbers c.args.patterns.now in
    let ls = numbers c.args.lengths.now in
    let copy = take c.count-k.result c.decode.new.room in
    ap (λ (g : Result ⊤ Refusal). g then sheet ls (length qs) then output (result_places * length ls) (length (numbers c.args.results.now))) c.requires.0
    ∙ ap (λ (l : List ℕ). sheet l (length qs) then output (result_places * length l) (length (numbers c.args.results.now))) (sym same)
    ∙ ap₂ (λ (m n : ℕ). sheet copy m then output (result_places * length copy) n) (sym c.count.ensures) (sym c.count-2.ensures)
    ∙ sym c.check_results.ensures
    ∙ e

pub returns-then-k-gt-SHEET_MOST : goal.returns-then-k-gt-SHEET_MOST
returns-then-k-gt-SHEET_MOST c =
    let a = alphabet_of c.args.arities.now in
    let P = programme_of c.args.programme in
    let qs = numbers c.args.patterns.now in
    let ls = numbers c.args.lengths.now in
    let m = c.count-k.ensures in
    let small : Bytes c.args.positions.now = search rules in
    let small_results : Bytes c.args.results.now = search rules in
    sheet-bytes-refused a P qs ls c.args.positions.now c.args.results.now small small_results _ _ refl
    (lengths_many a P qs ls _ c.requires.0 (omega (arith, m, c.if-k-gt-SHEET_MOST.true)) ∙ ap (λ (n : ℕ). Err (SheetSize n)) (sym m))

pub returns-in_err-check_results : goal.returns-in_err-check_results
returns-in_err-check_results c =
    let small : Bytes c.args.positions.now = search rules in
    let small_results : Bytes c.args.results.now = search rules in
    let is : c.from_residual.result ≡ Err c.in_err-check_results.field-0.0 = search rules in
    sheet-bytes-refused (alphabet_of c.args.arities.now) (programme_of c.args.programme) (numbers c.args.patterns.now) (numbers c.args.lengths.now) c.args.positions.now c.args.results.now small small_results _ _ is
    (checked (goal.at.returns-in_err-check_results c).After-check_results (front (goal.at.returns-in_err-check_results c).After-decode) _ c.in_err-check_results.was)

pub answer_sheet-requires : goal.answer_sheet-requires
answer_sheet-requires c =
    let same = front (goal.at.answer_sheet-requires c).After-decode in (
      subst (λ (l : List ℕ). results_check (alphabet_of c.args.arities.now) (programme_of c.args.programme) (numbers c.args.patterns.now) l (length (numbers c.args.results.now)) ≡ Ok tt) (sym same)
          (checked (goal.at.answer_sheet-requires c).After-check_results same _ c.in_ok-check_results.was),
      c.requires.1,
    )

pub returns : goal.returns
returns c =
    let s = c.answer_sheet in
    subst (λ (l : List ℕ). SheetBytes (alphabet_of c.args.arities.now) (programme_of c.args.programme) (numbers c.args.patterns.now) l c.args.positions.now c.args.results.now (find_answer s.result) s.new.positions s.new.results)
    (front (goal.at.returns c).After-decode) s.ensures
