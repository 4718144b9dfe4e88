-- The alphabet is read, and refusals 1 to 6 are told.
use Rattle.std.proofs.Common.{◌≡◌, ◌∙◌, sym, ap, Result, Err, rules}
use Rattle.std.specs.Prelude.{⊤}
use Rattle.rows.specs.Programme.{alphabet_of, room}
use Rattle.rows.specs.Tree.{size}
use Rattle.rows.specs.Refusals.{◌then◌, replacement, position, grown}
use Rattle.rows.specs.declared.Refusal.{Refusal}
use Rattle.checks.specs.Checks.{replace_check}
use Rattle.sparrowhem.specs.Edit.{new_tree}
use Rattle.wire.specs.Wire.{numbers, Bytes}
use Rattle.c_lent.specs.Lent.{lent, AreBytes, numbers_of}
use Rattle.c_lent.specs.Reading.{sizes_check}
use Rattle.c_copied.proofs.Checks.{given_goes_on}
use Rattle.c_copied.proofs.Editing.{replaced_refused}
use Rattle.c_copied.proofs.edit.replace_under.Goals as goal

pub returns-in_err-read_sizes : goal.returns-in_err-read_sizes
unfolding replace_check
returns-in_err-read_sizes g c =
    let A = numbers c.args.arities.now in
    let b = lent c.args.row.now c.args.table.now c.args.classes.now in
    let P = numbers_of b in
    let v = numbers c.args.replacement.now in
    let row : Bytes c.args.row.now = search rules in
    let table : Bytes c.args.table.now = search rules in
    let classes : Bytes c.args.classes.now = search rules in
    let small : AreBytes b = record { row = row; table = table; classes = classes } in
    let is : c.from_residual.result ≡ Err c.in_err-read_sizes.field-0.0 = search rules in
    let told = ap (sizes_check (alphabet_of A) c.args.n) (sym c.room-places.ensures) ∙ sym c.read_sizes.ensures.answer ∙ c.in_err-read_sizes.was in
    replaced_refused (alphabet_of A) b c.args.n v c.args.p small _ _ is
    (ap (λ (g : Result ⊤ Refusal). g then replacement A v then position c.args.n c.args.p then grown (size (new_tree (alphabet_of A) P c.args.n v c.args.p)) (room P)) (given_goes_on (alphabet_of A) P c.args.n _ told))
