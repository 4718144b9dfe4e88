-- `catalogue_read::file::check_under` meets its contract. What the head says is what the checks are called with.
use Rattle.std.proofs.Common.{List, ℕ, ◌≡◌, sym, ap, ◌∙◌, map, drop, Err, arith}
use Rattle.std.proofs.lemmas.Grind.{common_steps}
use Rattle.rows.specs.Programme.{alphabet_of}
use Rattle.rows.specs.Refusals.{alphabet}
use Rattle.rows.proofs.Passing.{both_fine}
use Rattle.wire.specs.Wire.{numbers}
use Rattle.catalogue.specs.Reading.{arities_in, entries_of}
use Rattle.catalogue.specs.Refusals.{rises, programme_of}
use Rattle.catalogue_read.specs.Behind.{behind_head}
use Rattle.catalogue_read.proofs.Behind.{headed, fits, contents_is, rows_are}
use Rattle.catalogue_read.proofs.file.check_under.Goals as goal

pub programmes_in-n-requires : goal.programmes_in-n-requires
programmes_in-n-requires c = headed _ c.requires.0

pub first_row_in-first-requires : goal.first_row_in-first-requires
first_row_in-first-requires c = headed _ c.requires.0

pub check_contents-requires : goal.check_contents-requires
check_contents-requires c = fits c.args.file.now c.requires.0 c.programmes_in-n.result c.first_row_in-first.result c.programmes_in-n.ensures.0 c.first_row_in-first.ensures

pub check_rows-requires-clause-n_in_bounds : goal.check_rows-requires-clause-n_in_bounds
check_rows-requires-clause-n_in_bounds c = fits c.args.file.now c.requires.0 c.programmes_in-n.result c.first_row_in-first.result c.programmes_in-n.ensures.0 c.first_row_in-first.ensures

pub check_rows-requires-clause-file_value : goal.check_rows-requires-clause-file_value
check_rows-requires-clause-file_value c =
    let rising = rises 12 4 0 (map programme_of (entries_of c.programmes_in-n.result (drop 2 (numbers c.args.file.now)))) in
    (both_fine rising _ (sym c.check_contents.ensures ∙ c.in_ok-check_contents.was)).1

pub returns-in_err-check_alphabet : goal.returns-in_err-check_alphabet
unfolding behind_head
returns-in_err-check_alphabet c =
    let failed : c.from_residual.result ≡ Err c.in_err-check_alphabet.field-0.0 = grind (arith, common_steps) in
    failed ∙ sym (simp (ap (λ (A : List ℕ). alphabet (alphabet_of A)) (sym c.requires.1) ∙ sym c.check_alphabet.ensures ∙ c.in_err-check_alphabet.was))

pub returns-in_err-check_contents : goal.returns-in_err-check_contents
unfolding behind_head
returns-in_err-check_contents c =
    let fine = ap (λ (A : List ℕ). alphabet (alphabet_of A)) (sym c.requires.1) ∙ sym c.check_alphabet.ensures ∙ c.in_ok-check_alphabet.was in
    let found = contents_is c.args.file.now c.programmes_in-n.result c.programmes_in-n.ensures.0 c.first_row_in-first.result c.first_row_in-first.ensures
    ∙ sym c.check_contents.ensures ∙ c.in_err-check_contents.was in
    let failed : c.from_residual-in_err-check_contents.result ≡ Err c.in_err-check_contents.field-0.0 = grind (arith, common_steps) in
    failed ∙ sym (simp (fine, found))

pub returns : goal.returns
unfolding behind_head
returns c =
    let f = c.args.file.now in
    let n = c.programmes_in-n in
    let fine = ap (λ (A : List ℕ). alphabet (alphabet_of A)) (sym c.requires.1) ∙ sym c.check_alphabet.ensures ∙ c.in_ok-check_alphabet.was in
    let found = contents_is f n.result n.ensures.0 c.first_row_in-first.result c.first_row_in-first.ensures
    ∙ sym c.check_contents.ensures ∙ c.in_ok-check_contents.was in
    c.check_rows.ensures ∙ sym (rows_are f n.result n.ensures.0 (arities_in f) c.args.arities.now c.requires.1) ∙ simp (fine, found)
