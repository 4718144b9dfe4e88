-- `bars::reader::check_read_in` meets its contract. What is accepted is twice as long as its row.
use Rattle.std.proofs.Common.{ℕ, ◌≡◌, Ok, length, sym, ap, ◌∙◌, arith}
use Rattle.std.proofs.lemmas.Grind.{common_steps}
use Rattle.rows.specs.Row.{sized}
use Rattle.rows.specs.Limits.{bars_most}
use Rattle.rows.specs.Refusals.{output}
use Rattle.rows.proofs.Alphabets.{symbols_most}
use Rattle.rows.proofs.Scan.{sized_fits}
use Rattle.bars.specs.Bars.{read_check}
use Rattle.bars.proofs.Closing.{rooted_half}
use Rattle.bars.proofs.reader.check_read_in.Goals as goal

pub check_rooted-requires : goal.check_rooted-requires
check_rooted-requires c =
    let size : sized (length c.args.bars.now) bars_most ≡ Ok tt = grind (arith, common_steps) in
    let fits = sized_fits (length c.args.bars.now) bars_most size in
    record { fine = sym c.check_alphabet.ensures ∙ c.in_ok-check_alphabet.was; some = fits.0; room = omega (arith, fits.1, c.requires) }

pub returns : goal.returns
unfolding read_check
returns c =
    let A = c.args.arities.now in
    let v = c.args.bars.now in
    let fine = sym c.check_alphabet.ensures ∙ c.in_ok-check_alphabet.was in
    let closed = sym c.check_rooted.ensures ∙ c.in_ok-check_rooted.was in
    let size : sized (length v) bars_most ≡ Ok tt = grind (arith, common_steps) in
    c.check_room.ensures
    ∙ ap (λ (n : ℕ). output n c.args.places) (rooted_half A v (symbols_most A fine) closed)
    ∙ simp (fine, size, closed)
