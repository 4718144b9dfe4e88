-- `bars::write_bars` meets its contract. Where nothing is refused, the form is written.
use Rattle.std.proofs.Common.{sym, ◌∙◌}
use Rattle.bars.proofs.Forms.{length_bars}
use Rattle.bars.proofs.Passing.{write_writable}
use Rattle.bars.proofs.write_bars.Goals as goal

pub lay_form-requires : goal.lay_form-requires
lay_form-requires c = write_writable _ _ _ (sym c.check_write.ensures ∙ c.in_ok-check_write.was)

pub returns : goal.returns
returns c =
    let a = c.args in
    let fine = sym c.check_write.ensures ∙ c.in_ok-check_write.was in
    record { answer = simp (fine, length_bars a.arities.now a.row.now); bars = c.lay_form.ensures ∙ simp fine }
