-- `rows::check_reading` meets its contract. A list whose length is accepted is short enough to be read.
use Rattle.std.proofs.Common.{ℕ, length, sym, ap, ◌∙◌, arith}
use Rattle.rows.specs.Row.{sized}
use Rattle.rows.proofs.Scan.{sized_fits}
use Rattle.rows.proofs.check_reading.Goals as goal

pub check_row-requires : goal.check_row-requires
check_row-requires g c =
    let a = c.args in
    let told = c.check_size.ensures ∙ ap (λ (n : ℕ). sized n a.most) c.count.ensures in
    omega (arith, c.requires, (sized_fits (length (g.E.Piece.numbers a.list.now)) a.most (sym told ∙ c.in_ok-check_size.was)).1)
