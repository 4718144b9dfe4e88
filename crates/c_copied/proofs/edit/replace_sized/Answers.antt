-- The row is within the limit, and so is what counts of the replacement.
use Rattle.std.proofs.Common.{arith}
use Rattle.rows.specs.Programme.{alphabet_of}
use Rattle.c_lent.specs.Lent.{lent, numbers_of}
use Rattle.c_copied.proofs.Checks.{sizes_left}
use Rattle.c_copied.proofs.edit.replace_sized.Goals as goal

pub overflow_add-most : goal.overflow_add-most
overflow_add-most c =
    let f = sizes_left (alphabet_of c.args.arities.now) (numbers_of (lent c.args.row.now c.args.table.now c.args.classes.now)) c.args.n c.requires in
    omega (arith, f.most, c.min.ensures)
