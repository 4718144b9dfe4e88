use Rattle.std.proofs.Common.{sym, ◌∙◌, arith}
use Rattle.catalogue_write.proofs.Granting.{given_is, symbols-few, rows_few}
use Rattle.catalogue_write.proofs.given.check_write.Goals as goal

pub check_rows-requires-clause-given : goal.check_rows-requires-clause-given
check_rows-requires-clause-given g c = given_is _ _ _ _ (sym c.check_given.ensures ∙ c.in_ok-check_given.was)

pub check_rows-requires-clause-small : goal.check_rows-requires-clause-small
check_rows-requires-clause-small g c = rows_few _ _ _ _ (sym c.check_given.ensures ∙ c.in_ok-check_given.was)

pub size_of-requires : goal.size_of-requires
size_of-requires g c =
    let h = sym c.check_given.ensures ∙ c.in_ok-check_given.was in
    (symbols-few _ _ _ _ h, (given_is _ _ _ _ h).few, omega (arith, rows_few _ _ _ _ h, c.count.ensures))
