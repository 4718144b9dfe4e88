use Rattle.std.proofs.Common.{sym, ◌∙◌}
use Rattle.rows.proofs.Alphabets.{symbols_most}
use Rattle.catalogue_write.proofs.Granting.{few_most}
use Rattle.catalogue_write.proofs.given.check_given.Goals as goal

pub check_sizes-requires : goal.check_sizes-requires
check_sizes-requires g c =
    (symbols_most _ (sym c.check_alphabet.ensures ∙ c.in_ok-check_alphabet.was), few_most _ (sym c.check_few.ensures ∙ c.in_ok-check_few.was))
