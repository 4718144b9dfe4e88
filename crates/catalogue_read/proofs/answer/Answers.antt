-- `catalogue_read::answer` meets its contract. The checks on the way decide each case.
use Rattle.std.proofs.Common.{sym, ◌∙◌}
use Rattle.catalogue_read.proofs.Behind.{file_headed}
use Rattle.catalogue_read.proofs.answer.Goals as goal

pub programmes_in-programmes-requires : goal.programmes_in-programmes-requires
programmes_in-programmes-requires c = file_headed _ (sym c.check_file.ensures ∙ c.in_ok-check_file.was)

pub symbols_in-requires : goal.symbols_in-requires
symbols_in-requires c = file_headed _ (sym c.check_file.ensures ∙ c.in_ok-check_file.was)
