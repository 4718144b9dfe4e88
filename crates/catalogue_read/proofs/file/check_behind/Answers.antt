-- `catalogue_read::file::check_behind` meets its contract. An alphabet that is too long is refused.
use Rattle.std.proofs.Common.{sym}
use Rattle.catalogue_read.proofs.Behind.{arities_long}
use Rattle.catalogue_read.proofs.file.check_behind.Goals as goal

pub returns-then-n-gt-ALPHABET_MOST : goal.returns-then-n-gt-ALPHABET_MOST
returns-then-n-gt-ALPHABET_MOST c = sym (arities_long c.args.file.now c.args.arities.now c.requires.1 c.if-n-gt-ALPHABET_MOST.true)
