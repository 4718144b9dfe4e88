-- `rows::check_long` meets its contract: the front is read, and reading goes on from there.
use Rattle.rows.proofs.check_long.Goals as goal

pub read_on-requires : goal.read_on-requires
read_on-requires g c = (c.read_symbols-front.ensures.3 c.args.leaves, c.requires.1)
