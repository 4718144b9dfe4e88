-- `rows::check_row` meets its contract: a short list is read from its front.
use Rattle.rows.specs.Row.{allowed}
use Rattle.rows.proofs.Scan.{read_start}
use Rattle.rows.proofs.check_row.Goals as goal

pub read_on-requires : goal.read_on-requires
read_on-requires g c = (read_start c.args.arities.now (allowed c.args.leaves c.args.arities.now) (g.E.Piece.numbers c.args.row.now), c.requires)
