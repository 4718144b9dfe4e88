-- `tables::Compared::agree` meets its contract.
use Rattle.std.proofs.Common.{arith}
use Rattle.tables.proofs.Pass.{passed_none}
use Rattle.tables.proofs.Compared.agree.Goals as goal

pub loop-p-init : goal.loop-p-init
loop-p-init c = (omega arith, passed_none c.args.self.arities.now c.args.self.row.now c.args.self.table.now c.args.standing.now)
