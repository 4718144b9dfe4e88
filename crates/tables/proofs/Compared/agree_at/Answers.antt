-- `tables::Compared::agree_at` meets its contract: the symbol is read, and its entry is the row's.
use Rattle.tables.proofs.Pass.{fresh_more}
use Rattle.tables.proofs.Compared.agree_at.Goals as goal

pub returns-then-self-p : goal.returns-then-self-p
returns-then-self-p c =
    let a = c.args in
    fresh_more a.self.arities.now a.self.row.now a.self.table.now a.standing.now c.stand_at.new.standing a.trees _ a.p _ _ c.args.self.sized c.requires.p_in_bounds.1 c.requires.passed c.in_ok-more.ensures c.if-self-p.true
