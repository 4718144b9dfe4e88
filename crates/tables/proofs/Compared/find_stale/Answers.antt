-- `tables::Compared::find_stale` meets its contract. Where one tree stands before the row's begin, the row is one tree's.
use Rattle.std.proofs.Common.{◌≡◌, ◌-◌, ◌+◌, subst, arith}
use Rattle.tables.specs.Beside.{Passed}
use Rattle.tables.proofs.Pass.{passed_none, fresh_more, stale_more, passed_all, stop_count}
use Rattle.tables.proofs.Compared.find_stale.Goals as goal
use Rattle.tables.proofs.Compared.find_stale.Goals.{In-loop-p, After-loop-p}

pub loop-p-init : goal.loop-p-init
loop-p-init c = passed_none c.args.self.arities.now c.args.self.row.now c.args.self.table.now c.args.standing.now

-- what is read behind the symbol before p
behind : (c : In-loop-p) → Passed c.args.self.arities.now c.args.self.row.now c.args.self.table.now c.loop-p.standing c.loop-p.trees c.loop-p.stale (c.loop-p.p - 1 + 1)
behind c =
    let up : c.loop-p.p ≡ c.loop-p.p - 1 + 1 = omega arith in
    subst (Passed c.args.self.arities.now c.args.self.row.now c.args.self.table.now c.loop-p.standing c.loop-p.trees c.loop-p.stale) up c.loop-p.invariant

pub loop-p-preserved-then-self-p : goal.loop-p-preserved-then-self-p
loop-p-preserved-then-self-p c =
    let a = c.args in
    stale_more a.self.arities.now a.self.row.now a.self.table.now c.loop-p.standing c.stand_at.new.standing c.loop-p.trees c.loop-p.stale _ _ _ c.args.self.sized (omega arith) (behind (goal.at.loop-p-preserved-then-self-p c).In-loop-p) c.in_ok-more.ensures c.if-self-p.true

pub loop-p-preserved : goal.loop-p-preserved
loop-p-preserved c =
    let a = c.args in
    fresh_more a.self.arities.now a.self.row.now a.self.table.now c.loop-p.standing c.stand_at.new.standing c.loop-p.trees c.loop-p.stale _ _ _ c.args.self.sized (omega arith) (behind (goal.at.loop-p-preserved c).In-loop-p) c.in_ok-more.ensures c.if-self-p.false

-- the whole row is read
whole : (c : After-loop-p) → Passed c.args.self.arities.now c.args.self.row.now c.args.self.table.now c.loop-p.standing c.loop-p.trees c.loop-p.stale 0
whole c =
    let done : c.loop-p.p ≡ 0 = omega arith in
    subst (Passed c.args.self.arities.now c.args.self.row.now c.args.self.table.now c.loop-p.standing c.loop-p.trees c.loop-p.stale) done c.loop-p.invariant

pub returns-then-trees-eq1 : goal.returns-then-trees-eq1
returns-then-trees-eq1 c = passed_all _ _ _ _ _ _ (whole (goal.at.returns-then-trees-eq1 c).After-loop-p) c.if-trees-eq1.true

pub returns-else-trees-eq1 : goal.returns-else-trees-eq1
returns-else-trees-eq1 c = stop_count _ _ _ _ _ _ (whole (goal.at.returns-else-trees-eq1 c).After-loop-p) c.if-trees-eq1.false
