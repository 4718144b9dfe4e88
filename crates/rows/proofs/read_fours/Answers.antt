-- `rows::read_fours` meets its contract. Four symbols are read, each where one is due.
use Rattle.std.proofs.Common.{◌≡◌, ◌+◌, subst, arith}
use Rattle.rows.specs.Reading.{SymbolsTo}
use Rattle.rows.proofs.Stretches.{read_first, read_second, read_third, read_fourth}
use Rattle.rows.proofs.read_fours.Goals as goal

pub returns-then-second-eq1 : goal.returns-then-second-eq1
returns-then-second-eq1 g c =
    let p = c.loop-i.i in
    let none : p + (c.loop-i.more + c.arity_at.result) ≡ p + 1 = omega (arith, c.if-second-eq1.true) in
    subst (SymbolsTo c.args.arities.now (g.E.Piece.numbers c.args.row.now) (p + 1)) none
    (read_first _ _ p c.loop-i.more c.args.end c.loop-i.invariant c.requires.below c.loop-i-test.true c.if-more-eq0.false _ c.arity_at.ensures)

pub returns-then-third-eq2 : goal.returns-then-third-eq2
returns-then-third-eq2 g c =
    let p = c.loop-i.i in
    let none : p + (c.loop-i.more + c.arity_at.result + c.arity_at-in-loop-i.result) ≡ p + 2 = omega (arith, c.if-third-eq2.true) in
    subst (SymbolsTo c.args.arities.now (g.E.Piece.numbers c.args.row.now) (p + 2)) none
    (read_second _ _ p c.loop-i.more c.args.end c.loop-i.invariant c.requires.below c.loop-i-test.true c.if-more-eq0.false _ c.arity_at.ensures
    c.if-second-eq1.false _ c.arity_at-in-loop-i.ensures)

pub returns-then-fourth-eq3 : goal.returns-then-fourth-eq3
returns-then-fourth-eq3 g c =
    let p = c.loop-i.i in
    let none : p + (c.loop-i.more + c.arity_at.result + c.arity_at-in-loop-i.result + c.arity_at-in-loop-i-2.result) ≡ p + 3 = omega (arith, c.if-fourth-eq3.true) in
    subst (SymbolsTo c.args.arities.now (g.E.Piece.numbers c.args.row.now) (p + 3)) none
    (read_third _ _ p c.loop-i.more c.args.end c.loop-i.invariant c.requires.below c.loop-i-test.true c.if-more-eq0.false _ c.arity_at.ensures
    c.if-second-eq1.false _ c.arity_at-in-loop-i.ensures c.if-third-eq2.false _ c.arity_at-in-loop-i-2.ensures)

pub loop-i-preserved : goal.loop-i-preserved
loop-i-preserved g c =
    read_fourth _ _ c.loop-i.i c.loop-i.more c.args.end c.loop-i.invariant c.requires.below c.loop-i-test.true c.if-more-eq0.false _ c.arity_at.ensures
    c.if-second-eq1.false _ c.arity_at-in-loop-i.ensures c.if-third-eq2.false _ c.arity_at-in-loop-i-2.ensures c.if-fourth-eq3.false _ c.arity_at-in-loop-i-3.ensures
