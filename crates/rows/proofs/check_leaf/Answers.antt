-- `rows::check_leaf` meets its contract.
use Rattle.std.proofs.Common.{◌∙◌}
use lib.ListN.{drop_of_length-le}
use borrow.Author.Tests.{eq-eqb, ne_eqb}
use Rattle.rows.specs.Refusals.{some_leaf}
use Rattle.rows.proofs.Scan.{leaf_at}
use Rattle.rows.proofs.check_leaf.Goals as goal

pub returns-then-a-eq0 : goal.returns-then-a-eq0
returns-then-a-eq0 c = simp (c.loop-a.invariant, leaf_at c.args.arities.now _ c.loop-a-test.true, eq-eqb _ _ c.if-a-eq0.true)

pub loop-a-preserved : goal.loop-a-preserved
loop-a-preserved c = c.loop-a.invariant ∙ simp (leaf_at c.args.arities.now _ c.loop-a-test.true, ne_eqb _ _ c.if-a-eq0.false)

pub returns : goal.returns
unfolding some_leaf
returns c = simp (c.loop-a.invariant, drop_of_length-le c.args.arities.now c.loop-a-test.false)
