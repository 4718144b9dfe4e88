-- `rows::check_arities` meets its contract. Where the largest arity fits, all do.
use Rattle.std.proofs.Common.{◌+◌, ◌∙◌, length, refl, arith}
use lib.ListN.{drop_of_length-le}
use lib.Seq.{drop-length}
use borrow.Author.Tests.{lt-ltb, le-ltb}
use Rattle.rows.specs.Refusals.{arities_fit}
use Rattle.rows.specs.Limits.{arity_most}
use Rattle.rows.specs.Reading.{BelowTo}
use Rattle.rows.proofs.Scan.{arity_at, arities-behind}
use Rattle.rows.proofs.check_arities.Goals as goal

pub returns-then-largest-le-ARITY_MOST : goal.returns-then-largest-le-ARITY_MOST
unfolding arities_fit
returns-then-largest-le-ARITY_MOST c =
    let A = c.args.arities.now in
    let all : BelowTo (arity_most + 1) A (length A) = (omega arith, λ k h. omega (arith, c.largest.ensures k h, c.if-largest-le-ARITY_MOST.true)) in
    simp (arities-behind A (length A) all, drop-length A)

pub loop-i-init : goal.loop-i-init
loop-i-init c = (omega arith, refl)

pub returns-then-a-gt-ARITY_MOST : goal.returns-then-a-gt-ARITY_MOST
returns-then-a-gt-ARITY_MOST c = simp (c.loop-i.invariant.1, arity_at c.args.arities.now _ c.loop-i-test.true, lt-ltb _ _ c.if-a-gt-ARITY_MOST.true)

pub loop-i-preserved : goal.loop-i-preserved
loop-i-preserved c = (omega (arith, c.loop-i-test.true), c.loop-i.invariant.1 ∙ simp (arity_at c.args.arities.now _ c.loop-i-test.true, le-ltb _ _ c.if-a-gt-ARITY_MOST.false))

pub returns : goal.returns
unfolding arities_fit
returns c = simp (c.loop-i.invariant.1, drop_of_length-le c.args.arities.now c.loop-i-test.false)
