-- `patterns::count_singly` meets its contract.
use Rattle.std.proofs.Common.{◌≡◌, sym, ◌∙◌, arith}
use borrow.Author.Tests.{eq-eqb, ne_eqb}
use Rattle.patterns.proofs.Fronts.{counted_start, counted_more, counted_left, counted_end}
use Rattle.patterns.proofs.count_singly.Goals as goal

pub loop-i-init : goal.loop-i-init
loop-i-init c = let g = c.args in counted_start g.row.now g.a g.b g.n 0 c.requires.0 c.requires.1

pub loop-i-preserved : goal.loop-i-preserved
loop-i-preserved c =
    let g = c.args in
    c.loop-i.invariant ∙ counted_more g.row.now g.a g.b g.n c.loop-i.i c.requires.0 c.requires.1 c.loop-i-test.true (eq-eqb _ _ c.if-row-a.false)

pub returns-then-row-a : goal.returns-then-row-a
returns-then-row-a c =
    let g = c.args in
    sym (c.loop-i.invariant ∙ counted_left g.row.now g.a g.b g.n c.loop-i.i c.requires.0 c.requires.1 c.loop-i-test.true (ne_eqb _ _ c.if-row-a.true))

pub returns : goal.returns
returns c =
    let g = c.args in
    let e : g.n ≡ c.loop-i.i = omega arith in
    e ∙ sym (c.loop-i.invariant ∙ counted_end g.row.now g.a g.b g.n c.loop-i.i c.requires.0 c.requires.1 c.loop-i-test.false)
