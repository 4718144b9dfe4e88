-- `plain::tree_length` meets its contract.
use Rattle.std.proofs.Common.{◌≡◌, ◌+◌, arith}
use Rattle.plain.proofs.Reach.{counting_start, counting_end}
use Rattle.plain.proofs.tree_length.Goals as goal

pub loop-i-init : goal.loop-i-init
loop-i-init c = counting_start _ _ c.requires.1

pub returns-then-second-i : goal.returns-then-second-i
returns-then-second-i c = counting_end _ _ _ _ c.due_after-second.ensures (omega (arith, c.if-second-i.true))

pub returns-then-third-i : goal.returns-then-third-i
returns-then-third-i c =
    let on : c.loop-i.i + 2 ≡ c.loop-i.i + 1 + 1 = omega arith in
    rw on (counting_end _ _ _ _ c.due_after-third.ensures (omega (arith, c.if-third-i.true)))

pub returns-then-fourth-i : goal.returns-then-fourth-i
returns-then-fourth-i c =
    let on : c.loop-i.i + 3 ≡ c.loop-i.i + 2 + 1 = omega arith in
    rw on (counting_end _ _ _ _ c.due_after-fourth.ensures (omega (arith, c.if-fourth-i.true)))

pub returns : goal.returns
returns c = counting_end _ _ _ _ c.loop-i.invariant c.loop-i-test.false
