-- `rows::count_below` meets its contract.
use Rattle.std.proofs.Common.{ℕ, ◌≡◌, ◌≤◌, ◌*◌, ◌/◌, ◌+◌, ◌-◌, subst, arith}
use Rattle.rows.specs.Reading.{BelowTo}
use Rattle.rows.proofs.Scan.{below_part}
use Rattle.rows.proofs.count_below.Goals as goal

pub loop-k-preserved : goal.loop-k-preserved
loop-k-preserved g c =
    let w = g.E.Piece.numbers c.args.list.now in
    let from : ℕ = c.loop-k.k * 64 in
    let next : from + 64 ≡ (c.loop-k.k + 1) * 64 = omega arith in
    subst (BelowTo c.args.bound w) next
    (below_part c.args.bound w (g.E.Piece.numbers c.part.result.now) from (from + 64) c.largest.result c.loop-k.invariant (omega arith) (omega (arith, c.loop-k-test.true, c.count-n.ensures))
    c.part.ensures c.largest.ensures (omega (arith, c.from.ensures, c.if-bound-from.false)))

pub returns-then-bound-from-2 : goal.returns-then-bound-from-2
returns-then-bound-from-2 g c =
    let all : c.loop-k.k ≡ (c.count-n.result - 1) / 64 = omega (arith, c.loop-k-test.false, c.loop-k.auto.k-end) in
    subst (λ (k : ℕ). BelowTo c.args.bound (g.E.Piece.numbers c.args.list.now) (k * 64)) all c.loop-k.invariant

-- the last stretch reaches back to what is below already, or behind it
pub returns : goal.returns
returns g c =
    let w = g.E.Piece.numbers c.args.list.now in
    let n : ℕ = c.count-n.result in
    let back : n - 64 ≤ c.loop-k.k * 64 = omega (arith, c.loop-k-test.false, c.loop-k.auto.k-end) in
    let front : BelowTo c.args.bound w (n - 64) = (omega (arith, c.count-n.ensures), λ k h. c.loop-k.invariant.1 k (omega (arith, back))) in
    below_part c.args.bound w (g.E.Piece.numbers c.part-2.result.now) (n - 64) n c.largest-2.result front (omega arith) (omega (arith, c.count-n.ensures))
    c.part-2.ensures c.largest-2.ensures (omega (arith, c.from-2.ensures, c.if-bound-from-2.false))
