-- `searches::pass_over` meets its contract.
use Rattle.std.proofs.Common.{◌≡◌, ◌+◌, ◌*◌, ◌-◌, List, ℕ, length, take, drop, arith}
use mathlib.Core.Path.{subst}
use Rattle.searches.specs.Searches.{Without}
use Rattle.searches.proofs.Searching.{without_part}
use Rattle.searches.proofs.pass_over.Goals as goal

pub loop-k-preserved : goal.loop-k-preserved
loop-k-preserved c =
    let g = c.args in
    let p = g.from + c.loop-k.k * 64 in
    let long : p + 64 - p ≡ 64 = omega arith in
    let on : p + 64 ≡ g.from + (c.loop-k.k + 1) * 64 = omega arith in
    let part : List ℕ → Type 0 = λ v. Without v g.s 0 (length v) in
    subst (λ (n : ℕ). Without g.row.now g.s g.from n) on
    (without_part g.row.now g.s g.from p 64 (omega (arith, c.loop-k-test.true)) c.loop-k.invariant
    (subst (λ (k : ℕ). part (take k (drop p g.row.now))) long (c.stands_in.ensures c.if-stands_in.false)))
