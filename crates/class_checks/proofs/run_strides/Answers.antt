-- `class_checks::run_strides` meets its contract.
use Rattle.std.proofs.Common.{ℕ, ◌≡◌, ◌+◌, ◌<◌, get_or, ltb, eqb, arith, rules}
use borrow.Author.Tests.{ltb-true, eqb-true}
use Rattle.class_checks.proofs.Falls.{along_none, along_many}
use Rattle.class_checks.proofs.run_strides.Goals as goal

pub loop-r-init : goal.loop-r-init
loop-r-init c =
    let P = c.args.programme in
    along_none P.table.now P.classes.now c.args.q c.args.n c.requires.0 c.requires.1

pub loop-r-preserved : goal.loop-r-preserved
loop-r-preserved c =
    let t = c.args.programme.table.now in
    let own = c.args.programme.classes.now in
    let r : ℕ = c.loop-r.r in
    let deep : (k : ℕ) → k < 32 → r + k + 1 < get_or t (r + k) 0 =
    λ k h. omega (arith, ltb-true _ _ (c.all_hold-deep.ensures (λ x p. ltb p x) (search rules) c.if-not-deep.false k h)) in
    let own : (k : ℕ) → k < 32 → get_or own (r + 1 + k) 0 ≡ r + 1 + k =
    λ k h. eqb-true _ _ (c.all_hold.ensures (λ x p. eqb x p) (search rules) c.if-not-all_hold.false k h) in
    along_many 32 c.loop-r.invariant deep own
