-- `class_checks::Proposed::scan_leaders` meets its contract.
use Rattle.std.proofs.Common.{ℕ, ◌+◌, length, sym, subst, arith}
use Rattle.rows.specs.Tree.{Forest}
use Rattle.class_checks.specs.Repeats.{Shows, Entered}
use Rattle.class_checks.proofs.Falls.{entered_on, entered_next, reached_next, reached_end}
use Rattle.class_checks.proofs.Proposed.scan_leaders.Goals as goal
use Rattle.class_checks.proofs.Proposed.scan_leaders.Goals.{Else-not-enter_bare}

pub enter_bare-requires-clause-entered : goal.enter_bare-requires-clause-entered
enter_bare-requires-clause-entered c f h =
    let l = c.loop-bare in
    let n = c.in-Some.ensures f h in
    subst (λ (m : ℕ). Entered f c.args.self.now.programme.classes.now l.heads l.links m c.in-Some.bare) (sym l.auto.heads)
    (entered_on (l.invariant.1 f h).1 n.3 n.5)

-- the bare position is in the chains
entered : (c : Else-not-enter_bare) (f : Forest) → Shows f c.args.self.now.programme
    → Entered f c.args.self.now.programme.classes.now c.enter_bare.new.heads c.enter_bare.new.links (length c.args.heads.now) (c.in-Some.bare + 1)
entered c f h =
    let k = c.enter_bare in
    subst (λ (m : ℕ). Entered f c.args.self.now.programme.classes.now k.new.heads k.new.links m (c.in-Some.bare + 1)) c.loop-bare.auto.heads (c.if-not-enter_bare.ensures f h)

pub returns-then-n-at : goal.returns-then-n-at
returns-then-n-at c f h =
    let n = c.in-Some.ensures f h in
    reached_end (omega (arith, c.if-n-at.true, n.1, h.many)) n.4 (entered (goal.at.returns-then-n-at c).Else-not-enter_bare f h)

pub loop-bare-preserved : goal.loop-bare-preserved
loop-bare-preserved c = (
  c.if-n-at.false,
  λ f h.
      let n = c.in-Some.ensures f h in
      (reached_next h c.if-n-at.false n.4 (n.2 c.if-n-at.false), entered_next n.4 (entered (goal.at.loop-bare-preserved c).Else-not-enter_bare f h)),
)
