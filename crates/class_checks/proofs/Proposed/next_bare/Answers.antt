-- `class_checks::Proposed::next_bare` meets its contract.
use Rattle.std.proofs.Common.{ℕ, ◌≡◌, ◌+◌, ◌-◌, ◌<◌, length, refl, sym, subst, arith}
use Rattle.std.proofs.Math.Logic.{∥∥₁_elim}
use Rattle.std.proofs.Props.{props}
use Rattle.rows.specs.Tree.{Forest}
use Rattle.classes.specs.Shown.{Shown}
use Rattle.class_checks.specs.Repeats.{Reached, Unbare, Run}
use Rattle.class_checks.proofs.Parts.{seen_end}
use Rattle.class_checks.proofs.Falls.{reached_past, run_reached}
use Rattle.class_checks.proofs.Proposed.next_bare.Goals as goal
use Rattle.class_checks.proofs.Proposed.next_bare.Goals.{After-run_from-leader}

-- where the run comes to
ran : (c : After-run_from-leader) (f : Forest) → Shown f c.args.self.programme.row.now c.args.self.programme.table.now
    → (c.run_from-leader.result < length c.args.self.programme.row.now)
    × Reached f c.args.self.programme.classes.now c.run_from-leader.result (c.run_from-leader.result + 1)
    × Unbare f c.args.self.programme.classes.now c.args.last c.run_from-leader.result
ran c f h =
    let P = c.args.self.programme in
    let last : ℕ = c.args.last in
    let r = c.run_from-leader.ensures in
    let n : ℕ = c.run_from-leader.result - last in
    let e : last + n ≡ c.run_from-leader.result = omega (arith, r.from) in
    subst (λ (x : ℕ). (x < length P.row.now) × Reached f P.classes.now x (x + 1) × Unbare f P.classes.now last x) e
    (run_reached P.classes.now last last n h c.requires.last_in_bounds (subst (Run P.table.now P.classes.now last) (sym e) r)
    (c.requires.reached f h) (λ q x y. absurd (omega arith)))

pub run_from-leader-requires : goal.run_from-leader-requires
run_from-leader-requires c =
    let s = c.args.self in (
      record {
        length_of = length s.programme.row.now;
        most = s.sized.most;
        table = s.sized.fits;
        entries = s.room;
        ends = λ x h. (seen_end s.seen x h).1;
        inside = c.requires.last_in_bounds;
        itself = ∥∥₁_elim s.seen (hlevel props) (λ z. (c.requires.reached z.forest z.shown).itself);
      },
      refl,
    )

-- it stays in the row
within : (c : After-run_from-leader) → c.run_from-leader.result < length c.args.self.programme.row.now
within c = ∥∥₁_elim c.args.self.seen (hlevel props) (λ z. (ran c z.forest z.shown).0)

pub overflow_add-at : goal.overflow_add-at
overflow_add-at c =
    omega (arith, within c, c.args.self.sized.most)

pub loop-at-init : goal.loop-at-init
loop-at-init c =
    let r = c.run_from-leader.ensures.from in
    (omega (arith, r), omega (arith, within c), r, λ f h. ((ran c f h).1, (ran c f h).2))

pub loop-at-preserved : goal.loop-at-preserved
loop-at-preserved c =
    let l = c.loop-at in
    let inside = c.loop-at-test.true in
    let e = seen_end c.args.self.seen l.at inside in
    let k = c.in_ok-at.ensures in (
      omega (arith, k.1, e, l.invariant.0),
      omega (arith, k.1, e),
      l.invariant.2,
      λ f h.
          let r = l.invariant.3 f h in
          (subst (Reached f c.args.self.programme.classes.now l.leader) (sym k.1) (reached_past h inside r.0 c.from-q.result k.0), r.1),
    )
