-- `class_checks::Proposed::same_sign` meets its contract.
use Rattle.std.proofs.Common.{ℕ, ◌+◌, ◌<◌, length, get_or, sym, subst, arith}
use Rattle.std.proofs.Math.Logic.{∥∥₁_elim}
use Rattle.std.proofs.Props.{props}
use Rattle.classes.proofs.Signs.{Facing, facing_start, facing_in, facing_on, facing_miss, facing_next, facing_done, signs_same, signs_differ}
use Rattle.class_checks.proofs.Proposed.same_sign.Goals as goal
use Rattle.class_checks.proofs.Proposed.same_sign.Goals.{In-loop-a}

-- both children stand in the row, and the next stands further on
inside : (c : In-loop-a) → (c.loop-a.a < length c.args.self.programme.row.now) × (c.loop-a.b < length c.args.self.programme.row.now) × (c.loop-a.a < get_or c.args.self.programme.table.now c.loop-a.a 0)
inside c =
    let own = c.args.self.programme.classes.now in
    ∥∥₁_elim c.args.self.seen (hlevel props)
    (λ z.
    let k = c.loop-a.invariant.1 z.forest z.shown in
    let i = facing_in z.shown own k c.loop-a-test.true in
    (i.0, i.1, facing_on z.shown own k c.loop-a-test.true))

pub returns-then-self-p : goal.returns-then-self-p
returns-then-self-p c f h =
    signs_differ h c.args.self.programme.classes.now c.args.p c.args.q c.requires.0 c.requires.1 c.if-self-p.true

pub loop-a-init : goal.loop-a-init
loop-a-init c =
    let P = c.args.self.programme in (
      c.from-end.ensures,
      λ f h.
          subst (λ (n : ℕ). Facing f P.classes.now c.args.p c.args.q n (c.args.p + 1) (c.args.q + 1)) (sym c.from-end.ensures)
          (facing_start h P.classes.now c.args.p c.args.q c.requires.0 c.requires.1 c.if-self-p.false),
    )

pub bounds-self-a : goal.bounds-self-a
bounds-self-a c = omega (arith, inside (goal.at.bounds-self-a c).In-loop-a, c.args.self.room)

pub offset_bounds-self-b : goal.offset_bounds-self-b
offset_bounds-self-b c = omega (arith, inside (goal.at.offset_bounds-self-b c).In-loop-a, c.args.self.sized.most)

pub bounds-self-b : goal.bounds-self-b
bounds-self-b c = omega (arith, inside (goal.at.bounds-self-b c).In-loop-a, c.args.self.room)

pub returns-then-self-a : goal.returns-then-self-a
returns-then-self-a c f h k = facing_miss h c.args.self.programme.classes.now (c.loop-a.invariant.1 f h) c.loop-a-test.true c.if-self-a.true k.children

pub bounds-self-a-in-loop-a : goal.bounds-self-a-in-loop-a
bounds-self-a-in-loop-a c = omega (arith, inside (goal.at.bounds-self-a-in-loop-a c).In-loop-a, c.args.self.sized.fits)

pub offset_bounds-self-b-in-loop-a : goal.offset_bounds-self-b-in-loop-a
offset_bounds-self-b-in-loop-a c = omega (arith, inside (goal.at.offset_bounds-self-b-in-loop-a c).In-loop-a, c.args.self.sized.most)

pub bounds-self-b-in-loop-a : goal.bounds-self-b-in-loop-a
bounds-self-b-in-loop-a c = omega (arith, inside (goal.at.bounds-self-b-in-loop-a c).In-loop-a, c.args.self.sized.fits)

pub loop-a-smaller : goal.loop-a-smaller
loop-a-smaller c = omega (arith, c.from-a.ensures, inside (goal.at.loop-a-smaller c).In-loop-a, c.loop-a-test.true)

pub loop-a-preserved : goal.loop-a-preserved
loop-a-preserved c =
    let P = c.args.self.programme in (
      c.loop-a.invariant.0,
      λ f h.
          subst (λ (n : ℕ). Facing f P.classes.now c.args.p c.args.q c.from-end.result n c.from-b.result) (sym c.from-a.ensures)
          (subst (λ (n : ℕ). Facing f P.classes.now c.args.p c.args.q c.from-end.result (get_or P.table.now c.loop-a.a 0) n) (sym c.from-b.ensures)
          (facing_next h P.classes.now (c.loop-a.invariant.1 f h) c.loop-a-test.true c.if-self-a.false)),
    )

pub returns : goal.returns
returns c f h =
    signs_same h c.args.self.programme.classes.now c.args.p c.args.q c.requires.0 c.requires.1 c.if-self-p.false
    (facing_done h c.args.self.programme.classes.now (c.loop-a.invariant.1 f h) c.loop-a-test.false)
