-- `class_checks::Proposed::sign_of` meets its contract.
use Rattle.std.proofs.Common.{ℕ, ◌+◌, ◌<◌, length, get_or, sym, subst, arith}
use Rattle.std.proofs.Math.Logic.{∥∥₁_elim}
use Rattle.std.proofs.Props.{props}
use Rattle.classes.specs.Shown.{Says, sign_of}
use Rattle.class_checks.specs.Repeats.{Twin}
use Rattle.classes.proofs.Signs.{Mixing, mixing_start, mixing_next, mixing_all, Looking, looking_start, looking_in, looking_on, looking_next, looking_done}
use Rattle.class_checks.proofs.Proposed.sign_of.Goals as goal
use Rattle.class_checks.proofs.Proposed.sign_of.Goals.{In-loop-a}

-- the child stands in the row, and the next stands further on
inside : (c : In-loop-a) → (c.loop-a.a < length c.args.self.programme.row.now) × (c.loop-a.a < get_or c.args.self.programme.table.now c.loop-a.a 0)
inside c =
    ∥∥₁_elim c.args.self.seen (hlevel props)
    (λ z.
    let m = (c.loop-a.invariant.3 z.forest z.shown).1 in
    let P = Twin z.forest c.args.self.programme.classes.now c.args.p in
    (looking_in z.shown P m c.loop-a-test.true, looking_on z.shown P m c.loop-a-test.true))

pub loop-a-init : goal.loop-a-init
loop-a-init c =
    let own = c.args.self.programme.classes.now in
    let p : ℕ = c.args.p in (
      c.from-end.ensures,
      omega arith,
      c.mix-sign.ensures.1,
      λ f h. (
        subst (λ (n : ℕ). Mixing f own p n (p + 1) c.mix-sign.result) (sym c.from-end.ensures)
            (mixing_start h own p c.mix-sign.result c.requires c.mix-sign.ensures.0),
        subst (λ (n : ℕ). Looking f (Twin f own p) p n (p + 1)) (sym c.from-end.ensures) (looking_start h (Twin f own p) p c.requires),
      ),
    )

pub is_twin-requires : goal.is_twin-requires
is_twin-requires c = (c.loop-a.invariant.1, (inside c).0)

pub bounds-self-a : goal.bounds-self-a
bounds-self-a c = omega (arith, inside (goal.at.bounds-self-a c).In-loop-a, c.args.self.room)

pub bounds-self-a-in-loop-a : goal.bounds-self-a-in-loop-a
bounds-self-a-in-loop-a c = omega (arith, inside (goal.at.bounds-self-a-in-loop-a c).In-loop-a, c.args.self.sized.fits)

pub loop-a-smaller : goal.loop-a-smaller
loop-a-smaller c = omega (arith, c.from-a.ensures, inside (goal.at.loop-a-smaller c).In-loop-a, c.loop-a-test.true)

pub loop-a-preserved : goal.loop-a-preserved
loop-a-preserved c =
    let own = c.args.self.programme.classes.now in
    let t = c.args.self.programme.table.now in
    let p : ℕ = c.args.p in
    let end : ℕ = c.from-end.result in
    let l = c.loop-a in (
      l.invariant.0,
      omega (arith, c.from-a.ensures, inside (goal.at.loop-a-preserved c).In-loop-a, l.invariant.1),
      c.mix-sign-in-loop-a.ensures.1,
      λ f h. (
        subst (λ (n : ℕ). Mixing f own p end n c.mix-sign-in-loop-a.result) (sym c.from-a.ensures)
            (subst (Mixing f own p end (get_or t l.a 0)) (sym c.mix-sign-in-loop-a.ensures.0) (mixing_next h own (l.invariant.3 f h).0 c.loop-a-test.true)),
        subst (Looking f (Twin f own p) p end) (sym c.from-a.ensures)
            (looking_next h (Twin f own p) (l.invariant.3 f h).1 c.loop-a-test.true
            (subst (λ b. Says b (Twin f own p l.a)) c.if-is_twin.false (c.is_twin.ensures f h))),
      ),
    )

pub returns : goal.returns
unfolding sign_of
returns c f h =
    let own = c.args.self.programme.classes.now in
    let k = c.loop-a.invariant.3 f h in
    (mixing_all h own k.0 c.loop-a-test.false, looking_done h (Twin f own c.args.p) k.1 c.loop-a-test.false)
