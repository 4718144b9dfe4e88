-- `class_checks::Proposed::is_unseen` meets its contract.
use Rattle.std.proofs.Common.{ℕ, ◌-◌, sym, subst, arith}
use Rattle.rows.specs.Classes.{SameSign}
use Rattle.classes.specs.Shown.{Says}
use Rattle.class_checks.specs.Repeats.{Falls}
use Rattle.class_checks.proofs.Falls.{falls_on}
use Rattle.class_checks.proofs.Proposed.is_unseen.Goals as goal

pub loop-r-preserved : goal.loop-r-preserved
loop-r-preserved c =
    let l = c.loop-r in
    let a = c.args in
    let own = a.self.programme.classes.now in (
      omega (arith, c.from-r.ensures, l.invariant.0, c.requires.by_index (l.r - 1)),
      λ f h q k z.
          let differ : SameSign f own a.p (l.r - 1) → ⊥ = subst (λ b. Says b (SameSign f own a.p (l.r - 1))) c.if-same_sign.false (c.same_sign.ensures f h) in
          subst (λ (n : ℕ). Falls a.links.now n q) (sym c.from-r.ensures)
          (falls_on (l.invariant.1 f h q k z) (λ e. differ (subst (SameSign f own a.p) (sym e) z))),
    )
