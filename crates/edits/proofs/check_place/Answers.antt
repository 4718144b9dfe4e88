-- `edits::check_place` meets its contract: each test on the way decides the refusals.
use Rattle.std.proofs.Common.{◌≡◌, ◌+◌, ◌-◌, get_or, sym, ap, ◌∙◌, arith, ℕ, Err}
use Rattle.rows.specs.Refusals.{grown}
use Rattle.rows.specs.declared.Refusal.TheVariants.{TooLong}
use Rattle.edits.proofs.Place.{position_past, position_in, grown-over, grown_fits}
use Rattle.edits.proofs.check_place.Goals as goal

pub returns-then-n-p : goal.returns-then-n-p
returns-then-n-p c =
    let a = c.args in
    sym (position_past a.n a.p (grown (a.p + a.size + (a.n - get_or a.table.now a.p 0)) a.room) c.if-n-p.true)

pub returns-then-min-new : goal.returns-then-min-new
returns-then-min-new c =
    let a = c.args in
    let new : ℕ = a.p + a.size + (a.n - get_or a.table.now a.p 0) in
    let long : a.p + a.size + (a.n - c.from.result) ≡ new = ap (λ (x : ℕ). a.p + a.size + (a.n - x)) c.from.ensures in
    ap (λ (m : ℕ). Err (TooLong m)) long ∙ sym (position_in a.n a.p (grown new a.room) c.if-n-p.false ∙ grown-over new a.room (omega (arith, long, c.min.ensures, c.if-min-new.true)))

pub returns : goal.returns
returns c =
    let a = c.args in
    let new : ℕ = a.p + a.size + (a.n - get_or a.table.now a.p 0) in
    let long : a.p + a.size + (a.n - c.from.result) ≡ new = ap (λ (x : ℕ). a.p + a.size + (a.n - x)) c.from.ensures in
    sym (position_in a.n a.p (grown new a.room) c.if-n-p.false ∙ grown_fits new a.room (omega (arith, long, c.min.ensures, c.if-min-new.false)))
