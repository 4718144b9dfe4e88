-- `classes::find_last` meets its contract.
use Rattle.std.proofs.Common.{ℕ, ◌≡◌, ◌+◌, ◌-◌, ◌<◌, length, get_or, ltb, sym, subst, arith}
use Rattle.rows.specs.Row.{pick}
use Rattle.rows.specs.Classes.{SameSign}
use Rattle.classes.specs.Shown.{Says}
use Rattle.classes.specs.Lasts.{lasts_of, Link, Comes}
use Rattle.classes.proofs.Lasts.{comes_past, comes_on, nearer, link_at, link_next, link_weaker}
use Rattle.classes.proofs.find_last.Goals as goal

pub loop-r-smaller : goal.loop-r-smaller
loop-r-smaller g c =
    let w = g.E.Piece.numbers c.args.row.now in
    let chain = g.E.Piece.numbers c.args.list.now in
    let z = c.requires.seen in
    let at = link_at (c.requires.lasting z.forest z.shown) z.shown.many c.loop-r-test.true (c.loop-r.invariant.0 z.forest z.shown) in
    subst (λ (n : ℕ). pick (ltb 0 (n - 32768)) (length w - (n - 32768)) 0 < pick (ltb 0 c.loop-r.r) (length w - c.loop-r.r) 0) (sym c.index_at-r.ensures)
    (nearer (length w) c.loop-r.r (get_or chain c.loop-r.r 0 - 32768) c.loop-r-test.true at.before at.on)

pub loop-r-preserved : goal.loop-r-preserved
loop-r-preserved g c =
    let a = c.args in
    let l = c.loop-r in
    let chain = g.E.Piece.numbers a.list.now in (
      λ f k.
          subst (λ (n : ℕ). Link f (a.p + 1) (n - 32768)) (sym c.index_at-r.ensures)
          (link_weaker (omega (arith, (l.invariant.0 f k).from c.loop-r-test.true)) (link_next (c.requires.lasting f k) c.loop-r-test.true (l.invariant.0 f k))),
      λ f k q x z.
          let differ : SameSign f (lasts_of f) a.p l.r → ⊥ = subst (λ b. Says b (SameSign f (lasts_of f) a.p l.r)) c.if-same_last.false (c.same_last.ensures f k) in
          subst (λ (n : ℕ). Comes chain (n - 32768) q) (sym c.index_at-r.ensures)
          (comes_on (l.invariant.1 f k q x z) (λ e. differ (subst (SameSign f (lasts_of f) a.p) (sym e) z))),
    )

pub returns : goal.returns
returns g c f k q x z =
    let end : c.loop-r.r ≡ 0 = omega (arith, c.loop-r-test.false) in
    comes_past (c.loop-r.invariant.1 f k q x z) end
