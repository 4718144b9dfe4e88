-- `classes::place_last` meets its contract.
use Rattle.std.proofs.Common.{List, ℕ, ◌-◌, length, sym, subst, arith}
use Rattle.classes.specs.Lasts.{Placed}
use Rattle.classes.proofs.Places.{above_placed}
use Rattle.classes.proofs.place_last.Goals as goal

pub returns-then-newest-end-clause-placed_2 : goal.returns-then-newest-end-clause-placed_2
returns-then-newest-end-clause-placed_2 g c f k =
    let a = c.args in
    subst (λ (l : List ℕ). Placed f l a.heads.now (length a.heads.now - 512) a.p a.p) (sym c.put_number.ensures.put)
    (above_placed k c.requires.p_in_bounds.0 (c.requires.placed f k) (omega (arith, c.if-newest-end.true, c.index_at-end.ensures)) (omega (arith, k.many, c.requires.seen.room)))
