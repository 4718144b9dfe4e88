-- `classes::place_in` meets its contract.
use Rattle.std.proofs.Common.{List, ℕ, ◌-◌, set, length, sym, subst, arith}
use Rattle.classes.specs.Lasts.{Placed}
use Rattle.classes.proofs.Places.{open_again, open_new}
use Rattle.classes.proofs.place_in.Goals as goal

pub returns-in-Some-clause-placed : goal.returns-in-Some-clause-placed
returns-in-Some-clause-placed g c f k =
    let a = c.args in
    let in_row = c.requires.p_in_bounds.0 in
    subst (λ (l : List ℕ). Placed f l a.heads.now (length a.heads.now - 512) a.p a.newest) (sym c.put_number.ensures.put)
    (open_again (c.requires.fact f k) (omega (arith, in_row, k.many)) (omega (arith, k.many, k.most)) (omega (arith, k.many, c.requires.seen.room))
    c.in-Some.r (c.in-Some.ensures f k))

pub returns-in-None-clause-placed : goal.returns-in-None-clause-placed
returns-in-None-clause-placed g c f k =
    let a = c.args in
    let in_row = c.requires.p_in_bounds.0 in
    let some = c.requires.p_in_bounds.2.some in
    subst (λ (l : List ℕ). Placed f l (set a.heads.now a.h a.p) (length a.heads.now - 512) a.p a.p) (sym c.put_number-in-None.ensures.put)
    (open_new (c.requires.fact f k) (omega (arith, in_row, k.many)) (omega (arith, k.many, k.most)) (omega (arith, k.many, c.requires.seen.room))
    (c.in-None.ensures f k) (omega (arith, some)) (omega (arith, some)))
