-- `classes::place_bare` meets its contract.
use Rattle.std.proofs.Common.{List, ℕ, ◌+◌, ◌-◌, length, sym, subst, arith}
use Rattle.classes.specs.Lasts.{lasts_of, Placed, Open}
use Rattle.classes.proofs.Signs.{sign_small}
use Rattle.classes.proofs.Places.{placed_again, bare_below, bare_open}
use Rattle.classes.proofs.place_bare.Goals as goal

pub seek-requires-clause-keeps : goal.seek-requires-clause-keeps
seek-requires-clause-keeps g c f k =
    ((c.requires.placed f k).lasting.kept, bare_below k c.requires.p_in_bounds.0 (c.requires.placed f k) c.requires.p_in_bounds.2)

pub shelf_of-h-requires : goal.shelf_of-h-requires
shelf_of-h-requires g c =
    let z = c.requires.seen in
    let r = c.requires.p_in_bounds.3 in
    (omega (arith, r.some), omega (arith, r.most), omega (arith, (c.in-Sign.ensures z.forest z.shown).0, sign_small z.forest (lasts_of z.forest) c.args.p))

pub place_in-requires-clause-fact : goal.place_in-requires-clause-fact
place_in-requires-clause-fact g c f k =
    let a = c.args in
    let b = c.requires.p_in_bounds in
    let s = c.in-Sign.ensures f k in
    subst (λ (n : ℕ). Open f (g.E.Piece.numbers a.list.now) a.heads.now (length a.heads.now - 512) a.p a.newest (512 + n)) (sym c.shelf_of-h.ensures.0)
    (bare_open k b.0 (c.requires.placed f k) b.2 b.1 c.in-Sign.sign s.0 s.1)

pub returns-in-Told-clause-placed_2 : goal.returns-in-Told-clause-placed_2
returns-in-Told-clause-placed_2 g c f k =
    let a = c.args in
    subst (λ (l : List ℕ). Placed f l a.heads.now (length a.heads.now - 512) a.p a.newest) (sym c.put_number.ensures.put)
    (placed_again (c.requires.placed f k) (omega (arith, c.requires.p_in_bounds.0, k.many)) (omega (arith, k.many, k.most)) (omega (arith, k.many, c.requires.seen.room))
    c.in-Told.r (c.in-Told.ensures f k))
