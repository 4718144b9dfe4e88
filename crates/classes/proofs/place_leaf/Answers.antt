-- `classes::place_leaf` meets its contract.
use Rattle.std.proofs.Common.{◌≡◌, ◌-◌, ◌%◌, ℕ, get_or, length, sym, ap, ◌∙◌, subst}
use Rattle.classes.specs.Lasts.{Open}
use Rattle.classes.proofs.Places.{leaf_open}
use Rattle.classes.proofs.place_leaf.Goals as goal

pub place_in-requires-clause-fact : goal.place_in-requires-clause-fact
place_in-requires-clause-fact g c f k =
    let a = c.args in
    let e : c.from-h.result ≡ get_or (g.E.Piece.numbers a.row.now) a.p 0 % 512 = c.from-h.ensures ∙ ap (λ (n : ℕ). n % 512) c.number_at.ensures in
    subst (Open f (g.E.Piece.numbers a.list.now) a.heads.now (length a.heads.now - 512) a.p a.newest) (sym e)
    (leaf_open k c.requires.p_in_bounds.0 (c.requires.placed f k) c.requires.p_in_bounds.1)
