-- `tables::hop_over` meets its contract.
use Rattle.std.proofs.Common.{ℕ, ◌∙◌, ap, get_or, add-one, arith}
use Rattle.tables.proofs.Hops.{hop, hop_within, hopped_none}
use Rattle.tables.proofs.hop_over.Goals as goal

pub returns-then-children-eq0 : goal.returns-then-children-eq0
returns-then-children-eq0 g c f k = hopped_none c.args.begin c.args.children f (omega arith)

pub number_at-requires : goal.number_at-requires
number_at-requires g c =
    let f = c.requires.0 in
    let k = c.requires.1 in
    omega (arith, c.loop.invariant f k, hop_within (g.E.Piece.numbers c.args.table.now) c.args.begin f c.loop.counter k.holds (omega (arith, k.enough)))

pub loop-preserved : goal.loop-preserved
loop-preserved g c f k =
    let t = g.E.Piece.numbers c.args.table.now in
    rw add-one
    (c.from-end.ensures
    ∙ c.number_at.ensures
    ∙ ap (λ (n : ℕ). get_or t n 0) (c.loop.invariant f k)
    ∙ hop t c.args.begin f c.loop.counter k.holds (omega (arith, k.enough)))
