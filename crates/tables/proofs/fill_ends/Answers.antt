-- `tables::fill_ends` meets its contract.
use Rattle.std.proofs.Common.{ℕ, List, ◌≡◌, ◌-◌, ◌+◌, ◌∙◌, length, length-set, get_or, ap, subst, sym, refl, arith}
use Rattle.rows.specs.Parse.{behind}
use Rattle.tables.specs.Hops.{Hopping}
use Rattle.tables.proofs.Hops.{Filling, filling_none, filling_hopping, filling_small, filling_more, filling_all}
use Rattle.tables.proofs.fill_ends.Given.{Over}
use Rattle.tables.proofs.fill_ends.Goals as goal
use Rattle.tables.proofs.fill_ends.Goals.{After-from-children}

module _ (g : Over) (c : After-from-children g) where
  up : c.loop-p.p ≡ c.loop-p.p - 1 + 1
  up = omega arith

  arity : c.from-children.result ≡ get_or c.args.arities.now (get_or (g.E.Piece.numbers c.args.row.now) (c.loop-p.p - 1) 0) 0
  arity = c.from-children.ensures ∙ c.arity_of.ensures ∙ ap (λ (s : ℕ). get_or c.args.arities.now s 0) c.number_at.ensures

  hopping : Hopping (g.E.Piece.numbers c.loop-p.table) (c.loop-p.p - 1 + 1) c.loop-p.end c.from-children.result (behind c.args.arities.now (g.E.Piece.numbers c.args.row.now) (c.loop-p.p - 1 + 1))
  hopping = filling_hopping c.requires c.loop-p.invariant.0 _ _ up arity

pub loop-p-init : goal.loop-p-init
loop-p-init g c = (filling_none _ _ _ _ _ c.count-n.ensures, refl, refl)

pub hop_over-end-requires : goal.hop_over-end-requires
hop_over-end-requires g c = (_, hopping g c)

pub overflow_cast-end : goal.overflow_cast-end
overflow_cast-end g c =
    let h = (goal.at.overflow_cast-end g c).After-from-children in
    let small = filling_small c.requires c.loop-p.invariant.0 _ _ (up g h) (arity g h) _ (c.hop_over-end.ensures _ (hopping g h)) in
    omega (arith, small)

pub loop-p-preserved : goal.loop-p-preserved
loop-p-preserved g c =
    let h = (goal.at.loop-p-preserved g c).After-from-children in
    let put = c.put_number.ensures in
    let more = filling_more c.requires c.loop-p.invariant.0 _ _ (up g h) (arity g h) _ (c.hop_over-end.ensures _ (hopping g h)) in (
      subst (λ (l : List ℕ). Filling c.args.arities.now (g.E.Piece.numbers c.args.row.now) (g.E.Piece.numbers c.args.table.now) l (c.loop-p.p - 1) c.hop_over-end.result) (sym put.put) more,
      put.odd ∙ c.loop-p.invariant.1,
      ap length put.put ∙ simp length-set c.loop-p.invariant.2,
    )

pub returns-clause-filled : goal.returns-clause-filled
returns-clause-filled g c = filling_all c.loop-p.invariant.0 (omega arith)
