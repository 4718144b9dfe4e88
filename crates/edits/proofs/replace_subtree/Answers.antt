-- `edits::replace_subtree` meets its contract: the row and its table are spliced alike.
use Rattle.std.proofs.Common.{◌+◌, ◌-◌, take, length, refl, sym, ap, subst, ◌∙◌, arith, ℕ}
use Rattle.rows.specs.Tree.{ends}
use Rattle.rows.specs.Parse.{parse}
use Rattle.buffers.specs.Shift.{spliced}
use Rattle.buffers.specs.Renewed.{renewed}
use Rattle.edits.specs.Moved.{spliced_ends}
use Rattle.edits.specs.Given.{Room, Movable}
use Rattle.edits.proofs.Replace.{entry_in, bounds, length_new, row_room, table_movable, replaced}
use Rattle.edits.proofs.replace_subtree.Goals as goal

pub bounds-table-p : goal.bounds-table-p
bounds-table-p c =
    entry_in c.args.arities.now c.args.row.now c.args.table.now c.args.n c.args.v.now c.args.p c.requires.0

pub replace_symbols-requires : goal.replace_symbols-requires
replace_symbols-requires c =
    let a = c.args in
    (subst (λ (e : ℕ). Room a.n a.p e (a.p + length a.v.now) (length a.row.now)) (sym c.from-e.ensures) (row_room a.arities.now a.row.now a.table.now a.n a.v.now a.p c.requires.0), refl)

pub replace_ends-requires-clause-movable : goal.replace_ends-requires-clause-movable
replace_ends-requires-clause-movable c =
    let a = c.args in
    (subst (λ (e : ℕ). Movable a.table.now a.n a.p e (a.p + length a.v.now)) (sym c.from-e.ensures) (table_movable a.arities.now a.row.now a.table.now a.n a.v.now a.p c.requires.0), refl, c.requires.1)

pub length-requires : goal.length-requires
length-requires c =
    let a = c.args in
    let e = c.from-e.ensures in (
      omega (arith, e, (bounds a.arities.now a.row.now a.table.now a.n a.v.now a.p c.requires.0 a.p c.requires.0.position).1),
      omega (arith, ap (λ (x : ℕ). a.n - x) e, length_new a.arities.now a.row.now a.table.now a.n a.v.now a.p c.requires.0, c.requires.0.most),
    )

pub returns : goal.returns
returns c =
    let a = c.args in
    let A = a.arities.now in
    let v = a.v.now in
    let e = c.from-e.ensures in
    let to : ℕ = a.p + length v in
    replaced A a.row.now a.table.now a.n v a.p c.requires.0 _ _ _
    (c.replace_symbols.ensures ∙ ap (λ (x : ℕ). renewed a.row.now a.n 65535 (spliced (take a.n a.row.now) a.p x v)) e)
    (c.replace_ends.ensures ∙ ap (λ (x : ℕ). renewed a.table.now a.n 0 (spliced_ends (take a.n a.table.now) a.p x to (ends a.p (parse A v)))) e)
    (c.length.ensures ∙ ap (λ (x : ℕ). to + (a.n - x)) e)
