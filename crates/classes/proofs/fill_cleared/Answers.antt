-- `classes::fill_cleared` meets its contract.
use Rattle.std.proofs.Common.{sym, ◌∙◌, subst}
use Rattle.rows.specs.Parse.{parse}
use Rattle.rows.proofs.Parse.{size-parse}
use Rattle.classes.specs.Lasts.{AllNamed}
use Rattle.classes.proofs.Shown.{right_shown}
use Rattle.classes.proofs.Front.{front_named}
use Rattle.classes.proofs.fill_cleared.Goals as goal

pub fill_lasts-requires-clause-seen : goal.fill_lasts-requires-clause-seen
fill_lasts-requires-clause-seen g c =
    let w = g.E.Piece.numbers c.args.row.now in
    let A = c.requires.by_index.0 in
    record { forest = parse A w; shown = right_shown A w (g.E.Piece.numbers c.args.table.now) c.requires.by_index.1; room = c.requires.row_in_bounds }

pub name_all-requires-clause-naming : goal.name_all-requires-clause-naming
name_all-requires-clause-naming g c =
    let w = g.E.Piece.numbers c.args.row.now in
    let A = c.requires.by_index.0 in (
      parse A w,
      c.fill_lasts.ensures.naming (parse A w) (right_shown A w (g.E.Piece.numbers c.args.table.now) c.requires.by_index.1),
      size-parse A w ∙ sym c.count.ensures,
    )

pub returns-clause-filled : goal.returns-clause-filled
returns-clause-filled g c A r =
    let w = g.E.Piece.numbers c.args.row.now in
    let f = parse A w in
    let all = c.name_all.ensures.all_named f (c.fill_lasts.ensures.naming f (right_shown A w (g.E.Piece.numbers c.args.table.now) r)) (size-parse A w ∙ sym c.count.ensures) in
    front_named A w (g.E.Piece.numbers c.args.classes.now) c.requires.row_in_bounds c.fill_lasts.ensures.rewrote
    (subst (AllNamed f (g.E.Piece.numbers c.fill_lasts.new.list) (g.E.Piece.numbers c.name_all.new.list)) c.count.ensures all)
