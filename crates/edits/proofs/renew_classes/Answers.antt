-- `edits::renew_classes` meets its contract: the classes are written at the front, and blanks behind them.
use Prim.Native.Nat.{ℕ, ◌-◌}
use mathlib.Core.Path.{sym, ap, ◌∙◌}
use mathlib.Core.List.{List}
use native.Mathlib.Omega.{arith}
use lib.ListN.{take, replicate}
use lib.Seq.{length-take-le}
use Rattle.rows.specs.Buffers.{written}
use Rattle.rows.proofs.Classes.{class_of_row}
use Rattle.buffers.proofs.Renewed.{renewed_whole}
use Rattle.edits.proofs.renew_classes.Goals as goal

pub slice_bounds-fill_beside-end : goal.slice_bounds-fill_beside-end
slice_bounds-fill_beside-end c = sym (length-take-le c.args.m c.args.row.now c.requires.1)

pub fill_beside-requires : goal.fill_beside-requires
fill_beside-requires c =
    record {
      by_index = c.requires.0;
      row_in_bounds = (omega (arith, length-take-le c.args.m c.args.row.now c.requires.1, c.requires.2), c.requires.4);
    }

pub returns : goal.returns
returns c A r =
    let g = c.args in
    c.fill.ensures
    ∙ ap (λ (l : List ℕ). written l g.m (replicate (g.n - g.m) 0)) (c.fill_beside.ensures A r)
    ∙ renewed_whole g.classes.now g.n 0 g.m _ ((class_of_row A (take g.m g.row.now)).0 ∙ length-take-le g.m g.row.now c.requires.1) c.requires.3 c.requires.2
