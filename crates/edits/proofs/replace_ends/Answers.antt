-- `edits::replace_ends` meets its contract: the entries outside the subtree are moved, the new ones filled in between, and what is
-- freed is filled.
use Rattle.std.proofs.Common.{ℕ, List, ◌≡◌, ◌+◌, ◌-◌, map, length, take, drop, sym, ap, ◌∙◌, arith}
use lib.ListN.{length-map}
use Rattle.rows.specs.Tree.{ends}
use Rattle.rows.specs.Parse.{parse}
use Rattle.rows.proofs.Tree.{length-ends}
use Rattle.rows.proofs.Parse.{size-parse}
use Rattle.buffers.specs.Shift.{shifted}
use Rattle.buffers.specs.Renewed.{renewed}
use Rattle.buffers.proofs.Renewed.{renewed_parts}
use Rattle.edits.specs.Moved.{moved}
use Rattle.edits.proofs.Before.{length_before}
use Rattle.edits.proofs.Tail.{length_tail, spliced_ends-front}
use Rattle.edits.proofs.replace_ends.Goals as goal

pub returns : goal.returns
returns c =
    let t = c.args.table.now in
    let v = c.args.v.now in
    let g = c.args.gap in
    let new : List ℕ = ends g.p (parse c.args.arities.now v) in
    let tail : List ℕ = map (shifted g.e g.to) (take (g.n - g.e) (drop g.e t)) in
    let m = c.requires.movable.0 in
    let lv : length new ≡ length v = length-ends g.p (parse c.args.arities.now v) ∙ size-parse c.args.arities.now v in
    let lt : length tail ≡ g.n - g.e = length-map (take (g.n - g.e) (drop g.e t)) (shifted g.e g.to) ∙ length_tail t g.n g.p g.e g.to m in
    rw (
      c.fill.ensures,
      c.length.ensures,
      c.fill_beside.ensures,
      c.move_ends.ensures,
    )
    (renewed_parts t g.n 0 g.p g.to (g.to + (g.n - g.e)) (map (moved g.e g.to) (take g.p t)) new tail (length_before t g.n g.p g.e g.to m) (omega (arith, lv, c.requires.movable.1)) (omega arith) (omega arith) (omega arith)
    ∙ ap (renewed t g.n 0) (sym (spliced_ends-front t g.n g.p g.e g.to new (omega arith) (omega arith) (omega arith))))
