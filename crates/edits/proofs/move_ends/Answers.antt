-- `edits::move_ends` meets its contract: the tail is moved, and then shifted; where the new subtree ends where the old one did, all
-- is as it was.
use Rattle.std.proofs.Common.{ℕ, ◌≡◌, ◌-◌, map, take, drop, sym, subst}
use Rattle.rows.specs.Buffers.{written}
use Rattle.buffers.specs.Shift.{shifted}
use Rattle.edits.specs.Moved.{moved}
use Rattle.edits.specs.Given.{Movable}
use Rattle.edits.proofs.Tail.{drop_held, tail_shiftable, tail_shifted, still}
use Rattle.edits.proofs.move_ends.Goals as goal

pub returns-then-gap : goal.returns-then-gap
returns-then-gap c =
    let t = c.args.table.now in
    let g = c.args.gap in
    let same : g.e ≡ g.to = c.if-gap.true in
    let m : Movable t g.n g.p g.e g.e = subst (λ (x : ℕ). Movable t g.n g.p g.e x) (sym same) c.requires in
    subst (λ (x : ℕ). t ≡ written (written t 0 (map (moved g.e x) (take g.p t))) x (map (shifted g.e x) (take (g.n - g.e) (drop g.e t)))) same
    (sym (still t g.n g.p g.e m))

pub shift-requires : goal.shift-requires
shift-requires c =
    let t = c.args.table.now in
    let g = c.args.gap in
    rw (
      c.rest-2.ensures,
      c.move_part.ensures,
      c.rest.ensures,
      c.move_holders.ensures,
      drop_held t g.n g.p g.e g.to c.requires,
    )
    (tail_shiftable t g.n g.p g.e g.to c.requires)

pub returns : goal.returns
returns c =
    let t = c.args.table.now in
    let g = c.args.gap in
    rw (
      c.shift.ensures,
      c.rest-2.ensures,
      c.move_part.ensures,
      c.rest.ensures,
      c.move_holders.ensures,
      drop_held t g.n g.p g.e g.to c.requires,
    )
    (tail_shifted t g.n g.p g.e g.to c.requires)
