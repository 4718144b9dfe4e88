-- `class_checks::Proposed::is_repeat` meets its contract.
use Rattle.std.proofs.Common.{arith}
use Rattle.class_checks.proofs.Parts.{seen_end}
use Rattle.class_checks.proofs.Proposed.is_repeat.Goals as goal

pub same_part-requires : goal.same_part-requires
same_part-requires c =
    let e = seen_end c.args.self.seen c.args.p c.requires in
    (omega (arith, c.from.ensures, e), omega (arith, c.from.ensures, e, c.if-p-q.false))

pub same_part-requires-then-same_part : goal.same_part-requires-then-same_part
same_part-requires-then-same_part c =
    let e = seen_end c.args.self.seen c.args.p c.requires in
    let r = c.args.self.room in
    (omega (arith, c.from.ensures, e, r), omega (arith, c.from.ensures, e, r, c.if-p-q.false))
