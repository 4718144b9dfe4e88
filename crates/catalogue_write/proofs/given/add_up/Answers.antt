use Rattle.std.proofs.Common.{arith}
use Rattle.catalogue_write.proofs.Counting.{total_at, total_done}
use Rattle.catalogue_write.proofs.given.add_up.Goals as goal

pub loop-length-preserved : goal.loop-length-preserved
loop-length-preserved c =
    let at = total_at c.args.lengths.now c.loop-length.length-index (omega arith) in
    (omega (arith, at, c.loop-length.invariant.0), omega (arith, c.loop-length.invariant.1, c.type_inv.lengths c.loop-length.length-index))

pub returns : goal.returns
returns c =
    let done = total_done c.args.lengths.now c.loop-length.length-index (omega arith) in
    (omega (arith, done, c.loop-length.invariant.0), omega (arith, c.loop-length.invariant.1))
