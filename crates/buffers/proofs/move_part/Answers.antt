use Rattle.std.proofs.Common.{◌≡◌, sym, arith}
use Rattle.buffers.proofs.Written.{written_still}
use Rattle.buffers.proofs.move_part.Goals as goal

pub returns-else-from-to : goal.returns-else-from-to
returns-else-from-to c =
    let same : c.args.to ≡ c.args.from = omega arith in
    rw same (sym (written_still c.args.b.now c.args.from c.args.len c.requires.0))
