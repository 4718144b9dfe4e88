use Rattle.std.proofs.Common.{arith}
use Rattle.wire.proofs.Numbers.{numbers-length}
use Rattle.catalogue_read.proofs.head.programmes_in.Goals as goal

pub number_at-requires : goal.number_at-requires
number_at-requires c = omega (arith, numbers-length c.args.file.now)
