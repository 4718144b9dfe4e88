use Rattle.std.proofs.Common.{arith}
use Rattle.wire.proofs.Numbers.{numbers-length}
use Rattle.wire.proofs.sent.U16Sent.put_bytes.Goals as goal

pub encode-requires : goal.encode-requires
encode-requires c = omega (arith, numbers-length c.args.bytes.now, c.requires)
