-- `catalogue_write::layout::put_half` meets its contract. Both bytes are there.
use Rattle.std.proofs.Common.{◌∙◌, arith}
use Rattle.wire.proofs.Numbers.{numbers-length}
use Rattle.catalogue_write.proofs.Laying.{half_written}
use Rattle.catalogue_write.proofs.layout.put_half.Goals as goal

pub put_number-requires : goal.put_number-requires
put_number-requires c = omega (arith, numbers-length c.args.file.now)

pub returns : goal.returns
returns c = c.put_number.ensures ∙ half_written c.args.file.now c.args.i c.args.v c.requires
