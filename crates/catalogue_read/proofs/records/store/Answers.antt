use Rattle.std.proofs.Common.{refl, add-one}
use Rattle.catalogue_read.specs.Records.{stored}
use Rattle.catalogue_read.proofs.records.store.Goals as goal

pub loop-i-init : goal.loop-i-init
unfolding stored
loop-i-init c = refl

pub loop-i-preserved : goal.loop-i-preserved
unfolding stored
loop-i-preserved c = rw add-one cc
