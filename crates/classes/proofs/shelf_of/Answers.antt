-- `classes::shelf_of` meets its contract.
use Rattle.std.proofs.Common.{refl}
use Rattle.classes.specs.Shown.{shelf}
use Rattle.classes.proofs.Signs.{shelf-small}
use Rattle.classes.proofs.shelf_of.Goals as goal

pub returns : goal.returns
unfolding shelf
returns c = (refl, shelf-small c.args.m c.args.h c.requires.0)
