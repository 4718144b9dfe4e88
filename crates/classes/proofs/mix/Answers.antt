-- `classes::mix` meets its contract.
use Rattle.std.proofs.Common.{ap, ◌+◌, ◌*◌, ◌%◌, ℕ, arith}
use Rattle.classes.specs.Shown.{mixed}
use Rattle.classes.proofs.mix.Goals as goal

pub returns : goal.returns
unfolding mixed
returns c = (ap (λ (x : ℕ). (c.args.h + x) * 2654435761 % 4294967296) c.from.ensures, omega arith)
