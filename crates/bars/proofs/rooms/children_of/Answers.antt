-- `bars::rooms::children_of` meets its contract. No arity of an accepted alphabet is over 15.
use Rattle.std.proofs.Common.{arith}
use Rattle.rows.proofs.Alphabets.{arities_most}
use Rattle.bars.proofs.rooms.children_of.Goals as goal

pub overflow_cast-result : goal.overflow_cast-result
overflow_cast-result c = record { fits = omega (arith, arities_most c.args.arities.now c.requires.0 c.from.result) }
