-- `plain::due_after` meets its contract: a symbol of the alphabet stands at i, and its children are due in its place.
use Rattle.plain.proofs.Reach.{counting_symbol, counting_next}
use Rattle.plain.proofs.due_after.Goals as goal

pub bounds-arities-from : goal.bounds-arities-from
bounds-arities-from c = rw c.from.ensures (counting_symbol _ _ _ _ c.requires.1 c.requires.2)

pub returns : goal.returns
returns c = rw (c.from-2.ensures, c.from.ensures) (counting_next _ _ _ _ c.requires.1 c.requires.2)
