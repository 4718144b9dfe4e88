-- `searches::are_twins` meets its contract.
use Rattle.searches.specs.Searches.{twins}
use Rattle.searches.proofs.are_twins.Goals as goal

pub returns : goal.returns
unfolding twins
returns c = simp (c.from-first.ensures, c.from.ensures)
