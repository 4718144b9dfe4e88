-- `searches::may_match` meets its contract. The tests on the way decide each case.
use borrow.Author.Tests.{eq-eqb, ne_eqb}
use Rattle.searches.specs.Searches.{sized, may_match}
use Rattle.searches.proofs.may_match.Goals as goal

pub returns-then-size-eq0 : goal.returns-then-size-eq0
unfolding may_match sized
returns-then-size-eq0 c = simp (eq-eqb _ _ c.if-row-p.true, eq-eqb _ _ c.if-size-eq0.true)

pub returns-then-row-p : goal.returns-then-row-p
unfolding may_match sized
returns-then-row-p c = simp (eq-eqb _ _ c.if-row-p.true, ne_eqb _ _ c.if-size-eq0.false, c.from-end.ensures)

pub returns : goal.returns
unfolding may_match
returns c = simp (ne_eqb _ _ c.if-row-p.false)
