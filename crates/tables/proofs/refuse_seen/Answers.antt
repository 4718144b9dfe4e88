-- `tables::refuse_seen` meets its contract. What was seen decides; where no tree was, the row's first fault does.
use Rattle.std.proofs.Common.{sym, ap, subst, ◌∙◌}
use borrow.Author.Tests.{lt-ltb, le-ltb}
use Rattle.rows.specs.Refusals.{as_kept, symbols}
use Rattle.rows.proofs.Passing.{row_fine, refused-first}
use Rattle.tables.specs.Given.{Sees}
use Rattle.tables.proofs.refuse_seen.Goals as goal

pub returns-then-stale-row : goal.returns-then-stale-row
unfolding symbols
returns-then-stale-row c t s whose =
    let a = c.args in
    let sees = subst (Sees a.arities.now a.row.now t) c.in-Some.is s in
    sym (simp (ap (as_kept whose) sees.0, sees.1 whose, lt-ltb _ _ c.if-stale-row.true))

pub returns-in-None : goal.returns-in-None
unfolding symbols
returns-in-None c t s whose =
    let a = c.args in
    let sees = subst (Sees a.arities.now a.row.now t) c.in-None.is s in
    c.check_symbols.ensures whose ∙ sym (refused-first _ _ (λ e. sees (row_fine whose _ e)))

pub returns-else-stale-row : goal.returns-else-stale-row
unfolding symbols
returns-else-stale-row c t s whose =
    let a = c.args in
    let sees = subst (Sees a.arities.now a.row.now t) c.in-Some.is s in
    sym (simp (ap (as_kept whose) sees.0, sees.1 whose, le-ltb _ _ c.if-stale-row.false))
