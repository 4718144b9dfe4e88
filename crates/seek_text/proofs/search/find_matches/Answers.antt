-- `seek_text::search::find_matches` meets its contract: after a build only the pattern can be refused.
use Rattle.std.proofs.Common.{◌≡◌, Err, rules}
use Rattle.seek_text.proofs.Finding.{searched_refused, searched}
use Rattle.seek_text.proofs.search.find_matches.Goals as goal

pub returns-in_err-build : goal.returns-in_err-build
returns-in_err-build c =
    let a = c.args in
    let e : c.from_residual.result ≡ Err c.in_err-build.field-0.0 = search rules in
    rw e
    (searched_refused a.arities.now a.row.now a.pattern.now a.table.now _ a.classes.now _ a.positions.now a.positions.now c.requires.0 c.requires.1 c.requires.2
    c.in_err-build.field-0.0 (rw c.in_err-build.was at c.build.ensures))

pub returns : goal.returns
returns c =
    let a = c.args in
    searched a.arities.now a.row.now a.pattern.now a.table.now _ a.classes.now _ a.positions.now _ c.requires.0 c.requires.1 c.requires.2
    (rw c.in_ok-build.was at c.build.ensures) c.find.result c.find.ensures
