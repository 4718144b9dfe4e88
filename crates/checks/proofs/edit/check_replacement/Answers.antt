-- What the replacement's reading leaves is asked for its place.
use Rattle.std.proofs.Common.{◌≡◌, Ok, rules}
use Rattle.rows.specs.Refusals.{replacement}
use Rattle.checks.proofs.Replacing.{replacement_fine}
use Rattle.checks.proofs.edit.check_replacement.Goals as goal

pub check_place-requires : goal.check_place-requires
unfolding replacement
check_place-requires c =
    let whole : replacement c.args.arities.now c.args.replacement.now ≡ Ok tt = search rules in
    (c.requires.0, (replacement_fine c.args.arities.now c.args.replacement.now whole).0, c.requires.1, c.requires.2)
