use Rattle.std.proofs.Common.{rules, ◌≡◌, ◌∙◌, sum}
use Rattle.checks.proofs.Sums.{sum_begins}
use Rattle.checks.proofs.sheet.sum_of.Goals as goal

pub returns : goal.returns
returns c =
    let total : c.sum.result ≡ sum c.args.lengths.now = search rules in
    total ∙ sum_begins c.args.lengths.now
