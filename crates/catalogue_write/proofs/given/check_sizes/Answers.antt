use Rattle.std.proofs.Common.{sym, ◌∙◌}
use Rattle.catalogue_write.proofs.Granting.{sum_most}
use Rattle.catalogue_write.proofs.given.check_sizes.Goals as goal

pub size_of-size-requires : goal.size_of-size-requires
size_of-size-requires c = (
  c.requires.0,
  c.requires.1,
  sum_most c.args.numbers.now c.args.lengths.now c.args.m (sym c.check_lengths.ensures ∙ c.in_ok-check_lengths.was) c.requires.1 (λ i. (c.type_inv.lengths i).fits),
)
