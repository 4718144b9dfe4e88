-- `catalogue_read::file::check_in` meets its contract. The front of the room holds the arities.
use Rattle.std.proofs.Common.{length, take, ap, ◌∙◌}
use Rattle.rows.proofs.Buffers.{written-front}
use Rattle.catalogue_read.proofs.file.check_in.Goals as goal

pub check_under-requires : goal.check_under-requires
check_under-requires g c =
    let a = c.args.arities.now in
    (c.requires.file.0, ap (take (length a)) c.widen.ensures ∙ written-front _ a ∙ c.requires.file.1)
