-- `catalogue_read::file::check_file` meets its contract. The part that is lent holds the arities.
use Rattle.std.proofs.Common.{sym, ◌∙◌, arith}
use Rattle.catalogue.specs.Refusals.{file_check}
use Rattle.catalogue_read.specs.Behind.{behind_head}
use Rattle.catalogue_read.proofs.Behind.{headed, arities_fit_lem, arities_are}
use Rattle.catalogue_read.proofs.file.check_file.Goals as goal

pub programmes_in-requires : goal.programmes_in-requires
programmes_in-requires c = headed _ (sym c.check_head.ensures ∙ c.in_ok-check_head.was)

pub symbols_in-requires : goal.symbols_in-requires
symbols_in-requires c = headed _ (sym c.check_head.ensures ∙ c.in_ok-check_head.was)

pub slice_bounds-check_behind-end : goal.slice_bounds-check_behind-end
slice_bounds-check_behind-end c =
    let n = c.programmes_in in
    let s = c.symbols_in in
    omega (arith, arities_fit_lem _ (sym c.check_head.ensures ∙ c.in_ok-check_head.was) n.result s.result n.ensures.0 s.ensures.0)

pub check_behind-requires : goal.check_behind-requires
check_behind-requires c =
    let n = c.programmes_in in
    let s = c.symbols_in in
    (sym c.check_head.ensures ∙ c.in_ok-check_head.was, arities_are _ n.result n.ensures.0 s.result s.ensures.0)

pub returns : goal.returns
unfolding file_check behind_head
returns c = c.check_behind.ensures ∙ simp (sym c.check_head.ensures ∙ c.in_ok-check_head.was)
