-- `seek::write_text` meets its contract: each page goes on behind the one before.
use Rattle.std.proofs.Common.{refl, arith, rules}
use Rattle.seek_text.specs.Seek.{joined}
use Rattle.seek_text.specs.Pages.{lines_of}
use Rattle.seek.proofs.Lines.{nothing_more, page_more}
use Rattle.seek.proofs.write_text.Goals as goal

pub loop-first-init : goal.loop-first-init
unfolding joined
loop-first-init g c = (search rules, c.line_count-count.ensures _ _ _ _ c.requires.0, refl, nothing_more _)

pub loop-first-preserved : goal.loop-first-preserved
loop-first-preserved g c =
    let before = c.loop-first.invariant in
    let page = c.print_page-page.ensures in
    let ls = lines_of c.args.told.response c.args.told.numbers.now c.args.told.positions.now in (
      omega (arith, page.within, before.1),
      before.1,
      search rules,
      page_more _ _ _ ls c.loop-first.first c.print_page-page.result c.print_page-page.new.out page before.3 c.in_ok-write_all.ensures.bytes,
    )
