-- `seek_text::pages::Told::print_page` meets its contract.
use Rattle.std.proofs.Common.{◌≡◌, ℕ, List, refl, ◌∙◌, arith, rules}
use Rattle.seek_text.specs.Pages.{lines_of}
use Rattle.seek_text.proofs.Paging.{paged_none, paged_more, page_printed}
use Rattle.seek_text.specs.Pages.{PagePrinted}
use Rattle.seek_text.specs.declared.pages.Page.{Page}
use mathlib.Core.Logic.{inl, inr}
use Rattle.seek_text.proofs.pages.Told.print_page.Goals as goal

-- the buffer that was lent is what the printer holds at last
shown : {ls : List (List ℕ)} {first : ℕ} {p : Page} {b b' : List ℕ} → b' ≡ b → PagePrinted ls first p b → PagePrinted ls first p b'
shown e h = rw e h

pub loop-i-init : goal.loop-i-init
loop-i-init c = (refl, paged_none _ _ _ c.requires.1)

pub loop-i-preserved : goal.loop-i-preserved
loop-i-preserved c =
    let s = c.args.self.now in
    let l = c.loop-i in
    let p = c.put_line.ensures in (
      p.0.lent ∙ l.invariant.0,
      paged_more (lines_of s.response s.numbers.now s.positions.now) c.args.first c.args.out.now l.to.out.now l.to.at l.i l.invariant.1 c.put_line.new.to.at _ (rw (← c.line_count-count.ensures _ _ _ _ c.requires.0) c.loop-i-test.true) p.0.size (p.0.printed, p.1),
    )

pub returns-then-room-to-lt-LINE_MOST : goal.returns-then-room-to-lt-LINE_MOST
returns-then-room-to-lt-LINE_MOST c =
    let s = c.args.self.now in
    let l = c.loop-i in
    shown (search rules)
    (page_printed (lines_of s.response s.numbers.now s.positions.now) c.args.first c.args.out.now l.to.out.now l.to.at l.i l.invariant.1 c.requires.2 (inr (omega (arith, c.if-room-to-lt-LINE_MOST.true, l.invariant.1.size))))

pub returns : goal.returns
returns c =
    let s = c.args.self.now in
    let l = c.loop-i in
    let n = c.line_count-count.ensures _ _ _ _ c.requires.0 in
    let all : c.line_count-count.result ≡ l.i = omega (arith, c.loop-i-test.false, l.invariant.1.within, n) in
    rw all
    (shown (search rules)
    (page_printed (lines_of s.response s.numbers.now s.positions.now) c.args.first c.args.out.now l.to.out.now l.to.at l.i l.invariant.1 c.requires.2 (inl (omega (arith, n, all)))))
