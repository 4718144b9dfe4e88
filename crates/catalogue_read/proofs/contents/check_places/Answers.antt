-- `catalogue_read::contents::check_places` meets its contract. Start and length of the entry at k decide what is said from k on.
use Rattle.std.proofs.Common.{length, sym, ap, ◌∙◌, arith}
use borrow.Author.Tests.{lt-ltb, le-ltb, eq-eqb, ne_eqb}
use Rattle.wire.specs.Wire.{numbers}
use Rattle.catalogue.specs.Refusals.{placed}
use Rattle.catalogue.proofs.Scan.{entries_all, placed_at, placed_done}
use Rattle.catalogue_read.proofs.contents.check_places.Goals as goal

pub loop-k-init : goal.loop-k-init
loop-k-init c = (c.requires.1, ap (placed _ 4 _) (entries_all _ _))

pub returns-then-wide_at-next : goal.returns-then-wide_at-next
returns-then-wide_at-next c =
    let f = c.args.file.now in
    let l = c.loop-k in
    simp (l.invariant.1 ∙ placed_at (numbers f) c.args.n l.k (omega arith) (length f) l.next, sym c.wide_at.ensures, ne_eqb _ _ c.if-wide_at-next.true)

pub returns-then-file-end : goal.returns-then-file-end
returns-then-file-end c =
    let f = c.args.file.now in
    let l = c.loop-k in
    let here = l.invariant.1 ∙ placed_at (numbers f) c.args.n l.k (omega arith) (length f) l.next in
    simp (here, sym c.wide_at.ensures, eq-eqb _ _ c.if-wide_at-next.false, sym c.wide_at-in-loop-k.ensures, lt-ltb _ _ c.if-file-end.true)

pub loop-k-preserved : goal.loop-k-preserved
loop-k-preserved c =
    let f = c.args.file.now in
    let l = c.loop-k in (
      c.if-file-end.false,
      l.invariant.1
          ∙ placed_at (numbers f) c.args.n l.k (omega arith) (length f) l.next
          ∙ simp (sym c.wide_at.ensures, eq-eqb _ _ c.if-wide_at-next.false, sym c.wide_at-in-loop-k.ensures, le-ltb _ _ c.if-file-end.false),
    )

pub returns-then-next-file : goal.returns-then-next-file
returns-then-next-file c =
    let f = c.args.file.now in
    let l = c.loop-k in
    sym (l.invariant.1 ∙ placed_done (numbers f) c.args.n l.k (length f) l.next (omega arith) ∙ simp (eq-eqb _ _ c.if-next-file.true))

pub returns-else-next-file : goal.returns-else-next-file
returns-else-next-file c =
    let f = c.args.file.now in
    let l = c.loop-k in
    sym (l.invariant.1 ∙ placed_done (numbers f) c.args.n l.k (length f) l.next (omega arith) ∙ simp (ne_eqb _ _ c.if-next-file.false))
