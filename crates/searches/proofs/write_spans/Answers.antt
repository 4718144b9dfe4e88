-- `searches::write_spans` meets its contract.
use Rattle.std.proofs.Common.{◌+◌, sym, ap, ◌∙◌, arith}
use Rattle.std.proofs.Math.ListN.{set}
use Rattle.rows.proofs.Buffers.{written_nil}
use Rattle.searches.specs.Spans.{mark_spans}
use Rattle.searches.proofs.Writing.{marks_more}
use Rattle.searches.proofs.write_spans.Goals as goal

pub loop-i-init : goal.loop-i-init
unfolding mark_spans
loop-i-init c = sym (written_nil c.args.out.now 0)

pub loop-i-preserved : goal.loop-i-preserved
loop-i-preserved c =
    let o = c.loop-i in
    let g = c.args in
    ap (λ l. set (set l (o.i + o.i) c.mark_begin.result) (o.i + o.i + 1) c.mark_end.result) o.invariant
    ∙ marks_more g.table.now g.marks g.out.now o.i _ _ (omega (arith, c.requires.1, c.loop-i-test.true)) c.mark_begin.ensures c.mark_end.ensures
