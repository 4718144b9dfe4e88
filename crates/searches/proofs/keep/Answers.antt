-- `searches::keep` meets its contract.
use Rattle.std.proofs.Common.{sym, ◌∙◌, arith}
use Rattle.searches.proofs.Keeping.{kept_none, kept_more, kept_same}
use Rattle.searches.proofs.keep.Goals.{then-passes, else-passes}
use Rattle.searches.proofs.keep.Goals as goal

pub loop-p-init : goal.loop-p-init
loop-p-init g c = (omega arith, λ test told. kept_none test c.args.out.now 0)

pub loop-p-preserved : goal.loop-p-preserved
loop-p-preserved g c =
    let a = c.args in
    let l = c.loop-p in
    let i = l.p-index in
    elim c.if-passes.branch [
      | then-passes w ↦
          rw (w.count-is, w.out-is) (
            omega (arith, l.invariant.0),
            λ test told. kept_more test a.out.now a.places.now 0 i l.count l.out (l.invariant.1 test told) c.loop-p-test.true (omega (arith, c.requires.room)) (sym (told i c.passes.result c.loop-p-test.true c.passes.ensures) ∙ w.if-passes.true),
          )
      | else-passes w ↦
          rw (w.count-is, w.out-is) (
            omega (arith, l.invariant.0),
            λ test told. kept_same test a.out.now a.places.now 0 i l.count l.out (l.invariant.1 test told) c.loop-p-test.true (sym (told i c.passes.result c.loop-p-test.true c.passes.ensures) ∙ w.if-passes.false),
          )
    ]
