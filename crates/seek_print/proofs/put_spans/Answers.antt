-- `seek_print::put_spans` meets its contract: the pieces stand one behind the other.
use Rattle.std.proofs.Common.{arith, rules, add-one, ◌≡◌}
use Rattle.rows.specs.Limits.{variables}
use Rattle.decimal.proofs.Putting.{put_none, put_more}
use Rattle.seek_print.specs.Print.{spans_text}
use Rattle.seek_print.proofs.put_spans.Goals as goal

pub loop-v-init : goal.loop-v-init
unfolding spans_text
loop-v-init c = (put_none c.args.to.now, search rules)

pub put_span-requires : goal.put_span-requires
put_span-requires c = omega (arith, c.loop-v.invariant.0.size, c.loop-v.invariant.1, c.requires.0)

pub loop-v-preserved : goal.loop-v-preserved
unfolding spans_text
loop-v-preserved c =
    let l = c.loop-v in
    let p = c.put_span.ensures in (
      rw (add-one l.v) (put_more (omega (arith, l.invariant.1, c.requires.0)) l.invariant.0 p.0),
      omega (arith, l.invariant.1, p.1),
    )

pub returns : goal.returns
returns c =
    let l = c.loop-v in
    let e : l.v ≡ variables = search rules in
    (rw e at l.invariant.0, omega (arith, l.invariant.1))
