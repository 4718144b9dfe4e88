-- `buffers::copy_into` meets its contract: after i turns the first i elements are copied.
use Rattle.std.proofs.Common.{sym, ap, ◌∙◌, arith}
use Rattle.std.proofs.Math.ListN.{set}
use Rattle.std.proofs.lemmas.List.{take_all}
use Rattle.rows.specs.Buffers.{written}
use Rattle.rows.proofs.Buffers.{written_nil}
use Rattle.buffers.proofs.Written.{turn_front}
use Rattle.buffers.proofs.copy_into.Goals as goal

pub loop-i-init : goal.loop-i-init
loop-i-init g c = sym (written_nil c.args.b.now 0)

pub loop-i-preserved : goal.loop-i-preserved
loop-i-preserved g c =
    let l = c.loop-i in
    let x = c.index-v-i.result in
    ap (λ b. set b l.i x) l.invariant ∙ turn_front c.args.b.now c.args.v.now l.i x c.index-v-i.is c.loop-i-test.true (omega (arith, c.requires, c.loop-i-test.true))

pub returns : goal.returns
returns g c = c.loop-i.invariant ∙ ap (written c.args.b.now 0) (take_all c.loop-i.i c.args.v.now c.loop-i-test.false)
