-- `searches::write_positions` meets its contract.
use Rattle.std.proofs.Common.{◌≡◌, sym, ap, ◌∙◌, arith}
use Rattle.std.proofs.Math.ListN.{set}
use Rattle.rows.specs.Buffers.{written}
use Rattle.rows.proofs.Buffers.{written_nil}
use Rattle.patterns.specs.Walk.{below}
use Rattle.searches.specs.Searches.{positions_below}
use Rattle.searches.proofs.Counting.{positions_length, positions_more}
use Rattle.searches.proofs.Writing.{front_snoc}
use Rattle.searches.proofs.write_positions.Goals as goal

pub loop-i-init : goal.loop-i-init
unfolding below
loop-i-init c = sym (written_nil c.args.out.now 0)

pub loop-i-preserved : goal.loop-i-preserved
loop-i-preserved c =
    let i = c.loop-i in
    ap (λ o. set o i.i i.i) i.invariant
    ∙ front_snoc c.args.out.now (positions_below i.i) i.i i.i (sym (positions_length i.i)) (omega (arith, c.loop-i-test.true, c.requires.0))
    ∙ ap (written c.args.out.now 0) (positions_more i.i)

pub returns : goal.returns
returns c = let e : c.args.n ≡ c.loop-i.i = omega arith in rw e c.loop-i.invariant
