use Rattle.std.proofs.Common.{ℕ, List, ◌+◌, set, get_or, sym, ap, ◌∙◌, arith}
use Rattle.rows.proofs.Buffers.{written_nil}
use Rattle.buffers.proofs.Written.{turn}
use Rattle.catalogue_write.proofs.layout.put_arities.Goals as goal

pub loop-k-init : goal.loop-k-init
loop-k-init c = sym (written_nil _ _)

pub loop-k-preserved : goal.loop-k-preserved
loop-k-preserved c =
    let k = c.loop-k.k in
    let A = c.args.arities.now in
    ap (λ (b : List ℕ). set b (c.args.at + k) (get_or A k 0)) c.loop-k.invariant ∙ turn c.args.file.now c.args.at A k (omega arith) (omega arith)
