-- `catalogue_write::layout::put_contents` meets its contract. The entry at k stands behind those before it.
use Rattle.std.proofs.Common.{ℕ, List, [], ◌∷◌, ◌+◌, ◌*◌, get_or, sym, ◌∙◌, arith}
use mathlib.Core.Path.{ap₂}
use Rattle.rows.specs.Buffers.{written}
use Rattle.rows.proofs.Buffers.{written_nil}
use Rattle.wire.specs.Wire.{bytes_of}
use Rattle.catalogue.specs.Catalogue.{contents}
use Rattle.catalogue.specs.Refusals.{total}
use Rattle.catalogue_write.specs.Laid.{laid}
use Rattle.catalogue_write.proofs.Laying.{total_more, entry-written}
use Rattle.catalogue_write.proofs.layout.put_contents.Goals as goal

pub loop-k-init : goal.loop-k-init
unfolding laid contents bytes_of total
loop-k-init c = (omega arith, omega (arith, c.requires.2), sym (written_nil _ _))

pub loop-k-preserved : goal.loop-k-preserved
loop-k-preserved c =
    let k = c.loop-k.k in
    let ns = c.args.numbers.now in
    let ls = c.args.lengths.now in
    let more = total_more ls k (omega (arith, c.requires.0)) in (
      omega (arith, more.0, c.loop-k.invariant.0),
      omega (arith, more.1, c.loop-k.invariant.0, c.requires.2),
      c.put_entry.ensures
          ∙ ap₂
          (λ (b : List ℕ) (i : ℕ).
          written b (2 * (2 + 6 * k)) (bytes_of (contents ((record { programme = get_or ns k 0; start = i; length = get_or ls k 0 }) ∷ []))))
          c.loop-k.invariant.2
          c.loop-k.invariant.0
          ∙ entry-written c.args.file.now ns ls c.args.first k (omega arith) c.requires.0 c.requires.1,
    )
