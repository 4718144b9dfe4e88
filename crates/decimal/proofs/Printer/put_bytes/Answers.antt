-- `decimal::Printer::put_bytes` meets its contract.
use Rattle.std.proofs.Common.{◌≡◌, length, refl, ap, ◌∙◌, arith}
use Rattle.rows.specs.Buffers.{written}
use Rattle.rows.proofs.Buffers.{length-written}
use Rattle.decimal.proofs.Putting.{written_part}
use Rattle.decimal.proofs.Printer.put_bytes.Goals as goal

pub returns : goal.returns
returns c =
    let a = c.args in
    let e : _ ≡ written a.self.now.out.now a.self.now.at a.bytes.now = written_part _ _ _ a.bytes.now _ c.copy_from_slice.ensures.after (omega arith) in
    record {
      lent = refl;
      size = ap length e ∙ length-written _ _ _ c.requires;
      printed = record { next = refl; buffer = e };
    }
