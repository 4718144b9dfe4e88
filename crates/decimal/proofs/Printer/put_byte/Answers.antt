-- `decimal::Printer::put_byte` meets its contract.
use Rattle.std.proofs.Common.{refl}
use Rattle.std.proofs.Math.ListN.{length-set}
use Rattle.decimal.proofs.Writing.{written_byte}
use Rattle.decimal.proofs.Printer.put_byte.Goals as goal

pub returns : goal.returns
returns c =
    record {
      lent = refl;
      size = simp length-set;
      printed = record { next = refl; buffer = written_byte _ _ _ c.requires };
    }
