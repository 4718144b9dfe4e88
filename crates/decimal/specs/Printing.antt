-- Inside: no public contract cites what stands in this file, and no reader has to believe it.
-- What is printed into a lent buffer.
use Rattle.std.specs.Prelude.{◌≡◌, List, ℕ, length}
use Rattle.decimal.specs.Inside.{Printed}
use Rattle.decimal.specs.declared.Printer.{Printer}

-- the text v was printed by p behind what was there, and made it p'; the buffer is the one that was lent
pub record Put (p : Printer) (v : List ℕ) (p' : Printer) : Type 0 where
  pub lent : p'.out.ghost_name ≡ p.out.ghost_name
  pub size : length p'.out.now ≡ length p.out.now
  pub printed : Printed p.out.now p.at v p'.at p'.out.now
