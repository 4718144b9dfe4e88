-- The numbers that were read stand at the front.
use Rattle.std.proofs.Common.{ap, take, ◌∙◌, arith}
use Rattle.wire.specs.Wire.{numbers}
use Rattle.wire.proofs.Numbers.{front_read}
use Rattle.c_copied.proofs.copies.Copies.copy.Goals as goal

pub returns-clause-copied : goal.returns-clause-copied
returns-clause-copied g c =
    let n = c.args.n in
    let l = c.args.lent in
    let s = c.args.self.now in
    record {
      row = ap (take n) c.decode.ensures ∙ front_read (numbers l.row.now) s.row n (omega (arith, c.requires));
      table = ap (take n) c.decode-2.ensures ∙ front_read (numbers l.table.now) s.table n (omega (arith, c.requires));
      classes = ap (take n) c.decode-3.ensures ∙ front_read (numbers l.classes.now) s.classes n (omega (arith, c.requires));
    }
