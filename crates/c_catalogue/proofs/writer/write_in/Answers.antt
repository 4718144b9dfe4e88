-- `c_catalogue::writer::write_in` meets its contract. The arities stand at the front of the room, as numbers.
use Rattle.std.proofs.Common.{ℕ, List, ◌≡◌, take, ap, subst, ◌∙◌, arith}
use Rattle.std.proofs.Math.Seq.{take-length}
use Rattle.wire.specs.Wire.{numbers as numbers_of}
use Rattle.wire.proofs.Numbers.{front_read}
use Rattle.catalogue_write.specs.Answers.{Writes}
use Rattle.c_catalogue.proofs.writer.write_in.Goals as goal

pub returns : goal.returns
returns g c =
    let a = c.args in
    let A = numbers_of a.arities.now in
    let n = c.count-n in
    let front : take n.result c.decode.new.room ≡ A =
    ap (take n.result) c.decode.ensures
    ∙ front_read A _ n.result (omega (arith, n.ensures))
    ∙ ap (λ (k : ℕ). take k A) n.ensures
    ∙ take-length A in
    subst (λ (l : List ℕ). Writes l a.numbers.now a.lengths.now (numbers_of a.rows.now) a.file.now c.write_catalogue.result c.write_catalogue.new.file) front c.write_catalogue.ensures
