-- `c_catalogue::writer::write_file` meets its contract. An alphabet that is too long is refused unread.
use Rattle.std.proofs.Common.{ℕ, length, ap, ◌∙◌, arith, Err}
use Rattle.rows.specs.Refusals.{◌then◌}
use Rattle.rows.specs.declared.Arities.TheVariants.{Count}
use Rattle.rows.specs.declared.Refusal.TheVariants.{Arities}
use Rattle.wire.specs.Wire.{numbers as numbers_of}
use Rattle.catalogue.specs.Refusals.{few}
use Rattle.catalogue_write.specs.Answers.{filed}
use Rattle.c_catalogue.proofs.Calls.{long_refused}
use Rattle.c_catalogue.proofs.writer.write_file.Goals as goal

pub returns-then-n-gt-ALPHABET_MOST : goal.returns-then-n-gt-ALPHABET_MOST
returns-then-n-gt-ALPHABET_MOST c =
    let a = c.args in
    let n = c.count-n.ensures in
    long_refused (numbers_of a.arities.now) a.numbers.now a.lengths.now (numbers_of a.rows.now) a.file.now (omega (arith, n)) _
    (λ size. c.refuse_alphabet.ensures size ∙ ap (λ (k : ℕ). filed (few (length a.numbers.now) then Err (Arities (Count k))) size) n)
