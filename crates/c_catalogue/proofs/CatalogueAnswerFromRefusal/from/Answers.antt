-- A refusal's number is small.
use Rattle.std.proofs.Common.{arith}
use Rattle.refusal_numbers.proofs.Few.{number-few}
use Rattle.c_catalogue.proofs.CatalogueAnswerFromRefusal.from.Goals as goal

pub overflow_cast-result : goal.overflow_cast-result
overflow_cast-result c = record { fits = omega (arith, c.number_of.ensures, number-few c.args.refusal) }
