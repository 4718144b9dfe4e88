-- How answers on catalogue files cross to C: the numbers of the answer's struct, for each answer of the Rattle calls.
use Rattle.std.specs.Prelude.{ℕ, Result, Ok, Err}
use Rattle.refusal_numbers.specs.Numbers.{number, place, programme}
use Rattle.rows.specs.declared.Refusal.{Refusal}
use Rattle.catalogue_read.specs.declared.Opened.{Opened}
use Rattle.c_catalogue.specs.declared.CatalogueAnswer.{CatalogueAnswer}

-- nothing is refused: a count
abbrev pub granted : ℕ → CatalogueAnswer
granted n = record { refusal = 0; programme = 0; place = 0; count = n }

-- a refusal: its number and its place, and the programme's number beside a row's fault
abbrev pub refused : Refusal → CatalogueAnswer
refused r = record { refusal = number r; programme = programme r; place = place r; count = 0 }

-- read: the count is the number of the programmes
abbrev pub read_answer : Result Opened Refusal → CatalogueAnswer
read_answer (Ok o) = granted o.programmes
read_answer (Err r) = refused r

-- write: the count is the size of the file
abbrev pub write_answer : Result ℕ Refusal → CatalogueAnswer
write_answer (Ok n) = granted n
write_answer (Err r) = refused r
