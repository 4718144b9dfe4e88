-- Inside: no public contract cites what stands in this file, and no reader has to believe it.
-- What is refused of a file behind its head.
use Rattle.std.specs.Prelude.{ℕ, List, Result, ⊤}
use Rattle.rows.specs.Programme.{alphabet_of}
use Rattle.rows.specs.Refusals.{◌then◌, alphabet}
use Rattle.catalogue.specs.Reading.{arities_in, catalogue_in}
use Rattle.catalogue.specs.Refusals.{contents_fit, rows_fit}
use Rattle.rows.specs.declared.Refusal.{Refusal}

-- 1 to 3, 67 to 69, 4 to 9
unfoldable pub behind_head : List ℕ → Result ⊤ Refusal
behind_head f = alphabet (alphabet_of (arities_in f)) then contents_fit f then rows_fit (arities_in f) (catalogue_in f).programmes
