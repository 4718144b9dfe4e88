-- Inside: no public contract cites what stands in this file, and no reader has to believe it.
-- What refusals 1 to 15 and 62 leave: a row with what is kept beside it, and a pattern that can be searched for in it.
use Rattle.std.specs.Prelude.{ℕ, ◌≤◌, ◌<◌, ◌≡◌, List, length, get_or, Ok}
use Rattle.rows.specs.Limits.{alphabet_most, pattern_most}
use Rattle.rows.specs.Programme.{Alphabet, Programme}
use Rattle.rows.specs.Row.{reading}
use Rattle.rows.specs.declared.Leaves.TheVariants.{Blanks}
use Rattle.tables.specs.Given.{Right, Classed}
use Rattle.patterns.specs.Pattern.{leaf}
use Rattle.patterns.specs.declared.Leaf.TheVariants.{Blank}

-- an alphabet that is not too large, an accepted row with its table and its classes, an accepted pattern
pub record Checked (a : Alphabet) (P : Programme) (q : List ℕ) : Type 0 where
  pub few : length a.arities ≤ alphabet_most
  pub row : Right a.arities P.row P.table
  pub classed : Classed a.arities P.row P.classes
  pub pattern : reading a.arities Blanks pattern_most q ≡ Ok tt

-- programme and pattern are accepted for some alphabet. (The search does not look at it, and what it answers holds for each
-- alphabet for which they are.)
abbrev pub Searchable : Programme → List ℕ → Type 0
Searchable P q = (a : Alphabet) × Checked a P q

-- from place m on every number of the pattern is S
pub record BlankFrom (q : List ℕ) (m : ℕ) : Type 0 where
  pub within : m ≤ length q
  pub blank : (i : ℕ) → m ≤ i → i < length q → leaf (get_or q i 0) ≡ Blank
