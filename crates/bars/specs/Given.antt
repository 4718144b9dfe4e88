-- Inside: no public contract cites what stands in this file, and no reader has to believe it.
-- What the functions below the calls ask for.
use Rattle.std.specs.Prelude.{ℕ, ◌*◌, ◌<◌, ◌≤◌, ◌≡◌, List, length, Ok}
use Rattle.rows.specs.Limits.{row_most}
use Rattle.rows.specs.Programme.{alphabet_of}
use Rattle.rows.specs.Reading.{Accepted}
use Rattle.rows.specs.Refusals.{alphabet}

-- an accepted row within the sizes, and a buffer with room for its bar form
pub record Writable (A w b : List ℕ) : Type 0 where
  pub fine : alphabet (alphabet_of A) ≡ Ok tt
  pub accepted : Accepted A w
  pub most : length w ≤ row_most
  pub fits : 2 * length w ≤ length b

-- an accepted alphabet, some input, and room for as many open nodes as it has numbers
pub record Roomy (A v l : List ℕ) : Type 0 where
  pub fine : alphabet (alphabet_of A) ≡ Ok tt
  pub some : 0 < length v
  pub room : length v ≤ length l
