-- The promises on what `seek` reads and prints. Each is proved in proofs/Promises, under the same name in small letters.
use Rattle.std.specs.Prelude.{ℕ, ◌≤◌, ◌≡◌, List, ◌↔◌, length, Result}
use Rattle.rows.specs.declared.Refusal.{Refusal}
use Rattle.rows.specs.Buffers.{One}
use Rattle.seek_text.specs.Seek.{input_most, Says, InputRefused, Prints}
use Rattle.seek_text.specs.Pages.{lines_of, Answered, Pages}
use Rattle.seek_text.specs.declared.search.Found.{Found}

-- A text says three lists in one way only.
abbrev pub TextSays : Type 0
TextSays = (b A w q A' w' q' : List ℕ) → Says b A w q → Says b A' w' q' → (A ≡ A') × (w ≡ w') × (q ≡ q')

-- An input is accepted, that is, the program refuses nothing by itself, exactly if it has at most 65,536 bytes and they say
-- three lists.
abbrev pub InputAccepted : Type 0
InputAccepted = (b : List ℕ) → ((r : Refusal) → InputRefused b r → ⊥) ↔ ((length b ≤ input_most) × ((A w q : List ℕ) × Says b A w q))

-- For every input, whatever its bytes, there is one text that `seek` prints, and no other.
abbrev pub SeekOne : Type 0
SeekOne = (b : List ℕ) → One (Prints b)

-- The pages together are the text of the input: the refusal, or the count and all lines of the matches.
abbrev pub PagesWhole : Type 0
PagesWhole = (b : List ℕ) (r : Result Found Refusal) (n y z : List ℕ) → Answered b r n y → Pages (lines_of r n y) 0 z → Prints b z
