-- The text of a response line by line, and what is written of it page by page: what the contracts of `answer_input` and
-- `print_page` promise to the program.
use Rattle.std.specs.Prelude.{ℕ, ◌-◌, ◌≤◌, ◌<◌, ◌≡◌, List, [], ◌∷◌, ◌++◌, map, length, take, drop, Result, Ok, Err}
use Rattle.seek_print.specs.Print.{refusal_text, count_text}
use Rattle.seek_text.specs.Seek.{line_text, joined, Prints}
use Rattle.rows.specs.declared.Refusal.{Refusal}
use Rattle.seek_text.specs.declared.search.Found.{Found}
use Rattle.seek_text.specs.declared.pages.Page.{Page}

-- The lines of a response. The arities, the row and the pattern of what was found stand in the buffer n, one behind the other, and the
-- matches at the front of the buffer y.
abbrev pub lines_of : Result Found Refusal → List ℕ → List ℕ → List (List ℕ)
lines_of (Ok f) n y =
    count_text f.count
    ∷ map (line_text (take f.lists.arities n) (take (f.lists.row - f.lists.arities) (drop f.lists.arities n)) (take (f.lists.pattern - f.lists.row) (drop f.lists.row n)))
    (take f.count y)
lines_of (Err r) n y = refusal_text r ∷ []

-- the response r to the input b, with what it left in the buffers: its lines are what `seek` prints
abbrev pub Answered : List ℕ → Result Found Refusal → List ℕ → List ℕ → Type 0
Answered b r n y = Prints b (joined (lines_of r n y))

-- A page holds the lines from number `first` up to `next`, of which there is one at least, unless all are printed. Its bytes
-- stand at the front of the buffer b.
pub record PagePrinted (ls : List (List ℕ)) (first : ℕ) (page : Page) (b : List ℕ) : Type 0 where
  pub on : first ≤ page.next
  pub more : first < length ls → first < page.next
  pub within : page.next ≤ length ls
  pub bytes : page.bytes ≤ length b
  pub text : take page.bytes b ≡ joined (take (page.next - first) (drop first ls))

-- What is written page by page, from line number `first` on until all are printed: the bytes of each page, out of the buffer
-- in which it was printed.
pub data Pages (ls : List (List ℕ)) : ℕ → List ℕ → Type 0 where
  done : Pages ls (length ls) []
  page : {first : ℕ} {z : List ℕ} (p : Page) (b : List ℕ) → PagePrinted ls first p b → Pages ls p.next z
      → Pages ls first (take p.bytes b ++ z)
