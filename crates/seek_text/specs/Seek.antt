-- What `seek` prints for an input. To be read with Lines of crates/decimal/specs and Print of crates/seek_print/specs.
use Rattle.std.specs.Prelude.{ℕ, zero, suc, ◌+◌, ◌≤◌, ◌<◌, ◌≡◌, List, [], ◌∷◌, ◌++◌, map, length, get_or, Result, Ok, Err, ⊤}
use Rattle.rows.specs.Limits.{row_most}
use Rattle.rows.specs.Programme.{alphabet_of}
use Rattle.rows.specs.Row.{sized}
use Rattle.rows.specs.Parse.{table}
use Rattle.rows.specs.Refusals.{◌then◌, as_kept, alphabet, symbols, pattern}
use Rattle.rows.specs.declared.Refusal.{Refusal}
use Rattle.rows.specs.declared.Refusal.TheVariants.{Row, Input}
use Rattle.rows.specs.declared.Text.TheVariants.{Line, Bytes}
use Rattle.patterns.specs.Answers.{Listed, spans}
use Rattle.decimal.specs.Lines.{line, Small}
use Rattle.seek_print.specs.Print.{refusal_text, count_text, match_text}

-- the most bytes of an input
abbrev pub input_most : ℕ
input_most = 65536

-- the text b is three lines: the arities A, the row w and the pattern q
pub record Says (b A w q : List ℕ) : Type 0 where
  pub arities : Small A
  pub row : Small w
  pub pattern : Small q
  pub text : b ≡ line A ++ (line w ++ line q)

-- no line of numbers begins the text
abbrev pub NoLine : List ℕ → Type 0
NoLine b = (ns z : List ℕ) → Small ns → b ≡ line ns ++ z → ⊥

-- Line k is the first faulty one of a text that should be n lines of numbers, counted from i on: the first of them is not
-- there; or it is, and the fault stands behind it; or all n are there, and something follows.
pub data Faulty : ℕ → ℕ → List ℕ → ℕ → Type 0 where
  here : {n i : ℕ} {b : List ℕ} → NoLine b → Faulty (suc n) i b i
  later : {n i : ℕ} {b : List ℕ} {k : ℕ} (ns z : List ℕ) → Small ns → b ≡ line ns ++ z → Faulty n (i + 1) z k → Faulty (suc n) i b k
  extra : {i : ℕ} {b : List ℕ} → 0 < length b → Faulty zero i b i

-- what the program refuses by itself: 61, too many bytes; then 60, a faulty, missing or fourth line
pub data InputRefused (b : List ℕ) : Refusal → Type 0 where
  long : input_most < length b → InputRefused b (Input Bytes)
  faulty : {k : ℕ} → length b ≤ input_most → Faulty 3 1 b k → InputRefused b (Input (Line k))

-- the library's refusals that an input can meet, in their order: 1 to 5, 7 to 9, 11 to 15
unfoldable pub seek_check : List ℕ → List ℕ → List ℕ → Result ⊤ Refusal
seek_check A w q = alphabet (alphabet_of A) then as_kept Row (sized (length w) row_most) then symbols Row A w then pattern A q

-- the line of the match at p
abbrev pub line_text : List ℕ → List ℕ → List ℕ → ℕ → List ℕ
line_text A w q p = match_text p (get_or (table A w) p 0) (spans A w q p)

-- lines as one text
unfoldable pub joined : List (List ℕ) → List ℕ
joined [] = []
joined (l ∷ ls) = l ++ joined ls

-- What `seek` prints for the input b: a refusal of its own; else a refusal of the library for the three lists that the
-- input says; else the number of the matches and their lines.
pub data Prints (b : List ℕ) : List ℕ → Type 0 where
  input_refused : {r : Refusal} → InputRefused b r → Prints b (refusal_text r)
  lists_refused : (A w q : List ℕ) {r : Refusal} → length b ≤ input_most → Says b A w q → seek_check A w q ≡ Err r → Prints b (refusal_text r)
  lists_searched : (A w q ps : List ℕ) → length b ≤ input_most → Says b A w q → seek_check A w q ≡ Ok tt → Listed (alphabet_of A) w q (length w) ps
      → Prints b (count_text (length ps) ++ joined (map (line_text A w q) ps))
