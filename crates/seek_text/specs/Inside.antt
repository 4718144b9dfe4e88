-- Inside: no public contract cites what stands in this file, and no reader has to believe it.
-- What reading an input answers, what a search of its lists finds, what printing asks of the buffers, and what it leaves.
use Rattle.std.specs.Prelude.{ℕ, ◌+◌, ◌-◌, ◌≤◌, ◌≡◌, List, ◌++◌, length, take, drop, Result, Ok, Err}
use Rattle.rows.specs.Limits.{row_most}
use Rattle.rows.specs.Programme.{Alphabet, Programme, alphabet_of, programme}
use Rattle.rows.specs.Buffers.{written}
use Rattle.patterns.specs.Answers.{MatchesAt, Listed}
use Rattle.patterns.specs.Searchable.{Checked}
use Rattle.decimal.specs.Inside.{LineRead, LineAt}
use Rattle.decimal.specs.Printing.{Put}
use Rattle.decimal.specs.declared.Cursor.{Cursor}
use Rattle.decimal.specs.declared.Printer.{Printer}
use Rattle.seek_text.specs.Seek.{input_most, Says, InputRefused, seek_check, line_text}
use Rattle.seek_text.specs.declared.search.Found.{Found}
use Rattle.seek_text.specs.declared.input.Lists.{Lists}
use Rattle.rows.specs.declared.Refusal.{Refusal}
use Rattle.rows.specs.declared.Refusal.TheVariants.{Input}
use Rattle.rows.specs.declared.Text.TheVariants.{Line}

-- room for the numbers of the longest input: each takes two bytes
abbrev pub numbers_most : ℕ
numbers_most = 32768

-- the three lists of an input, one behind the other at the front of the buffer, and where each ends
pub record ListsRead (b y : List ℕ) (a r p : ℕ) (y' : List ℕ) : Type 0 where
  pub short : length b ≤ input_most
  pub arities : List ℕ
  pub row : List ℕ
  pub pattern : List ℕ
  pub says : Says b arities row pattern
  pub arities_end : a ≡ length arities
  pub row_end : r ≡ length arities + length row
  pub pattern_end : p ≡ length arities + length row + length pattern
  pub within : p ≤ length y
  pub buffer : y' ≡ written y 0 (arities ++ (row ++ pattern))

-- what reading an input into the buffer y answers, and what it leaves there (of no use after a refusal)
abbrev pub InputRead : List ℕ → List ℕ → Result Lists Refusal → List ℕ → Type 0
InputRead b y (Ok l) y' = ListsRead b y l.arities l.row l.pattern y'
InputRead b y (Err f) y' = InputRefused b f

-- what reading the next line answers: as reading a line, and a line that is faulty is a refusal
abbrev pub NextLine : List ℕ → Cursor → List ℕ → ℕ → Result (ℕ × Cursor) Refusal → List ℕ → Type 0
NextLine b c y i (Ok (k, d)) y' = LineRead b c y i k d y'
NextLine b c y i (Err r) y' = (k : ℕ) × (r ≡ Input (Line k)) × LineAt b c y i (Err k) y'

-- an accepted row with its table t and its classes c, and an accepted pattern, whose matches are the positions ps
pub record Ready (A w t c q ps : List ℕ) : Type 0 where
  pub checked : Checked (alphabet_of A) (programme w t c) q
  pub listed : Listed (alphabet_of A) w q (length w) ps

-- k matches were found, which stand at the front of the buffer y; t begins with the row's table and c with its classes
pub record MatchesFound (A w q : List ℕ) (k : ℕ) (t c y : List ℕ) : Type 0 where
  pub fine : seek_check A w q ≡ Ok tt
  pub count : k ≤ length y
  pub few : k ≤ row_most
  pub ready : Ready A w t c q (take k y)

-- what a search of the row w answers, and what it leaves in the table t, the classes c and the buffer y
abbrev pub Searched : List ℕ → List ℕ → List ℕ → Result ℕ Refusal → List ℕ → List ℕ → List ℕ → Type 0
Searched A w q (Ok k) t c y = MatchesFound A w q k t c y
Searched A w q (Err r) t c y = seek_check A w q ≡ Err r

-- the buffers hold what the lines of a response are printed from: the lists, the row's table t and its classes c, and the matches
pub record Holds (f : Found) (n t c y : List ℕ) : Type 0 where
  pub row_after : f.lists.arities ≤ f.lists.row
  pub pattern-after : f.lists.row ≤ f.lists.pattern
  pub within : f.lists.pattern ≤ length n
  pub count : f.count ≤ length y
  pub few : f.count ≤ row_most
  pub ready : Ready (take f.lists.arities n) (take (f.lists.row - f.lists.arities) (drop f.lists.arities n)) t c (take (f.lists.pattern - f.lists.row) (drop f.lists.row n)) (take f.count y)

abbrev pub Printable : Result Found Refusal → List ℕ → List ℕ → List ℕ → List ℕ → Type 0
Printable (Ok f) n t c y = Holds f n t c y
Printable (Err r) n t c y = Unit {0}

-- the line of a match at p was printed by t, which made it t'
pub record LinePrinted (P : Programme) (q : List ℕ) (p : ℕ) (t t' : Printer) : Type 0 where
  pub within : t'.at ≤ length t.out.now
  pub text : (a : Alphabet) → Checked a P q → MatchesAt a P.row q p → Put t (line_text a.arities P.row q p) t'
