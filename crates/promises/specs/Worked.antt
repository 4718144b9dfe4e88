-- The worked programmes of docs/SCOPE.md that are proved: one table of calls, each with what it says and leaves, under one
-- statement. Each line is an instance of the call's own contract: some answer that the contract admits, with these lists
-- afterwards, says so; that there is no other is `BuildOne`, `FindOne` and so on in Demands.
use Rattle.std.specs.Prelude.{ℕ, ◌≡◌, List, [], ◌∷◌, ◌++◌, length, replicate, pos, negsuc, Bool, ℤ, Result, Err, ⊤}
use Rattle.rows.specs.Limits.{bar}
use Rattle.rows.specs.Programme.{Alphabet, Programme, alphabet_of, programme}
use Rattle.rows.specs.declared.Refusal.{Refusal}
use Rattle.refusal_numbers.specs.Numbers.{programme as programmeBeside}
use Rattle.bars.specs.Calls.{ReadsBars, WritesBars}
use Rattle.catalogue.specs.Reading.{row_in}
use Rattle.catalogue.specs.Refusals.{row_check}
use Rattle.catalogue.specs.declared.Entry.{Entry}
use Rattle.catalogue_read.specs.Answers.{Reads, Takes}
use Rattle.catalogue_read.specs.declared.Opened.{Opened}
use Rattle.catalogue_write.specs.Answers.{Writes}
use Rattle.sparrowhem.specs.Said.{Said, Said.refused, Said.gives, check_said, found_said, bound_said, sheet_said, replaced_said, opened_said, taken_said, filed_said, bars_read_said, bars_written_said}
use Rattle.sparrowhem.specs.Build.{Built}
use Rattle.sparrowhem.specs.Search.{Finds, Binds}
use Rattle.sparrowhem.specs.Sheet.{SheetAnswers}
use Rattle.sparrowhem.specs.Edit.{Replacement}

-- what a call says, and what the lists hold afterwards
abbrev pub BuildSays : Alphabet → Programme → Said → Programme → Type 0
BuildSays a P said P' = (r : Result ⊤ Refusal) × Built a P r P' × (check_said r ≡ said)

abbrev pub FindSays : Alphabet → Programme → List ℕ → List ℕ → Said → List ℕ → Type 0
FindSays a P q y said y' = (r : Result ℕ Refusal) × Finds a P q y r y' × (found_said r ≡ said)

abbrev pub VariablesSay : Alphabet → Programme → List ℕ → ℕ → List ℕ → Said → List ℕ → Type 0
VariablesSay a P q p y said y' = (r : Result Bool Refusal) × Binds a P q p y r y' × (bound_said r ≡ said)

abbrev pub SheetSays : Alphabet → Programme → (qs ls y z : List ℕ) → Said → (y' z' : List ℕ) → Type 0
SheetSays a P qs ls y z said y' z' = (r : Result (ℕ × ℕ) Refusal) × SheetAnswers a P qs ls y z r y' z' × (sheet_said r ≡ said)

abbrev pub ReplaceSays : Alphabet → Programme → ℕ → List ℕ → ℕ → Said → Programme → Type 0
ReplaceSays a P n v p said P' = (r : Result (ℕ × ℤ) Refusal) × Replacement a P n v p r P' × (replaced_said r ≡ said)

abbrev pub ReadSays : List ℕ → List Entry → Said → List Entry → Type 0
ReadSays f es said es' = (r : Result Opened Refusal) × Reads f es r es' × (opened_said r ≡ said)

abbrev pub RowSays : List ℕ → Entry → List ℕ → Said → List ℕ → Type 0
RowSays f e b said b' = (r : Result ℕ Refusal) × Takes (row_check f e (length b)) (row_in f e) b r b' × (taken_said r ≡ said)

abbrev pub WriteSays : (A ns ls w b : List ℕ) → Said → List ℕ → Type 0
WriteSays A ns ls w b said b' = (r : Result ℕ Refusal) × Writes A ns ls w b r b' × (filed_said r ≡ said)

-- a write that refuses so, with the number of the programme beside it, and leaves the file as it was
abbrev pub WriteRefuses : (A ns ls w b : List ℕ) → Said → ℕ → Type 0
WriteRefuses A ns ls w b said n = (x : Refusal) × Writes A ns ls w b (Err x) b × (filed_said (Err x) ≡ said) × (programmeBeside x ≡ n)

abbrev pub BarsReadSays : (A v w : List ℕ) → Said → List ℕ → Type 0
BarsReadSays A v w said w' = (r : Result ℕ Refusal) × ReadsBars A v w r w' × (bars_read_said r ≡ said)

abbrev pub BarsWriteSays : (A w b : List ℕ) → Said → List ℕ → Type 0
BarsWriteSays A w b said b' = (r : Result ℕ Refusal) × WritesBars A w b r b' × (bars_written_said r ≡ said)

-- alphabet A and row T, T's table, and the same with entry 4 set to 5; T's classes, and the same with class 6 set to 6
abbrev pub A : Alphabet
A = alphabet_of (0 ∷ 0 ∷ 1 ∷ 2 ∷ 3 ∷ [])

abbrev pub T : List ℕ
T = 4 ∷ 3 ∷ 0 ∷ 0 ∷ 2 ∷ 1 ∷ 3 ∷ 0 ∷ 0 ∷ []

abbrev pub ends_of_T : List ℕ
ends_of_T = 9 ∷ 4 ∷ 3 ∷ 4 ∷ 6 ∷ 6 ∷ 9 ∷ 8 ∷ 9 ∷ []

abbrev pub stale_at_4 : List ℕ
stale_at_4 = 9 ∷ 4 ∷ 3 ∷ 4 ∷ 5 ∷ 6 ∷ 9 ∷ 8 ∷ 9 ∷ []

abbrev pub classes_of_T : List ℕ
classes_of_T = 0 ∷ 1 ∷ 2 ∷ 2 ∷ 4 ∷ 5 ∷ 1 ∷ 2 ∷ 2 ∷ []

abbrev pub misclassed_at_6 : List ℕ
misclassed_at_6 = 0 ∷ 1 ∷ 2 ∷ 2 ∷ 4 ∷ 5 ∷ 6 ∷ 2 ∷ 2 ∷ []

abbrev pub T_built : Programme
T_built = programme T ends_of_T classes_of_T

abbrev pub T_stale : Programme
T_stale = programme T stale_at_4 classes_of_T

abbrev pub T_misclassed : Programme
T_misclassed = programme T ends_of_T misclassed_at_6

-- a place that was not written, of which no call speaks; so many of them
abbrev pub unset : ℕ
unset = 60606

abbrev pub places : ℕ → List ℕ
places n = replicate n unset

-- S and X0, and the spans where X0 alone stands in the pattern
abbrev pub S : ℕ
S = 65535

abbrev pub X0 : ℕ
X0 = 65280

abbrev pub spans_of_X0 : ℕ → ℕ → List ℕ
spans_of_X0 b e = b ∷ e ∷ replicate 30 0

-- T with 3 0 1 put at 4, its table and its classes
abbrev pub T_with_3_0_1 : Programme
T_with_3_0_1 =
    programme (4 ∷ 3 ∷ 0 ∷ 0 ∷ 3 ∷ 0 ∷ 1 ∷ 3 ∷ 0 ∷ 0 ∷ []) (10 ∷ 4 ∷ 3 ∷ 4 ∷ 7 ∷ 6 ∷ 7 ∷ 10 ∷ 9 ∷ 10 ∷ [])
    (0 ∷ 1 ∷ 2 ∷ 2 ∷ 4 ∷ 2 ∷ 6 ∷ 1 ∷ 2 ∷ 2 ∷ [])

-- T with 1 put at 1, its table and its classes, of which those of all that stood further right have changed: places 7 and 8 are freed
abbrev pub T_with_1 : Programme
T_with_1 =
    programme (4 ∷ 1 ∷ 2 ∷ 1 ∷ 3 ∷ 0 ∷ 0 ∷ 65535 ∷ 65535 ∷ []) (7 ∷ 2 ∷ 4 ∷ 4 ∷ 7 ∷ 6 ∷ 7 ∷ 0 ∷ 0 ∷ [])
    (0 ∷ 1 ∷ 2 ∷ 1 ∷ 4 ∷ 5 ∷ 5 ∷ 0 ∷ 0 ∷ [])

-- four patterns laid end to end, 3 X0 X0, then 3 0, then one of no numbers, then 2 S, and their lengths
abbrev pub four_patterns : List ℕ
four_patterns = 3 ∷ X0 ∷ X0 ∷ 3 ∷ 0 ∷ 2 ∷ S ∷ []

abbrev pub four_lengths : List ℕ
four_lengths = 3 ∷ 2 ∷ 0 ∷ 2 ∷ []

-- the rows of two programmes laid end to end, T and 1, and the file of them with the numbers 7 and 900: head, contents, arities, rows
abbrev pub two_rows : List ℕ
two_rows = T ++ (1 ∷ [])

abbrev pub two_programmes : List ℕ
two_programmes =
    (2 ∷ 0 ∷ 5 ∷ 0 ∷ [])
    ++ ((7 ∷ 0 ∷ 0 ∷ 0 ∷ 33 ∷ 0 ∷ 0 ∷ 0 ∷ 9 ∷ 0 ∷ 0 ∷ 0 ∷ [])
    ++ ((132 ∷ 3 ∷ 0 ∷ 0 ∷ 51 ∷ 0 ∷ 0 ∷ 0 ∷ 1 ∷ 0 ∷ 0 ∷ 0 ∷ [])
    ++ ((0 ∷ 0 ∷ 1 ∷ 2 ∷ 3 ∷ [])
    ++ ((4 ∷ 0 ∷ 3 ∷ 0 ∷ 0 ∷ 0 ∷ 0 ∷ 0 ∷ 2 ∷ 0 ∷ 1 ∷ 0 ∷ 3 ∷ 0 ∷ 0 ∷ 0 ∷ 0 ∷ 0 ∷ [])
    ++ (1 ∷ 0 ∷ [])))))

-- a record of a programme, its row's start and length; and one that was not written
abbrev pub entry : ℕ → ℕ → ℕ → Entry
entry n b l = record { programme = n; start = b; length = l }

abbrev pub unset_entry : Entry
unset_entry = entry unset unset unset

-- so many bytes of a file that were not written
abbrev pub unset_bytes : ℕ → List ℕ
unset_bytes n = replicate n 170

-- symbols of arity 0, 1 and 2, a row of them, and its bar form; the form as it is printed elsewhere, a bar short; and the form of another
-- row, printed without its last bar
abbrev pub ranks : List ℕ
ranks = 0 ∷ 1 ∷ 2 ∷ []

abbrev pub two_parts : List ℕ
two_parts = 2 ∷ 2 ∷ 0 ∷ 1 ∷ 0 ∷ 1 ∷ 0 ∷ []

abbrev pub two_parts_barred : List ℕ
two_parts_barred = 2 ∷ 2 ∷ 0 ∷ bar ∷ 1 ∷ 0 ∷ bar ∷ bar ∷ bar ∷ 1 ∷ 0 ∷ bar ∷ bar ∷ bar ∷ []

abbrev pub a_bar_short : List ℕ
a_bar_short = 2 ∷ 2 ∷ 0 ∷ bar ∷ 1 ∷ 0 ∷ bar ∷ bar ∷ 1 ∷ 0 ∷ bar ∷ bar ∷ bar ∷ []

abbrev pub last_bar_lost : List ℕ
last_bar_lost = 2 ∷ 2 ∷ 0 ∷ bar ∷ 1 ∷ 0 ∷ bar ∷ bar ∷ bar ∷ 2 ∷ 0 ∷ bar ∷ 1 ∷ 0 ∷ bar ∷ bar ∷ bar ∷ []

-- a build of the row w that refuses so, and writes nothing
abbrev pub RefusedRow : List ℕ → ℕ → ℕ → Type 0
RefusedRow w k x = BuildSays A (programme w (places 9) (places 9)) (refused k x) (programme w (places 9) (places 9))

pub record Worked : Type 0 where
  -- 1: the table and the classes of T
  pub the_table : BuildSays A (programme T (places 9) (places 9)) (gives []) T_built
  -- 2: 3 X0 X0
  pub equal_parts : FindSays A T_built (3 ∷ X0 ∷ X0 ∷ []) (places 9) (gives (pos 2 ∷ [])) (1 ∷ 6 ∷ places 7)
  -- 3: 4 X0 S X0, and its variable
  pub alike_at_both_ends : FindSays A T_built (4 ∷ X0 ∷ S ∷ X0 ∷ []) (places 9) (gives (pos 1 ∷ [])) (0 ∷ places 8)
  pub its_variable : VariablesSay A T_built (4 ∷ X0 ∷ S ∷ X0 ∷ []) 0 (places 32) (gives (pos 1 ∷ [])) (spans_of_X0 1 4)
  -- 4: 4 X0 X0 S
  pub nowhere : FindSays A T_built (4 ∷ X0 ∷ X0 ∷ S ∷ []) (places 9) (gives (pos 0 ∷ [])) (places 9)
  -- 5: S
  pub everywhere : FindSays A T_built (S ∷ []) (places 9) (gives (pos 9 ∷ [])) (0 ∷ 1 ∷ 2 ∷ 3 ∷ 4 ∷ 5 ∷ 6 ∷ 7 ∷ 8 ∷ [])
  -- 6: X0 at position 0
  pub the_whole : VariablesSay A T_built (X0 ∷ []) 0 (places 32) (gives (pos 1 ∷ [])) (spans_of_X0 0 9)
  -- 7: 3 0 1 put at 4, in lists of ten places, and 3 X0 X0 in the new row
  pub grown :
      ReplaceSays A (programme (T ++ places 1) (ends_of_T ++ places 1) (classes_of_T ++ places 1)) 9 (3 ∷ 0 ∷ 1 ∷ []) 4 (gives (pos 10 ∷ pos 1 ∷ [])) T_with_3_0_1
  pub equal_parts_then : FindSays A T_with_3_0_1 (3 ∷ X0 ∷ X0 ∷ []) (places 9) (gives (pos 2 ∷ [])) (1 ∷ 7 ∷ places 7)
  -- 8: 1 put at 1; the change is -2
  pub shrunk : ReplaceSays A T_built 9 (1 ∷ []) 1 (gives (pos 7 ∷ negsuc 1 ∷ [])) T_with_1
  -- 9: a row that ends early; two that go on, the second with a bad number; a bad number before the row's end
  pub ends_early : RefusedRow (3 ∷ 0 ∷ []) 8 2
  pub goes_on : RefusedRow (0 ∷ 0 ∷ []) 9 1
  pub goes_on_badly : RefusedRow (0 ∷ 9 ∷ []) 9 1
  pub bad_number : RefusedRow (3 ∷ 9 ∷ 0 ∷ []) 7 1
  -- 10: with entry 4 of the table set to 5 no call goes on, and nothing is written
  pub stale_find : FindSays A T_stale (3 ∷ X0 ∷ X0 ∷ []) (places 9) (refused 10 4) (places 9)
  pub stale_variables : VariablesSay A T_stale (3 ∷ X0 ∷ X0 ∷ []) 1 (places 32) (refused 10 4) (places 32)
  pub stale_replace : ReplaceSays A T_stale 9 (1 ∷ []) 1 (refused 10 4) T_stale
  -- 12: with class 6 set to 6, which names no earlier subtree though an equal one stands at 1, no call goes on either
  pub misclassed_find : FindSays A T_misclassed (3 ∷ X0 ∷ X0 ∷ []) (places 9) (refused 62 6) (places 9)
  pub misclassed_variables : VariablesSay A T_misclassed (3 ∷ X0 ∷ X0 ∷ []) 1 (places 32) (refused 62 6) (places 32)
  pub misclassed_replace : ReplaceSays A T_misclassed 9 (1 ∷ []) 1 (refused 62 6) T_misclassed
  -- 13: four patterns at once, with 2, none, none and 1 matches: the second ends before its tree does, the third is empty; and the same
  -- with 11 places for the 12 numbers of the results
  pub four_at_once :
      SheetSays A T_built four_patterns four_lengths (places 9) (places 13) (gives (pos 4 ∷ pos 3 ∷ [])) (1 ∷ 6 ∷ 4 ∷ places 6)
      (0 ∷ 0 ∷ 2 ∷ 14 ∷ 2 ∷ 0 ∷ 11 ∷ 0 ∷ 0 ∷ 0 ∷ 0 ∷ 1 ∷ places 1)
  pub four_without_room : SheetSays A T_built four_patterns four_lengths (places 9) (places 11) (refused 19 12) (places 9) (places 11)
  -- 14: the file of two programmes in a buffer of 60 bytes; read again, with a record to spare; the row of the second record; and the
  -- same with the lengths 8 and 2, by which the row of programme 7 ends early
  pub two_written : WriteSays A.arities (7 ∷ 900 ∷ []) (9 ∷ 1 ∷ []) two_rows (unset_bytes 60) (gives (pos 53 ∷ [])) (two_programmes ++ unset_bytes 7)
  pub two_read :
      ReadSays two_programmes (unset_entry ∷ unset_entry ∷ unset_entry ∷ []) (gives (pos 2 ∷ pos 5 ∷ [])) (entry 7 33 9 ∷ entry 900 51 1 ∷ unset_entry ∷ [])
  pub second_row : RowSays two_programmes (entry 900 51 1) (places 9) (gives (pos 1 ∷ [])) (1 ∷ places 8)
  pub two_cut_wrongly : WriteRefuses A.arities (7 ∷ 900 ∷ []) (8 ∷ 2 ∷ []) two_rows (unset_bytes 60) (refused 8 8) 7
  -- 15: a row of seven symbols in bar notation, in 16 places; and read back, into nine
  pub bars_written : BarsWriteSays ranks two_parts (places 16) (gives (pos 14 ∷ [])) (two_parts_barred ++ places 2)
  pub bars_read : BarsReadSays ranks two_parts_barred (places 9) (gives (pos 7 ∷ [])) (two_parts ++ places 2)
  -- 16: a node with a child too many; and bars that end before the root is closed
  pub child_too_many : BarsReadSays ranks a_bar_short (places 9) (refused 71 8) (places 9)
  pub root_unclosed : BarsReadSays ranks last_bar_lost (places 9) (refused 72 17) (places 9)
