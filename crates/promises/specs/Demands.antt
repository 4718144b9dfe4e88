-- The three demands on Sparrowhem (docs/SCOPE.md), each sentence as a theorem about the public calls, proved in proofs/Demand1, Demand2
-- or Demand3, those on a sheet in proofs/Sheeting, under the same name in small letters. A contract, in crates/sparrowhem/specs, says
-- which answer and which contents of the lent lists afterwards a call may have; that the code ends and meets it on every input is the
-- call's own proof there (`build_spec`, `find_spec` and so on); this file says what the contracts come to.
-- a is the alphabet, P a row with what is kept beside it, q the pattern, p the position, y the output, r the answer; in a replacement
-- n is the row length and v the replacement; in a sheet qs are the patterns, laid end to end, ls their lengths, y the output for the
-- positions and z that for the results; O is the row on record with what is kept beside it. ' marks what a list holds afterwards.
use Rattle.std.specs.Prelude.{ℕ, zero, suc, ◌+◌, ◌-◌, ◌*◌, ◌<◌, ◌≤◌, max, ◌≡◌, ◌↔◌, ◌⊎◌, ltb, eqb, length, get_or, take, drop, ℤ, pos, ◌-ℤ◌, Bool, Result, Ok, ⊤}
use mathlib.Core.List.{List, [], ◌∷◌, Memᴰ, map}
use Rattle.rows.specs.Limits.{freed_symbol, freed_entry, freed_class, span_places, result_places, variables}
use Rattle.rows.specs.Programme.{Alphabet, Programme, room, front, cut}
use Rattle.rows.specs.Tree.{Forest, IsRow, single, size, prefix, ends}
use Rattle.rows.specs.Classes.{FirstEqual, classes_of}
use Rattle.rows.specs.Row.{pick, symbol, allowed}
use Rattle.rows.specs.Buffers.{One}
use Rattle.rows.specs.Sheet.{pattern_at}
use Rattle.rows.specs.Promises.{OneTree, TreeOfRow, Entry, ClassOfRow, SameClass, EqualSubtrees}
use Rattle.rows.specs.Refusals.{◌then◌, alphabet, sizes, symbols, fresh, given, pattern, replacement}
use Rattle.rows.specs.declared.Leaves.TheVariants.{Blanks}
use Rattle.rows.specs.declared.Refusal.TheVariants.{Row}
use Rattle.refusal_numbers.specs.Table.{Refuses, FirstStale, FirstMisclassed, Table}
use Rattle.patterns.specs.Answers.{MatchesAt, Listed, facing, Has, Spanned}
use Rattle.checks.specs.Checks.{build_check, search_check, find_check, variables_check, replace_check, subtree_check, newer_check, plain_check}
use Rattle.sparrowhem.specs.Said.{Said.refused, Said.gives, check_said, found_said, bound_said, sheet_said, replaced_said, placed_said, newest_said, fits_said}
use Rattle.sparrowhem.specs.Build.{Built}
use Rattle.sparrowhem.specs.Search.{Finds, Binds}
use Rattle.sparrowhem.specs.Sheet.{check_of, SheetAnswers}
use Rattle.sparrowhem.specs.Edit.{new_tree, Replacement}
use Rattle.sparrowhem.specs.Parts.{subtree_part, subtree_answer, SubtreeLies, NewestSays, NewerPart, NewerLies}
use Rattle.sparrowhem.specs.Plain.{PlainSays}
use Rattle.sparrowhem.specs.declared.parts.Newest.{Newest}
use Rattle.promises.specs.Runs.{State, Call, Run, edits}
use Rattle.rows.specs.declared.Refusal.{Refusal}

-- ==== DEMAND 1

-- "Every alphabet, row, table, pattern, position and length gets an answer": for every input, whatever its lists and numbers,
-- there is one outcome that the contract admits, and no other. An outcome is the answer and what the lent lists hold afterwards.
abbrev pub BuildOne : Type 0
BuildOne = (a : Alphabet) (P : Programme) → One {X = (Result ⊤ Refusal) × Programme} (λ x. Built a P x.0 x.1)

abbrev pub FindOne : Type 0
FindOne = (a : Alphabet) (P : Programme) (q y : List ℕ) → One {X = (Result ℕ Refusal) × List ℕ} (λ x. Finds a P q y x.0 x.1)

abbrev pub VariablesOne : Type 0
VariablesOne = (a : Alphabet) (P : Programme) (q : List ℕ) (p : ℕ) (y : List ℕ) → One {X = (Result Bool Refusal) × List ℕ} (λ x. Binds a P q p y x.0 x.1)

abbrev pub SheetOne : Type 0
SheetOne = (a : Alphabet) (P : Programme) (qs ls y z : List ℕ)
    → One {X = (Result (ℕ × ℕ) Refusal) × List ℕ × List ℕ} (λ x. SheetAnswers a P qs ls y z x.0 x.1 x.2)

abbrev pub ReplaceOne : Type 0
ReplaceOne = (a : Alphabet) (P : Programme) (n : ℕ) (v : List ℕ) (p : ℕ)
    → One {X = (Result (ℕ × ℤ) Refusal) × Programme} (λ x. Replacement a P n v p x.0 x.1)

-- the part that is handed back, and the companion's answer; and where the part lies, as block of memory and byte
abbrev pub SubtreeOne : Type 0
SubtreeOne = (a : Alphabet) (P : Programme) (p : ℕ)
    → One {X = List ℕ × (Result (ℕ × ℕ) Refusal)} (λ x. (x.0 ≡ subtree_part a P p) × (x.1 ≡ subtree_answer a P p))

abbrev pub SubtreePlaceOne : Type 0
SubtreePlaceOne = (r : Result (ℕ × ℕ) Refusal) (row : ℕ × ℕ) → One {X = ℕ × ℕ} (λ x. SubtreeLies r row x)

abbrev pub NewerOne : Type 0
NewerOne = (a : Alphabet) (P O : Programme) (q : List ℕ) → One {X = List ℕ × Result Newest Refusal} (λ x. NewerPart a P O q x.0 × NewestSays a P O q x.1)

abbrev pub NewerPlaceOne : Type 0
NewerPlaceOne = (a : Alphabet) (P O : Programme) (q : List ℕ) (corrected older : ℕ × ℕ) → One {X = ℕ × ℕ} (λ x. NewerLies a P O q corrected older x)

abbrev pub PlainOne : Type 0
PlainOne = (a : Alphabet) (w q : List ℕ) (p : ℕ) → One {X = Result Bool Refusal} (λ r. PlainSays a w q p r)

-- "A faulty one is refused with a number and a place, the first in the order": `Table` says exactly when each check refuses, with which
-- number and place, and that of two checks the first that refuses counts. Each call refuses exactly as its chain of checks does, which
-- stands in crates/checks/specs/Checks.
abbrev pub BuildOrder : Type 0
BuildOrder = (a : Alphabet) (P : Programme) (r : Result ⊤ Refusal) (P' : Programme) → Built a P r P'
    → (k x : ℕ) → (check_said r ≡ refused k x) ↔ Refuses (build_check a P) k x

-- 19 is for the list of all matches
abbrev pub FindOrder : Type 0
FindOrder = (a : Alphabet) (P : Programme) (q y : List ℕ) (r : Result ℕ Refusal) (y' : List ℕ) (f : Finds a P q y r y')
    → (k x : ℕ) → (found_said r ≡ refused k x) ↔ Refuses (find_check a P q (length f.positions) (length y)) k x

abbrev pub VariablesOrder : Type 0
VariablesOrder = (a : Alphabet) (P : Programme) (q : List ℕ) (p : ℕ) (y : List ℕ) (r : Result Bool Refusal) (y' : List ℕ) → Binds a P q p y r y'
    → (k x : ℕ) → (bound_said r ≡ refused k x) ↔ Refuses (variables_check a P q p (length y)) k x

-- 19 is for the results, then for the positions of all patterns together
abbrev pub SheetOrder : Type 0
SheetOrder = (a : Alphabet) (P : Programme) (qs ls y z : List ℕ) (r : Result (ℕ × ℕ) Refusal) (y' z' : List ℕ) (s : SheetAnswers a P qs ls y z r y' z')
    → (k x : ℕ) → (sheet_said r ≡ refused k x) ↔ Refuses (check_of a P qs ls y z s.positions) k x

abbrev pub ReplaceOrder : Type 0
ReplaceOrder = (a : Alphabet) (P : Programme) (n : ℕ) (v : List ℕ) (p : ℕ) (r : Result (ℕ × ℤ) Refusal) (P' : Programme) → Replacement a P n v p r P'
    → (k x : ℕ) → (replaced_said r ≡ refused k x) ↔ Refuses (replace_check a P n v p) k x

abbrev pub SubtreeOrder : Type 0
SubtreeOrder = (a : Alphabet) (P : Programme) (p : ℕ)
    → (k x : ℕ) → (placed_said (subtree_answer a P p) ≡ refused k x) ↔ Refuses (subtree_check a P p) k x

abbrev pub NewerOrder : Type 0
NewerOrder = (a : Alphabet) (P O : Programme) (q : List ℕ) (r : Result Newest Refusal) → NewestSays a P O q r
    → (k x : ℕ) → (newest_said r ≡ refused k x) ↔ Refuses (newer_check a P O q) k x

abbrev pub PlainOrder : Type 0
PlainOrder = (a : Alphabet) (w q : List ℕ) (p : ℕ) (r : Result Bool Refusal) → PlainSays a w q p r
    → (k x : ℕ) → (fits_said r ≡ refused k x) ↔ Refuses (plain_check a w q p) k x

-- find refuses with 19 exactly if it refuses nothing earlier and there are more matches than places; the place is their number
abbrev pub FindShort : Type 0
FindShort = (a : Alphabet) (P : Programme) (q y : List ℕ) (r : Result ℕ Refusal) (y' : List ℕ) → Finds a P q y r y'
    → search_check a P q ≡ Ok tt → (ps : List ℕ) → Listed a P.row q (length P.row) ps
    → (found_said r ≡ refused 19 (length ps)) ↔ (length y < length ps)

-- "A refusal writes nothing into any lent buffer." The other calls are lent no buffer to write into.
abbrev pub BuildRefused : Type 0
BuildRefused = (a : Alphabet) (P : Programme) (r : Result ⊤ Refusal) (P' : Programme) → Built a P r P' → (k x : ℕ) → check_said r ≡ refused k x → P' ≡ P

abbrev pub FindRefused : Type 0
FindRefused = (a : Alphabet) (P : Programme) (q y : List ℕ) (r : Result ℕ Refusal) (y' : List ℕ) → Finds a P q y r y'
    → (k x : ℕ) → found_said r ≡ refused k x → y' ≡ y

abbrev pub VariablesRefused : Type 0
VariablesRefused = (a : Alphabet) (P : Programme) (q : List ℕ) (p : ℕ) (y : List ℕ) (r : Result Bool Refusal) (y' : List ℕ) → Binds a P q p y r y'
    → (k x : ℕ) → bound_said r ≡ refused k x → y' ≡ y

-- neither the positions nor the results
abbrev pub SheetRefused : Type 0
SheetRefused = (a : Alphabet) (P : Programme) (qs ls y z : List ℕ) (r : Result (ℕ × ℕ) Refusal) (y' z' : List ℕ) → SheetAnswers a P qs ls y z r y' z'
    → (k x : ℕ) → sheet_said r ≡ refused k x → (y' ≡ y) × (z' ≡ z)

abbrev pub ReplaceRefused : Type 0
ReplaceRefused = (a : Alphabet) (P : Programme) (n : ℕ) (v : List ℕ) (p : ℕ) (r : Result (ℕ × ℤ) Refusal) (P' : Programme) → Replacement a P n v p r P'
    → (k x : ℕ) → replaced_said r ≡ refused k x → P' ≡ P

-- "A call that reads a table refuses it as stale if an entry differs from the row's", and likewise with the classes. Nothing from 1 to 9
-- is wrong with a row of n symbols, and p is the first position where its table differs.
pub record StaleAt (a : Alphabet) (P : Programme) (n p : ℕ) : Type 0 where
  pub earlier : alphabet a then sizes Row n (room P) then symbols Row a.arities (front n P).row ≡ Ok tt
  pub first : FirstStale a.arities (front n P).row P.table p

-- nothing from 1 to 10 is wrong, and p is the first position where its classes differ
pub record MisclassedAt (a : Alphabet) (P : Programme) (n p : ℕ) : Type 0 where
  pub earlier :
      alphabet a then sizes Row n (room P) then symbols Row a.arities (front n P).row then fresh Row a.arities (front n P).row P.table ≡ Ok tt
  pub first : FirstMisclassed a.arities (front n P).row P.classes p

-- the one, which is 10, or the other, which is 62
abbrev pub WrongBeside : Alphabet → Programme → ℕ → ℕ → ℕ → Type 0
WrongBeside a P n k p = ((k ≡ 10) × StaleAt a P n p) ⊎ ((k ≡ 62) × MisclassedAt a P n p)

abbrev pub FindStale : Type 0
FindStale = (a : Alphabet) (P : Programme) (q y : List ℕ) (r : Result ℕ Refusal) (y' : List ℕ) (k p : ℕ) → Finds a P q y r y'
    → WrongBeside a P (length P.row) k p → found_said r ≡ refused k p

abbrev pub VariablesStale : Type 0
VariablesStale = (a : Alphabet) (P : Programme) (q : List ℕ) (x : ℕ) (y : List ℕ) (r : Result Bool Refusal) (y' : List ℕ) (k p : ℕ) → Binds a P q x y r y'
    → WrongBeside a P (length P.row) k p → bound_said r ≡ refused k p

abbrev pub SheetStale : Type 0
SheetStale = (a : Alphabet) (P : Programme) (qs ls y z : List ℕ) (r : Result (ℕ × ℕ) Refusal) (y' z' : List ℕ) (k p : ℕ) → SheetAnswers a P qs ls y z r y' z'
    → WrongBeside a P (length P.row) k p → sheet_said r ≡ refused k p

abbrev pub ReplaceStale : Type 0
ReplaceStale = (a : Alphabet) (P : Programme) (n : ℕ) (v : List ℕ) (x : ℕ) (r : Result (ℕ × ℤ) Refusal) (P' : Programme) (k p : ℕ) → Replacement a P n v x r P'
    → WrongBeside a P n k p → replaced_said r ≡ refused k p

abbrev pub SubtreeStale : Type 0
SubtreeStale = (a : Alphabet) (P : Programme) (x k p : ℕ) → WrongBeside a P (length P.row) k p → placed_said (subtree_answer a P x) ≡ refused k p

-- what is kept beside the corrected row, or where that is fine, beside the row on record: 50 and 102
abbrev pub NewerStale : Type 0
NewerStale = (a : Alphabet) (P O : Programme) (q : List ℕ) (r : Result Newest Refusal) (k p : ℕ) → NewestSays a P O q r
    → (WrongBeside a P (length P.row) k p → newest_said r ≡ refused k p)
    × (given a P (length P.row) ≡ Ok tt → WrongBeside a O (length O.row) k p → newest_said r ≡ refused (40 + k) p)

-- "A refused corrected row never falls through to the older one"
abbrev pub NewerRefused : Type 0
NewerRefused = (a : Alphabet) (P O : Programme) (q : List ℕ) (r : Result Newest Refusal) (k x : ℕ) → NewestSays a P O q r
    → Refuses (given a P (length P.row)) k x → newest_said r ≡ refused k x

-- ==== DEMAND 2

-- "Within the sizes a row is accepted exactly if it is the prefix notation of a ranked tree": the check 7 to 9 of every call says so,
-- and so do those of a pattern, where S and the variables may be leaves, and of a replacement. Build accepts what they accept.
abbrev pub RowsAccepted : Type 0
RowsAccepted = (A w : List ℕ) → (symbols Row A w ≡ Ok tt) ↔ IsRow A (symbol A) w

abbrev pub PatternsAccepted : Type 0
PatternsAccepted = (A q : List ℕ) → 1 ≤ length q → length q ≤ 256 → (pattern A q ≡ Ok tt) ↔ IsRow A (allowed Blanks A) q

abbrev pub ReplacementsAccepted : Type 0
ReplacementsAccepted = (A v : List ℕ) → 1 ≤ length v → length v ≤ 16384 → (replacement A v ≡ Ok tt) ↔ IsRow A (symbol A) v

abbrev pub BuildAccepts : Type 0
BuildAccepts = (a : Alphabet) (P : Programme) (r : Result ⊤ Refusal) (P' : Programme) → Built a P r P'
    → alphabet a ≡ Ok tt → sizes Row (length P.row) (room P) ≡ Ok tt → (check_said r ≡ gives []) ↔ IsRow a.arities (symbol a.arities) P.row

-- What build leaves, told by the row's tree: the table begins with the ends of its subtrees, and entry p is the only end that makes
-- the symbols from p on a row, that of the subtree at p; the classes begin with those of its subtrees, and class p is the first position
-- whose subtree is equal to the one at p; later places and the row stay.
pub record LeftBeside (a : Alphabet) (P P' : Programme) (x : IsRow a.arities (symbol a.arities) P.row) : Type 0 where
  pub table_is : take (length P.row) P'.table ≡ ends 0 (single x.tree)
  pub entry_is : (p : ℕ) → p < length P.row → Entry a.arities (symbol a.arities) P.row x.tree p (get_or P'.table p 0)
  pub classes_are : take (length P.row) P'.classes ≡ classes_of (single x.tree)
  pub class_is : (p : ℕ) → p < length P.row → FirstEqual (single x.tree) p (get_or P'.classes p 0)
  pub later : drop (length P.row) P'.table ≡ drop (length P.row) P.table
  pub classes_later : drop (length P.row) P'.classes ≡ drop (length P.row) P.classes
  pub row_stays : P'.row ≡ P.row

abbrev pub BuildWrites : Type 0
BuildWrites = (a : Alphabet) (P : Programme) (r : Result ⊤ Refusal) (P' : Programme) → Built a P r P' → check_said r ≡ gives []
    → (x : IsRow a.arities (symbol a.arities) P.row) → LeftBeside a P P' x

-- "An answered search lists a position exactly if some choice of trees for the blanks, the same tree wherever the same variable
-- stands, turns the pattern into the subtree there; the list rises, each position once" (`MatchesAt` and `Listed`; that they speak of
-- the row's own tree is `TreeOfRow`, and that it is the only one `OneTree`). The list is the first n places of the output, for the
-- answer n; later places stay.
abbrev pub FindLists : Type 0
FindLists = (a : Alphabet) (P : Programme) (q y : List ℕ) (n : ℕ) (r : Result ℕ Refusal) (y' : List ℕ) → Finds a P q y r y' → found_said r ≡ gives (pos n ∷ [])
    → Listed a P.row q (length P.row) (take n y') × (length (take n y') ≡ n) × (drop n y' ≡ drop n y)

-- A sheet answers each of its patterns as find would alone. The results z hold three numbers for each pattern, in the order of the
-- patterns: of pattern i the refusal or 0, its place or 0, and the count of its positions.
abbrev pub refusal_at : List ℕ → ℕ → ℕ
refusal_at z i = get_or z (result_places * i) 0

abbrev pub place_at : List ℕ → ℕ → ℕ
place_at z i = get_or z (result_places * i + 1) 0

abbrev pub count_at : List ℕ → ℕ → ℕ
count_at z i = get_or z (result_places * i + 2) 0

-- where the positions of pattern i begin: behind those of the patterns before it
unfoldable pub positions_begin : List ℕ → ℕ → ℕ
positions_begin z zero = 0
positions_begin z (suc i) = positions_begin z i + count_at z i

-- what the sheet leaves for pattern i is what find says of it, f, and leaves in its output, x': its count, with no refusal; or its
-- refusal and place, with no position. The stretch of its positions is find's list.
pub record AsAlone (f : Result ℕ Refusal) (x' y' z' : List ℕ) (i : ℕ) : Type 0 where
  pub said :
      ((found_said f ≡ gives (pos (count_at z' i) ∷ [])) × (refusal_at z' i ≡ 0) × (place_at z' i ≡ 0))
      ⊎ ((found_said f ≡ refused (refusal_at z' i) (place_at z' i)) × (count_at z' i ≡ 0))
  pub stretch : take (count_at z' i) (drop (positions_begin z' i) y') ≡ take (count_at z' i) x'

-- for any outcome of find with the same lists and an output x that has room (it does not refuse with 19)
abbrev pub SheetAlone : Type 0
SheetAlone = (a : Alphabet) (P : Programme) (qs ls y z : List ℕ) (r : Result (ℕ × ℕ) Refusal) (y' z' : List ℕ) → SheetAnswers a P qs ls y z r y' z'
    → (n m : ℕ) → sheet_said r ≡ gives (pos n ∷ pos m ∷ []) → (i : ℕ) → i < n
    → (x : List ℕ) (f : Result ℕ Refusal) (x' : List ℕ) → Finds a P (pattern_at qs ls i) x f x' → ((k : ℕ) → found_said f ≡ refused 19 k → ⊥)
    → AsAlone f x' y' z' i

-- The answer n, m of a sheet: n is the number of its patterns, and m that of all positions, so that their stretches fill the first m
-- places with no gap; later places of both outputs stay.
pub record Settled (ls y z : List ℕ) (n m : ℕ) (y' z' : List ℕ) : Type 0 where
  pub patterns : n ≡ length ls
  pub positions : m ≡ positions_begin z' n
  pub later : drop m y' ≡ drop m y
  pub results_later : drop (result_places * n) z' ≡ drop (result_places * n) z

abbrev pub SheetSettled : Type 0
SheetSettled = (a : Alphabet) (P : Programme) (qs ls y z : List ℕ) (r : Result (ℕ × ℕ) Refusal) (y' z' : List ℕ) → SheetAnswers a P qs ls y z r y' z'
    → (n m : ℕ) → sheet_said r ≡ gives (pos n ∷ pos m ∷ []) → Settled ls y z n m y' z'

-- "the choice for each variable is returned, and no other would do". The variables call that does not refuse says whether the pattern
-- matches. If it does, it leaves begin and end of each variable in the output (`Spanned` says what they are), those of the subtree
-- that the variable's first place faces; 0 and 0 for one that the pattern lacks; later places stay. If not, it writes nothing.
pub record BoundExactly (a : Alphabet) (w q : List ℕ) (p : ℕ) (y : List ℕ) (r : Result Bool Refusal) (y' : List ℕ) : Type 0 where
  pub below : p < length w
  pub matched : (bound_said r ≡ gives (pos 1 ∷ [])) ↔ MatchesAt a w q p
  pub unmatched : (bound_said r ≡ gives (pos 0 ∷ [])) ↔ (MatchesAt a w q p → ⊥)
  pub present : MatchesAt a w q p → (i k : ℕ) → Has q i k → Spanned a w q p i (get_or y' (i + i) 0) (get_or y' (i + i + 1) 0)
  pub first : MatchesAt a w q p → (i k : ℕ) → Has q i k → ((j : ℕ) → j < k → Has q i j → ⊥) → get_or y' (i + i) 0 ≡ get_or (facing a.arities w q p) k 0
  pub absent : MatchesAt a w q p → (i : ℕ) → i < variables → ((k : ℕ) → Has q i k → ⊥) → (get_or y' (i + i) 0 ≡ 0) × (get_or y' (i + i + 1) 0 ≡ 0)
  pub later : drop span_places y' ≡ drop span_places y
  pub unwritten : (MatchesAt a w q p → ⊥) → y' ≡ y

abbrev pub VariablesExactly : Type 0
VariablesExactly = (a : Alphabet) (P : Programme) (q : List ℕ) (p : ℕ) (y : List ℕ) (r : Result Bool Refusal) (y' : List ℕ) → Binds a P q p y r y'
    → variables_check a P q p (length y) ≡ Ok tt → BoundExactly a P.row q p y r y'

-- the plain matcher says the same, without a table
abbrev pub PlainExactly : Type 0
PlainExactly = (a : Alphabet) (w q : List ℕ) (p : ℕ) (r : Result Bool Refusal) → PlainSays a w q p r → plain_check a w q p ≡ Ok tt
    → ((fits_said r ≡ gives (pos 1 ∷ [])) ↔ MatchesAt a w q p) × ((fits_said r ≡ gives (pos 0 ∷ [])) ↔ (MatchesAt a w q p → ⊥))

-- "Plain matcher and find agree": the same alphabet, row and pattern for both, and for find lists that build leaves of such as are
-- long enough: the built ones, or for a refused row any that are long enough.
pub record Both (a : Alphabet) (P : Programme) (q y : List ℕ) (f : Result ℕ Refusal) (y' : List ℕ) (p : ℕ) (r : Result Bool Refusal) : Type 0 where
  pub old : Programme
  pub build : Result ⊤ Refusal
  pub long : length old.row ≤ room old
  pub built : Built a old build P
  pub finds : Finds a P q y f y'
  pub says : PlainSays a P.row q p r

-- the plain matcher says yes exactly where find, given room enough (it does not refuse with 19), lists the position
abbrev pub PlainFinds : Type 0
PlainFinds = (a : Alphabet) (P : Programme) (q y : List ℕ) (f : Result ℕ Refusal) (y' : List ℕ) (p : ℕ) (r : Result Bool Refusal) → Both a P q y f y' p r
    → ((n : ℕ) → found_said f ≡ refused 19 n → ⊥)
    → (fits_said r ≡ gives (pos 1 ∷ [])) ↔ ((n : ℕ) × (found_said f ≡ gives (pos n ∷ [])) × Memᴰ p (take n y'))

-- a refusal up to 15 is the same from both, number and place (6 and 10 come from neither, since the lists are long enough and the row's)
abbrev pub PlainRefuses : Type 0
PlainRefuses = (a : Alphabet) (P : Programme) (q y : List ℕ) (f : Result ℕ Refusal) (y' : List ℕ) (p : ℕ) (r : Result Bool Refusal) → Both a P q y f y' p r
    → (k x : ℕ) → k ≤ 15 → (fits_said r ≡ refused k x) ↔ (found_said f ≡ refused k x)

-- "the subtree is handed back as a part of the lent row": it lies in the row between the begin and the end that the companion answers,
-- begins at the position, and is empty exactly for a refusal
abbrev pub SubtreePartIs : Type 0
SubtreePartIs = (a : Alphabet) (P : Programme) (p b e : ℕ) → placed_said (subtree_answer a P p) ≡ gives (pos b ∷ pos e ∷ [])
    → (b ≡ p) × (b < e) × (e ≤ length P.row) × (subtree_part a P p ≡ take (e - b) (drop b P.row))

abbrev pub SubtreeEmpty : Type 0
SubtreeEmpty = (a : Alphabet) (P : Programme) (p : ℕ)
    → (subtree_part a P p ≡ []) ↔ ((k : ℕ) × (x : ℕ) × (placed_said (subtree_answer a P p) ≡ refused k x))

-- newer or older: the part lies in the row that the companion names, between its position and end; it is empty exactly if the companion
-- names none or refuses
abbrev pub NewerPartIs : Type 0
NewerPartIs = (a : Alphabet) (P O : Programme) (q x : List ℕ) (r : Result Newest Refusal) (p e : ℕ) → NewerPart a P O q x → NewestSays a P O q r
    → (newest_said r ≡ gives (pos 1 ∷ pos p ∷ pos e ∷ []) → (p < e) × (e ≤ length P.row) × (x ≡ take (e - p) (drop p P.row)))
    × (newest_said r ≡ gives (pos 2 ∷ pos p ∷ pos e ∷ []) → (p < e) × (e ≤ length O.row) × (x ≡ take (e - p) (drop p O.row)))

abbrev pub NewerEmpty : Type 0
NewerEmpty = (a : Alphabet) (P O : Programme) (q x : List ℕ) (r : Result Newest Refusal) → NewerPart a P O q x → NewestSays a P O q r
    → (x ≡ []) ↔ ((newest_said r ≡ gives (pos 0 ∷ [])) ⊎ ((k : ℕ) × (y : ℕ) × (newest_said r ≡ refused k y)))

-- ==== DEMAND 3

-- A replacement that answers the length m and a change leaves the row, the table and the classes of the tree with the subtree at p
-- replaced, whose size m is; the change is that length less the old one; freed places are marked, later places stay.
pub record Written (a : Alphabet) (P : Programme) (n : ℕ) (v : List ℕ) (p m : ℕ) (change : ℤ) (P' : Programme) : Type 0 where
  pub length_is : m ≡ size (new_tree a P n v p)
  pub row_is : take m P'.row ≡ prefix (new_tree a P n v p)
  pub table_is : take m P'.table ≡ ends 0 (new_tree a P n v p)
  pub classes_are : take m P'.classes ≡ classes_of (new_tree a P n v p)
  pub change_is : change ≡ pos m -ℤ pos n
  pub freed : (k : ℕ) → m ≤ k → k < n → (get_or P'.row k 0 ≡ freed_symbol) × (get_or P'.table k 0 ≡ freed_entry) × (get_or P'.classes k 0 ≡ freed_class)
  pub later :
      (drop (max n m) P'.row ≡ drop (max n m) P.row)
      × (drop (max n m) P'.table ≡ drop (max n m) P.table)
      × (drop (max n m) P'.classes ≡ drop (max n m) P.classes)

abbrev pub ReplaceWrites : Type 0
ReplaceWrites = (a : Alphabet) (P : Programme) (n : ℕ) (v : List ℕ) (p m : ℕ) (change : ℤ) (r : Result (ℕ × ℤ) Refusal) (P' : Programme) → Replacement a P n v p r P'
    → replaced_said r ≡ gives (pos m ∷ change ∷ []) → Written a P n v p m change P'

-- "The row is what the same replacements in the tree give, table and classes what a fresh build gives": a caller holds the row of the tree f,
-- of its size, and no call refuses it; and any build of that row, into lists with room for it, is accepted and gives the same.
pub record Follows (a : Alphabet) (s : State) (f : Forest) : Type 0 where
  pub length_is : s.length ≡ size f
  pub row_is : take s.length s.lists.row ≡ prefix f
  pub accepted : given a s.lists s.length ≡ Ok tt
  pub built_is : (T : Programme) (r : Result ⊤ Refusal) (T' : Programme) → T.row ≡ take s.length s.lists.row → s.length ≤ room T → Built a T r T'
      → (check_said r ≡ gives []) × (cut s.length s.lists ≡ cut s.length T')

-- "From an accepted row with its built table and classes, after any replacements under one alphabet, some refused": the tree is that of the
-- first row with the replacements that were not refused made in it, one after the other.
abbrev pub AfterRun : Type 0
AfterRun = (a : Alphabet) (T : Programme) (r : Result ⊤ Refusal) (P : Programme) (n : ℕ) → Built a T r (front n P) → check_said r ≡ gives [] → length T.row ≡ n
    → (x : IsRow a.arities (symbol a.arities) T.row) (calls : List Call) (s : State) → Run a (record { lists = P; length = n }) calls s
    → Follows a s (edits a.arities (single x.tree) calls)

-- A replacement at p, and a subtree at q that neither holds the replaced place nor lies in it: the subtree at k ends at entry k of
-- the table before. Afterwards it stands at q': at q if it stood to the left, else moved by the change in length, from n to m.
pub record Beside (a : Alphabet) (P : Programme) (n p m : ℕ) (P' : Programme) (q q' : ℕ) : Type 0 where
  pub new : List ℕ
  pub change : ℤ
  pub answer : Result (ℕ × ℤ) Refusal
  pub answered : replaced_said answer ≡ gives (pos m ∷ change ∷ [])
  pub replaced : Replacement a P n new p answer P'
  pub below : q < n
  pub holds_not : q ≤ p → p < get_or P.table q 0 → ⊥
  pub lies_not : p ≤ q → q < get_or P.table p 0 → ⊥
  pub left : q < p → q' ≡ q
  pub right : p < q → q' + n ≡ q + m

-- "For every pattern a subtree that neither holds the replaced place nor lies in it keeps its answer and variables, moved by the
-- change in length if it stands to the right": the variables call with room for them says the same, also where it refuses the pattern;
-- if it is matched, each begin and end is the same or moved likewise, and the 0, 0 of an absent variable stays.
abbrev pub moved_span : ℕ → ℕ → ℕ → ℕ
moved_span n m x = pick (eqb x 0) 0 (x + m - n)

abbrev pub VariablesStay : Type 0
VariablesStay = (a : Alphabet) (P : Programme) (n p m : ℕ) (P' : Programme) (q q' : ℕ) → Beside a P n p m P' q q'
    → (Q y : List ℕ) (r : Result Bool Refusal) (y' z : List ℕ) (s : Result Bool Refusal) (z' : List ℕ) → span_places ≤ length y → span_places ≤ length z
    → Binds a (front n P) Q q y r y' → Binds a (front m P') Q q' z s z'
    → (bound_said s ≡ bound_said r)
    × (bound_said r ≡ gives (pos 1 ∷ []) → take span_places z' ≡ map (λ x. pick (ltb q p) x (moved_span n m x)) (take span_places y'))

-- and find lists it afterwards exactly if it did before
abbrev pub FindStays : Type 0
FindStays = (a : Alphabet) (P : Programme) (n p m : ℕ) (P' : Programme) (q q' : ℕ) → Beside a P n p m P' q q'
    → (Q y : List ℕ) (b : ℕ) (r : Result ℕ Refusal) (y' z : List ℕ) (c : ℕ) (s : Result ℕ Refusal) (z' : List ℕ)
    → Finds a (front n P) Q y r y' → found_said r ≡ gives (pos b ∷ []) → Finds a (front m P') Q z s z' → found_said s ≡ gives (pos c ∷ [])
    → Memᴰ q' (take c z') ↔ Memᴰ q (take b y')

-- and the plain matcher says the same of it, also where it refuses the pattern
abbrev pub PlainStays : Type 0
PlainStays = (a : Alphabet) (P : Programme) (n p m : ℕ) (P' : Programme) (q q' : ℕ) → Beside a P n p m P' q q'
    → (Q : List ℕ) (r s : Result Bool Refusal) → PlainSays a (front n P).row Q q r → PlainSays a (front m P').row Q q' s → fits_said s ≡ fits_said r

-- "Putting the old subtree straight back is never refused and restores row, table and classes": into the same lists, with the length last
-- answered and under the same alphabet, the symbols from p up to the old end.
abbrev pub PuttingBack : Type 0
PuttingBack = (a : Alphabet) (P : Programme) (n : ℕ) (v : List ℕ) (p m : ℕ) (change : ℤ) (r : Result (ℕ × ℤ) Refusal) (P₁ : Programme) (s : Result (ℕ × ℤ) Refusal) (P₂ : Programme)
    → Replacement a P n v p r P₁ → replaced_said r ≡ gives (pos m ∷ change ∷ [])
    → Replacement a P₁ m (take (get_or P.table p 0 - p) (drop p P.row)) p s P₂
    → (replaced_said s ≡ gives (pos n ∷ (pos n -ℤ pos m) ∷ [])) × (cut n P₂ ≡ cut n P)

-- Two replacements in disjoint subtrees, by u at p and by v at q further right, can be made in either order, where none of the four
-- calls is refused: the length is the same, and over it the lists are. Where the one at p is made first, q has moved to q' by the
-- change in length.
abbrev pub EitherOrder : Type 0
EitherOrder = (a : Alphabet) (P : Programme) (n : ℕ) (u : List ℕ) (p : ℕ) (v : List ℕ) (q q' : ℕ) (m₁ m₁₂ m₂ m₂₁ : ℕ) (c₁ c₁₂ c₂ c₂₁ : ℤ)
    (r₁ r₁₂ r₂ r₂₁ : Result (ℕ × ℤ) Refusal) (P₁ P₁₂ P₂ P₂₁ : Programme) → get_or P.table p 0 ≤ q → q' + n ≡ q + m₁
    → Replacement a P n u p r₁ P₁ → replaced_said r₁ ≡ gives (pos m₁ ∷ c₁ ∷ [])
    → Replacement a P₁ m₁ v q' r₁₂ P₁₂ → replaced_said r₁₂ ≡ gives (pos m₁₂ ∷ c₁₂ ∷ [])
    → Replacement a P n v q r₂ P₂ → replaced_said r₂ ≡ gives (pos m₂ ∷ c₂ ∷ [])
    → Replacement a P₂ m₂ u p r₂₁ P₂₁ → replaced_said r₂₁ ≡ gives (pos m₂₁ ∷ c₂₁ ∷ [])
    → (m₁₂ ≡ m₂₁) × (cut m₁₂ P₁₂ ≡ cut m₂₁ P₂₁)

-- ==== ALL OF THEM

pub record Demands : Type 0 where
  pub build_one : BuildOne
  pub find_one : FindOne
  pub variables_one : VariablesOne
  pub sheet_one : SheetOne
  pub replace_one : ReplaceOne
  pub subtree_one : SubtreeOne
  pub subtree_place_one : SubtreePlaceOne
  pub newer_one : NewerOne
  pub newer_place_one : NewerPlaceOne
  pub plain_one : PlainOne
  pub table : Table
  pub build_order : BuildOrder
  pub find_order : FindOrder
  pub variables_order : VariablesOrder
  pub sheet_order : SheetOrder
  pub replace_order : ReplaceOrder
  pub subtree_order : SubtreeOrder
  pub newer_order : NewerOrder
  pub plain_order : PlainOrder
  pub find_short : FindShort
  pub build_refused : BuildRefused
  pub find_refused : FindRefused
  pub variables_refused : VariablesRefused
  pub sheet_refused : SheetRefused
  pub replace_refused : ReplaceRefused
  pub find_stale : FindStale
  pub variables_stale : VariablesStale
  pub sheet_stale : SheetStale
  pub replace_stale : ReplaceStale
  pub subtree_stale : SubtreeStale
  pub newer_stale : NewerStale
  pub newer_refused : NewerRefused
  pub rows_accepted : RowsAccepted
  pub patterns_accepted : PatternsAccepted
  pub replacements_accepted : ReplacementsAccepted
  pub one_tree : OneTree
  pub tree_of_row : TreeOfRow
  pub class_of_row : ClassOfRow
  pub same_class : SameClass
  pub equal_subtrees : EqualSubtrees
  pub build_accepts : BuildAccepts
  pub build_writes : BuildWrites
  pub find_lists : FindLists
  pub sheet_alone : SheetAlone
  pub sheet_settled : SheetSettled
  pub variables_exactly : VariablesExactly
  pub plain_exactly : PlainExactly
  pub plain_finds : PlainFinds
  pub plain_refuses : PlainRefuses
  pub subtree_part_is : SubtreePartIs
  pub subtree_empty : SubtreeEmpty
  pub newer_part_is : NewerPartIs
  pub newer_empty : NewerEmpty
  pub replace_writes : ReplaceWrites
  pub after_run : AfterRun
  pub variables_stay : VariablesStay
  pub find_stays : FindStays
  pub plain_stays : PlainStays
  pub putting_back : PuttingBack
  pub either_order : EitherOrder
