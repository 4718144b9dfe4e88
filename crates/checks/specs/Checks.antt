-- What each public call refuses, in order: `then` takes the first of two checks that refuses. The numbers are those of
-- docs/SCOPE.md.
use Rattle.std.specs.Prelude.{ℕ, ◌*◌, List, length, Result, ⊤}
use Rattle.rows.specs.Limits.{row_most, span_places, result_places}
use Rattle.rows.specs.Programme.{Alphabet, Programme, room, front}
use Rattle.rows.specs.Tree.{size}
use Rattle.rows.specs.Row.{reading}
use Rattle.rows.specs.Refusals.{◌then◌, as_kept, alphabet, sizes, symbols, kept, given, pattern, sheet, replacement, position, grown, output}
use Rattle.rows.specs.declared.Leaves.TheVariants.{Symbols}
use Rattle.rows.specs.declared.Refusal.TheVariants.{Row, OnRecord}
use Rattle.edits.specs.Put.{changed}
use Rattle.rows.specs.declared.Refusal.{Refusal}

-- BUILD. Refusals 1 to 9. What stands beside the row needs room for it, and is not read.
unfoldable pub build_check : Alphabet → Programme → Result ⊤ Refusal
build_check a P = alphabet a then sizes Row (length P.row) (room P) then symbols Row a.arities P.row

-- A PATTERN OVER A ROW WITH WHAT STANDS BESIDE IT. Refusals 1 to 10, 62, 11 to 15.
unfoldable pub search_check : Alphabet → Programme → List ℕ → Result ⊤ Refusal
search_check a P q = given a P (length P.row) then pattern a.arities q

-- FIND. Those, then 19 where the n matches have no room in m places.
unfoldable pub find_check : Alphabet → Programme → List ℕ → ℕ → ℕ → Result ⊤ Refusal
find_check a P q n m = search_check a P q then output n m

-- VARIABLES. Those, 17, then 19 where the output of m places has no room for begin and end of each variable.
unfoldable pub variables_check : Alphabet → Programme → List ℕ → ℕ → ℕ → Result ⊤ Refusal
variables_check a P q p m = search_check a P q then position (length P.row) p then output span_places m

-- A SHEET OF PATTERNS qs, of the lengths ls, over a row with what stands beside it. Refusals 1 to 10, 62, 63 and 64, then 19 where the
-- results have no room in k places.
unfoldable pub results_check : Alphabet → Programme → List ℕ → List ℕ → ℕ → Result ⊤ Refusal
results_check a P qs ls k = given a P (length P.row) then sheet ls (length qs) then output (result_places * length ls) k

-- SHEET. Those, then 19 where the n positions of all its patterns together have no room in m places.
unfoldable pub sheet_check : Alphabet → Programme → List ℕ → List ℕ → ℕ → ℕ → ℕ → Result ⊤ Refusal
sheet_check a P qs ls k n m = results_check a P qs ls k then output n m

-- REPLACE, in the row of the first n places of its buffer. Refusals 1 to 10, 62, 24 to 29, 17 and 18.
unfoldable pub replace_check : Alphabet → Programme → ℕ → List ℕ → ℕ → Result ⊤ Refusal
replace_check a P n v p =
    given a P n
    then replacement a.arities v
    then position n p
    then grown (size (changed a.arities (front n P).row p v)) (room P)

-- SUBTREE. Refusals 1 to 10, 62, then 17.
unfoldable pub subtree_check : Alphabet → Programme → ℕ → Result ⊤ Refusal
subtree_check a P p = given a P (length P.row) then position (length P.row) p

-- NEWER OR OLDER. Refusals 1 to 3, 4 to 10 and 62 of the corrected row, 44 to 50 and 102 of the row on record, 11 to 15.
unfoldable pub newer_check : Alphabet → Programme → Programme → List ℕ → Result ⊤ Refusal
newer_check a P O q = given a P (length P.row) then kept OnRecord a O (length O.row) then pattern a.arities q

-- PLAIN MATCHER, with a row and nothing beside it. Refusals 1 to 5, 7 to 9, 11 to 15, and 17.
unfoldable pub plain_check : Alphabet → List ℕ → List ℕ → ℕ → Result ⊤ Refusal
plain_check a w q p =
    alphabet a
    then as_kept Row (reading a.arities Symbols row_most w)
    then pattern a.arities q
    then position (length w) p
