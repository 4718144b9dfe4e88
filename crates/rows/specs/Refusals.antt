-- Refusals: when each is given; and `then`, by which an order of them is written.
use Rattle.std.specs.Prelude.{ℕ, ◌+◌, min, List, [], ◌∷◌, Bool, ltb, leb, eqb, length, Result, Ok, Err, ⊤}
use Rattle.rows.specs.Limits.{alphabet_most, arity_most, row_most, pattern_most, sheet_most}
use Rattle.rows.specs.Row.{pick, verdict, allowed, sized, reading}
use Rattle.rows.specs.Parse.{table}
use Rattle.rows.specs.Classes.{classes}
use Rattle.rows.specs.Programme.{Alphabet, Programme, room, front}
use Rattle.rows.specs.Sheet.{begin_of}
use Rattle.rows.specs.declared.Leaves.TheVariants.{Symbols, Blanks}
use Rattle.rows.specs.declared.Arities.TheVariants.{Count, Over, NoLeaf}
use Rattle.rows.specs.declared.Kept.{Kept}
use Rattle.rows.specs.declared.Kept.TheVariants.{Misread, Short, Stale, Misclassed}
use Rattle.rows.specs.declared.Refusal.{Refusal}
use Rattle.rows.specs.declared.Refusal.TheVariants.{Arities, Row, Pattern, Replacement, Position, TooLong, OutputShort, SheetSize, SheetSum}
use Rattle.rows.specs.declared.Fault.{Fault}

infixr 20 ◌then◌
-- the first of two checks that refuses: the order of the refusals is the order of the checks in such a chain
abbrev pub ◌then◌ : Result ⊤ Refusal → Result ⊤ Refusal → Result ⊤ Refusal
Ok _ then c = c
Err r then c = Err r

-- refuses if the test holds
abbrev pub refuse_if : Bool → Refusal → Result ⊤ Refusal
refuse_if b r = pick b (Err r) (Ok tt)

-- 1 to 1,024 symbols
unfoldable pub alphabet_size : ℕ → Result ⊤ Refusal
alphabet_size n = refuse_if (ltb n 1) (Arities (Count n)) then refuse_if (ltb alphabet_most n) (Arities (Count n))

-- each arity, from symbol `at` on, is at most 15
unfoldable pub arities_fit : ℕ → List ℕ → Result ⊤ Refusal
arities_fit at [] = Ok tt
arities_fit at (a ∷ l) = pick (ltb arity_most a) (Err (Arities (Over at))) (arities_fit (at + 1) l)

-- some arity is 0
unfoldable pub some_leaf : List ℕ → Result ⊤ Refusal
some_leaf [] = Err (Arities NoLeaf)
some_leaf (a ∷ l) = pick (eqb a 0) (Ok tt) (some_leaf l)

-- 1, 2, 3: the alphabet
unfoldable pub alphabet : Alphabet → Result ⊤ Refusal
alphabet a = alphabet_size (length a.arities) then arities_fit 0 a.arities then some_leaf a.arities

-- What is wrong with a kept row is refused as a row's fault or as one of the row on record: `whose` is the one or the other. So
-- each check of a kept row stands here once.
abbrev pub as_kept : (Kept → Refusal) → Result ⊤ Fault → Result ⊤ Refusal
as_kept whose (Ok _) = Ok tt
as_kept whose (Err f) = Err (whose (Misread f))

abbrev pub keeps : (Kept → Refusal) → Result ⊤ Kept → Result ⊤ Refusal
keeps whose (Ok _) = Ok tt
keeps whose (Err k) = Err (whose k)

-- a verdict on a pattern, on a replacement, as a check
abbrev pub as_pattern : Result ⊤ Fault → Result ⊤ Refusal
as_pattern (Ok _) = Ok tt
as_pattern (Err f) = Err (Pattern f)

abbrev pub as_replacement : Result ⊤ Fault → Result ⊤ Refusal
as_replacement (Ok _) = Ok tt
as_replacement (Err f) = Err (Replacement f)

-- 4, 5, 6: a row of n symbols, in and beside lists of which the shortest has m places
unfoldable pub sizes : (Kept → Refusal) → ℕ → ℕ → Result ⊤ Refusal
sizes whose n m = as_kept whose (sized n row_most) then refuse_if (ltb m n) (whose (Short n))

-- 7, 8, 9: the row is one tree's
unfoldable pub symbols : (Kept → Refusal) → List ℕ → List ℕ → Result ⊤ Refusal
symbols whose A w = as_kept whose (verdict A (allowed Symbols A) 1 0 w)

-- the first place, from `at` on, where the second list differs from the first, and what is refused for it
unfoldable pub differs : (ℕ → Refusal) → ℕ → List ℕ → List ℕ → Result ⊤ Refusal
differs wrong at [] t = Ok tt
differs wrong at (e ∷ es) [] = Err (wrong at)
differs wrong at (e ∷ es) (x ∷ t) = pick (eqb x e) (differs wrong (at + 1) es t) (Err (wrong at))

-- 10: the table is the row's; entries past the row's length are not looked at
unfoldable pub fresh : (Kept → Refusal) → List ℕ → List ℕ → List ℕ → Result ⊤ Refusal
fresh whose A w t = differs (λ k. whose (Stale k)) 0 (table A w) t

-- 62: the classes are the row's; those past the row's length are not looked at
unfoldable pub classed : (Kept → Refusal) → List ℕ → List ℕ → List ℕ → Result ⊤ Refusal
classed whose A w c = differs (λ k. whose (Misclassed k)) 0 (classes A w) c

-- 4 to 10, then 62: a row of n symbols with what stands beside it
unfoldable pub kept : (Kept → Refusal) → Alphabet → Programme → ℕ → Result ⊤ Refusal
kept whose a P n =
    sizes whose n (room P)
    then symbols whose a.arities (front n P).row
    then fresh whose a.arities (front n P).row P.table
    then classed whose a.arities (front n P).row P.classes

-- 1 to 10, then 62: an alphabet, and a row of n symbols with what stands beside it
unfoldable pub given : Alphabet → Programme → ℕ → Result ⊤ Refusal
given a P n = alphabet a then kept Row a P n

-- 11 to 15: the pattern
unfoldable pub pattern : List ℕ → List ℕ → Result ⊤ Refusal
pattern A q = as_pattern (reading A Blanks pattern_most q)

-- 63: a sheet of 1 to 64 patterns, by the number of their lengths
unfoldable pub sheet_size : ℕ → Result ⊤ Refusal
sheet_size n = refuse_if (ltb n 1) (SheetSize n) then refuse_if (ltb sheet_most n) (SheetSize n)

-- 64: the lengths add up to the m numbers that are lent as patterns
unfoldable pub sheet_sum : List ℕ → ℕ → Result ⊤ Refusal
sheet_sum ls m = pick (eqb (begin_of ls (length ls)) m) (Ok tt) (Err (SheetSum m))

-- 63, then 64
unfoldable pub sheet : List ℕ → ℕ → Result ⊤ Refusal
sheet ls m = sheet_size (length ls) then sheet_sum ls m

-- 24 to 29: the replacement
unfoldable pub replacement : List ℕ → List ℕ → Result ⊤ Refusal
replacement A v = as_replacement (reading A Symbols row_most v)

-- 17: the position is below the row length n
unfoldable pub position : ℕ → ℕ → Result ⊤ Refusal
position n p = refuse_if (leb n p) (Position p)

-- 18: the new row of m symbols is at most 16,384 long, and the shortest of its buffers, of `room` places, has room for it
unfoldable pub grown : ℕ → ℕ → Result ⊤ Refusal
grown m room = refuse_if (ltb (min row_most room) m) (TooLong m)

-- 19: n numbers have room in an output of m places
unfoldable pub output : ℕ → ℕ → Result ⊤ Refusal
output n m = refuse_if (ltb m n) (OutputShort n)
