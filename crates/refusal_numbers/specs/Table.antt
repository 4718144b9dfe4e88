-- The table of refusals of docs/SCOPE.md, line by line: each check that the calls make refuses exactly when the table says so, with
-- the number and the place that stand there. Proved in proofs/Table.
use Rattle.std.specs.Prelude.{ℕ, ◌<◌, ◌≤◌, ◌≡◌, List, Bool, false, ◌↔◌, ◌⊎◌, T, length, get_or, take, Result, Ok, Err, ⊤}
use Rattle.rows.specs.Limits.{row_most}
use Rattle.rows.specs.Tree.{IsRow}
use Rattle.rows.specs.Parse.{table}
use Rattle.rows.specs.Classes.{classes}
use Rattle.rows.specs.Row.{symbol, allowed, reading}
use Rattle.rows.specs.Sheet.{begin_of}
use Rattle.rows.specs.Refusals.{◌then◌, alphabet_size, arities_fit, some_leaf, as_kept, sizes, symbols, fresh, classed, pattern, sheet_size, sheet_sum, replacement, position, grown, output}
use Rattle.rows.specs.declared.Leaves.TheVariants.{Symbols, Blanks}
use Rattle.rows.specs.declared.Text.TheVariants.{Line, Bytes}
use Rattle.rows.specs.declared.Refusal.TheVariants.{Row, OnRecord, Input}
use Rattle.refusal_numbers.specs.Numbers.{number, place}
use Rattle.rows.specs.declared.Refusal.{Refusal}

-- the check refuses, with number k and place q
abbrev pub Refuses : Result ⊤ Refusal → ℕ → ℕ → Type 0
Refuses (Ok _) k q = ⊥
Refuses (Err x) k q = (k ≡ number x) × (q ≡ place x)

-- s is the first symbol with an arity over 15
pub record FirstOver (A : List ℕ) (s : ℕ) : Type 0 where
  pub within : s < length A
  pub over : 15 < get_or A s 0
  pub before : (k : ℕ) → k < s → get_or A k 0 ≤ 15

-- p is the first of n places where the list l differs from the right one
pub record FirstOther (right l : List ℕ) (n p : ℕ) : Type 0 where
  pub within : p < n
  pub differs : get_or l p 0 ≡ get_or right p 0 → ⊥
  pub before : (k : ℕ) → k < p → get_or l k 0 ≡ get_or right k 0

-- p is the first of the row's positions where the table t, where the list of classes c, differs from the row's
abbrev pub FirstStale : List ℕ → List ℕ → List ℕ → ℕ → Type 0
FirstStale A w t p = FirstOther (table A w) t (length w) p

abbrev pub FirstMisclassed : List ℕ → List ℕ → List ℕ → ℕ → Type 0
FirstMisclassed A w c p = FirstOther (classes A w) c (length w) p

-- up to place p nothing is wrong and no tree has ended: each number before p may stand, and no beginning of at most p numbers
-- is the row of a tree
pub record Unfinished (A : List ℕ) (ok : ℕ → Bool) (w : List ℕ) (p : ℕ) : Type 0 where
  pub stand : (k : ℕ) → k < p → T (ok (get_or w k 0))
  pub unended : (k : ℕ) → k ≤ p → IsRow A ok (take k w) → ⊥

-- What is wrong with a list that should be a tree's. The refusals' numbers are the first arguments: one definition serves rows,
-- patterns and replacements.

-- a list of n numbers is empty, place 0; or it has more than `most`, place the length
abbrev pub WrongLength : (empty long : ℕ) (n most k q : ℕ) → Type 0
WrongLength empty long n most k q = ((k ≡ empty) × (q ≡ 0) × (n ≡ 0)) ⊎ ((k ≡ long) × (q ≡ n) × (most < n))

-- a number may not stand, where no tree has ended before it, place its position; or the list ends before its tree does, place the
-- length; or it goes on after its tree, place the first position after the tree
abbrev pub NotOneTree : (stray early extra : ℕ) (A : List ℕ) (ok : ℕ → Bool) (w : List ℕ) (k q : ℕ) → Type 0
NotOneTree stray early extra A ok w k q =
    ((k ≡ stray) × (q < length w) × (ok (get_or w q 0) ≡ false) × Unfinished A ok w q)
    ⊎ ((k ≡ early) × (q ≡ length w) × Unfinished A ok w (length w))
    ⊎ ((k ≡ extra) × (q < length w) × IsRow A ok (take q w))

-- its length is wrong; or it is not, and the list is not one tree's
abbrev pub WrongList : (empty long stray early extra : ℕ) (most : ℕ) (A : List ℕ) (ok : ℕ → Bool) (w : List ℕ) (k q : ℕ) → Type 0
WrongList empty long stray early extra most A ok w k q =
    WrongLength empty long (length w) most k q ⊎ ((0 < length w) × (length w ≤ most) × NotOneTree stray early extra A ok w k q)

-- the length n of a row is wrong; or it is not, and of the lists that hold the row and stand beside it the shortest, of m places, is
-- too short for it, place the length
abbrev pub WrongSizes : (empty long short : ℕ) (n m k q : ℕ) → Type 0
WrongSizes empty long short n m k q =
    WrongLength empty long n 16384 k q ⊎ ((k ≡ short) × (q ≡ n) × (0 < n) × (n ≤ 16384) × (m < n))

pub record Table : Type 0 where
  -- 1: alphabet empty or over 1,024. Its length.
  pub alphabet-size : (n k q : ℕ) → Refuses (alphabet_size n) k q ↔ ((k ≡ 1) × (q ≡ n) × ((n ≡ 0) ⊎ (1024 < n)))
  -- 2: an arity over 15. First such symbol.
  pub arity_over : (A : List ℕ) (k q : ℕ) → Refuses (arities_fit 0 A) k q ↔ ((k ≡ 2) × FirstOver A q)
  -- 3: no symbol of arity 0. 0.
  pub no_leaf : (A : List ℕ) (k q : ℕ) → Refuses (some_leaf A) k q ↔ ((k ≡ 3) × (q ≡ 0) × ((s : ℕ) → s < length A → get_or A s 0 ≡ 0 → ⊥))
  -- 4, 5, 6: row length 0; over 16,384; a list shorter than the row. 0; the length; the row length. Of the row on record 40 more.
  pub row_sizes : (n m k q : ℕ) → Refuses (sizes Row n m) k q ↔ WrongSizes 4 5 6 n m k q
  pub on_record_sizes : (n m k q : ℕ) → Refuses (sizes OnRecord n m) k q ↔ WrongSizes 44 45 46 n m k q
  -- 7, 8, 9: a number in the row is no symbol; the row ends before its tree does; it goes on after its tree.
  pub row_symbols : (A w : List ℕ) (k q : ℕ) → Refuses (symbols Row A w) k q ↔ NotOneTree 7 8 9 A (symbol A) w k q
  pub on_record_symbols : (A w : List ℕ) (k q : ℕ) → Refuses (symbols OnRecord A w) k q ↔ NotOneTree 47 48 49 A (symbol A) w k q
  -- 10: stale: a table entry differs from the row's. First such position.
  pub stale : (A w t : List ℕ) (k q : ℕ) → length w ≤ length t → Refuses (fresh Row A w t) k q ↔ ((k ≡ 10) × FirstStale A w t q)
  pub on_record_stale : (A w t : List ℕ) (k q : ℕ) → length w ≤ length t → Refuses (fresh OnRecord A w t) k q ↔ ((k ≡ 50) × FirstStale A w t q)
  -- 62: a class differs from the row's. First such position; of the row on record 102.
  pub misclassed : (A w c : List ℕ) (k q : ℕ) → length w ≤ length c → Refuses (classed Row A w c) k q ↔ ((k ≡ 62) × FirstMisclassed A w c q)
  pub on_record_misclassed : (A w c : List ℕ) (k q : ℕ) → length w ≤ length c → Refuses (classed OnRecord A w c) k q ↔ ((k ≡ 102) × FirstMisclassed A w c q)
  -- where an entry or a class differs there is a first one
  pub other_first : (right l : List ℕ) (n k : ℕ) → k < n → (get_or l k 0 ≡ get_or right k 0 → ⊥) → (p : ℕ) × FirstOther right l n p
  -- 11, 12: pattern empty; over 256. 13, 14, 15: as 7, 8, 9 for the pattern, where S and variables are allowed.
  pub pattern_wrong : (A w : List ℕ) (k q : ℕ) → Refuses (pattern A w) k q ↔ WrongList 11 12 13 14 15 256 A (allowed Blanks A) w k q
  -- 63: a sheet of no pattern or over 64. Their number.
  pub sheet-size : (n k q : ℕ) → Refuses (sheet_size n) k q ↔ ((k ≡ 63) × (q ≡ n) × ((n ≡ 0) ⊎ (64 < n)))
  -- 64: the lengths do not add up to the numbers lent as patterns. How many are lent.
  pub sheet-sum : (ls : List ℕ) (m k q : ℕ) → Refuses (sheet_sum ls m) k q ↔ ((k ≡ 64) × (q ≡ m) × (begin_of ls (length ls) ≡ m → ⊥))
  -- 24, 25, 27, 28, 29: as 4, 5, 7, 8, 9 for the replacement
  pub replacement_wrong : (A w : List ℕ) (k q : ℕ) → Refuses (replacement A w) k q ↔ WrongList 24 25 27 28 29 16384 A (symbol A) w k q
  -- 17: position not below the row length. The position.
  pub position_past : (n p k q : ℕ) → Refuses (position n p) k q ↔ ((k ≡ 17) × (q ≡ p) × (n ≤ p))
  -- 18: the row after replacement would be over 16,384, or longer than the row's buffer, the table or the classes. The new length.
  pub too_long : (m room k q : ℕ) → Refuses (grown m room) k q ↔ ((k ≡ 18) × (q ≡ m) × ((16384 < m) ⊎ (room < m)))
  -- 19: output too short. Room needed.
  pub output-short : (n m k q : ℕ) → Refuses (output n m) k q ↔ ((k ≡ 19) × (q ≡ n) × (m < n))
  -- 4, 5, 7, 8, 9 of the plain matcher, which has nothing beside the row
  pub plain_row : (A w : List ℕ) (k q : ℕ) → Refuses (as_kept Row (reading A Symbols row_most w)) k q ↔ WrongList 4 5 7 8 9 16384 A (symbol A) w k q
  -- 60 and 61, of the program's input: a line, its number; too many bytes, 65,536
  pub line : (k : ℕ) → (number (Input (Line k)) ≡ 60) × (place (Input (Line k)) ≡ k)
  pub bytes : (number (Input Bytes) ≡ 61) × (place (Input Bytes) ≡ 65536)
  -- the order: of two checks, one after the other, the second refuses only where the first does not
  pub order : (a b : Result ⊤ Refusal) (k q : ℕ) → Refuses (a then b) k q ↔ (Refuses a k q ⊎ ((a ≡ Ok tt) × Refuses b k q))
