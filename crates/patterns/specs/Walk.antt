-- Inside: no public contract cites what stands in this file, and no reader has to believe it.
-- The method: a walk along the pattern, from left to right, over a row w and its table e. It keeps a mark for each variable:
-- 0 if the variable was not met yet, else one more than the row position of its first place.
use Rattle.std.specs.Prelude.{ℕ, zero, suc, ◌+◌, ◌-◌, ◌≤◌, ◌<◌, ◌≡◌, List, [], ◌∷◌, ◌++◌, Bool, true, false, eqb, get_or, length, take, drop, set, replicate, Result, Ok, Err, ⊤, Option, Some, None}
use Rattle.rows.specs.Limits.{row_most, variables}
use Rattle.rows.specs.Programme.{Alphabet}
use Rattle.rows.specs.Parse.{table}
use Rattle.rows.specs.Row.{pick}
use Rattle.patterns.specs.Pattern.{leaf}
use Rattle.patterns.specs.declared.Leaf.{Leaf}
use Rattle.patterns.specs.declared.Leaf.TheVariants.{Plain, Blank, Variable}

-- two symbols are the same
abbrev pub same_symbol : ℕ → ℕ → Bool
same_symbol x y = eqb x y

-- how many symbols, one by one, are the same at the front of two lists
unfoldable pub same_front : List ℕ → List ℕ → ℕ
same_front [] ys = 0
same_front (x ∷ xs) [] = 0
same_front (x ∷ xs) (y ∷ ys) = pick (same_symbol x y) (suc (same_front xs ys)) 0

-- how many of the n symbols from position a on are the same as those from position j on, one by one
abbrev pub agreeing : List ℕ → ℕ → ℕ → ℕ → ℕ
agreeing w a j n = same_front (take n (drop a w)) (take n (drop j w))

-- n symbols from position a on are those from position j on
abbrev pub twice : List ℕ → ℕ → ℕ → ℕ → Bool
twice w a j n = eqb (agreeing w a j n) n

-- n symbols of x from position a on are those of y from position b on
abbrev pub Alike : List ℕ → ℕ → List ℕ → ℕ → ℕ → Type 0
Alike x a y b n = (k : ℕ) → k < n → get_or x (a + k) 0 ≡ get_or y (b + k) 0

-- how far a walk comes: to a mismatch at a place of the pattern and a row position, or to a row position with its marks
pub data Outcome : Type 0 where
  misses : ℕ → ℕ → Outcome
  reaches : ℕ → List ℕ → Outcome

-- Variable i at place k of the pattern and row position j, where a subtree stands up to `end`, by its mark: its first place is
-- marked; at a later one all symbols are those of the first.
unfoldable pub meets : List ℕ → ℕ → ℕ → ℕ → List ℕ → ℕ → ℕ → Outcome
meets w end k j ms i zero = reaches end (set ms i (j + 1))
meets w end k j ms i (suc a) =
    pick (eqb (agreeing w a j (end - j)) (end - j)) (reaches end ms) (misses k (j + agreeing w a j (end - j)))

-- The number at place k of the pattern, which is not the symbol at row position j: S and a variable take the whole subtree
-- there.
unfoldable pub takes : List ℕ → ℕ → ℕ → ℕ → List ℕ → Leaf → Outcome
takes w end k j ms Plain = misses k j
takes w end k j ms Blank = reaches end ms
takes w end k j ms (Variable i) = meets w end k j ms i (get_or ms i 0)

-- one number of the pattern, s at place k, at row position j
unfoldable pub steps : List ℕ → List ℕ → ℕ → ℕ → ℕ → List ℕ → Outcome
steps w e k s j ms = pick (same_symbol (get_or w j 0) s) (reaches (j + 1) ms) (takes w (get_or e j 0) k j ms (leaf s))

abbrev pub onward : Outcome → (ℕ → List ℕ → Outcome) → Outcome
onward (misses k j) next = misses k j
onward (reaches j ms) next = next j ms

-- the numbers of the pattern from place k on, one after the other
unfoldable pub walk : List ℕ → List ℕ → ℕ → List ℕ → ℕ → List ℕ → Outcome
walk w e k [] j ms = reaches j ms
walk w e k (s ∷ q) j ms = onward (steps w e k s j ms) (λ j' ms'. walk w e (k + 1) q j' ms')

abbrev pub unmarked : List ℕ
unmarked = replicate variables 0

abbrev pub through : Outcome → Bool
through (misses k j) = false
through (reaches j ms) = true

-- the walk from row position p comes through
abbrev pub comes_through : List ℕ → List ℕ → List ℕ → ℕ → Bool
comes_through w e q p = through (walk w e 0 q p unmarked)

-- the numbers below n that pass the test, rising
unfoldable pub below : (ℕ → Bool) → ℕ → List ℕ
below f zero = []
below f (suc n) = below f n ++ pick (f n) (n ∷ []) []

-- the matches, computed
abbrev pub list_of : Alphabet → List ℕ → List ℕ → List ℕ
list_of a w q = below (comes_through w (table a.arities w) q) (length w)

-- what the code needs of a table: an entry for each position of the row, past its position and within the row
pub record Ends (w e : List ℕ) : Type 0 where
  pub most : length w ≤ row_most
  pub long : length w ≤ length e
  pub past : (p : ℕ) → p < length w → p < get_or e p 0
  pub within : (p : ℕ) → p < length w → get_or e p 0 ≤ length w

-- a mark for each variable, of positions before n
pub record MarksIn (n : ℕ) (ms : List ℕ) : Type 0 where
  pub many : length ms ≡ variables
  pub all : (i : ℕ) → get_or ms i 0 ≤ n

-- variable i at position j, which has a class in the list c, with marks of positions before j
pub record Meetable (c : List ℕ) (i j : ℕ) (ms : List ℕ) : Type 0 where
  pub most : j < row_most
  pub long : j < length c
  pub variable : i < variables
  pub marks : MarksIn j ms

-- what the code needs of classes: one for each position of the row, and two positions have one class exactly if the symbols of the
-- subtree at the later one stand at the other too
pub record ByClass (w e c : List ℕ) : Type 0 where
  pub long : length w ≤ length c
  pub same : (a j : ℕ) → a < j → j < length w → twice w a j (get_or e j 0 - j) ≡ eqb (get_or c a 0) (get_or c j 0)

-- the code's answer for a variable, by the classes c and its mark m: at its first place it is marked; at a later one the classes decide
abbrev pub met : List ℕ → ℕ → ℕ → ℕ → Option ℕ
met c end j zero = Some end
met c end j (suc a) = pick (eqb (get_or c a 0) (get_or c j 0)) (Some end) None

abbrev pub marked : List ℕ → ℕ → ℕ → ℕ → List ℕ
marked ms i j zero = set ms i (j + 1)
marked ms i j (suc a) = ms

-- the code's answer for a step, and the marks that it leaves where it found ms
abbrev pub stepped : Outcome → Option ℕ
stepped (misses k j) = None
stepped (reaches j ms) = Some j

abbrev pub marks_after : List ℕ → Outcome → List ℕ
marks_after ms (misses k j) = ms
marks_after ms (reaches j ms') = ms'

pub record Stepping (o : Outcome) (ms : List ℕ) (r : Option ℕ) (ms' : List ℕ) : Type 0 where
  pub answer : r ≡ stepped o
  pub marks : ms' ≡ marks_after ms o

-- the code's answer for a whole walk: it says that the walk comes through exactly if M, the match, holds; and the two numbers
-- of a miss are the walk's
abbrev pub Decides : Type 0 → Outcome → Result ⊤ (ℕ × ℕ) → Type 0
Decides M o (Ok _) = M
Decides M o (Err (k, j)) = (M → ⊥) × (o ≡ misses k j)

-- what a buffer holds after a walk: the new list if it came through, else the old
abbrev pub after_walk : Result ⊤ (ℕ × ℕ) → List ℕ → List ℕ → List ℕ
after_walk (Ok _) new old = new
after_walk (Err (k, j)) new old = old

-- begin and end of the subtree that a mark stands for: 0 and 0 for a variable that was not met
abbrev pub mark_begin : ℕ → ℕ
mark_begin zero = 0
mark_begin (suc a) = a

abbrev pub mark_end : List ℕ → ℕ → ℕ
mark_end e zero = 0
mark_end e (suc a) = get_or e a 0
