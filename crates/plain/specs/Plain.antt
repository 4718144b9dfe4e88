-- Inside: no public contract cites what stands in this file, and no reader has to believe it.
-- What the plain matcher's functions ask for and tell. They go the way of `walk` over the part of a row from the position
-- on, whose places count from there, with the ends that the part's own trees have.
use Rattle.std.specs.Prelude.{ℕ, zero, suc, ◌+◌, ◌-◌, ◌≤◌, ◌<◌, ◌≡◌, List, Bool, length, get_or, drop, Result, Ok, ⊤}
use Rattle.rows.specs.Limits.{alphabet_most, row_most, pattern_most, variables}
use Rattle.rows.specs.Programme.{Alphabet}
use Rattle.rows.specs.Tree.{count, size, Ranked}
use Rattle.rows.specs.Parse.{first, parse, tree_of, table, behind}
use Rattle.rows.specs.Row.{symbol, allowed, reading}
use Rattle.rows.specs.declared.Leaves.TheVariants.{Blanks}
use Rattle.patterns.specs.Pattern.{leaf, Match}
use Rattle.patterns.specs.Walk.{Outcome, Outcome.misses, Outcome.reaches, meets, walk, unmarked, MarksIn, Decides}
use Rattle.patterns.specs.declared.Leaf.TheVariants.{Blank}
use Rattle.plain.specs.declared.Tried.{Tried}
use Rattle.plain.specs.declared.Tried.TheVariants.{Past, Through, Miss}

-- the list spells ranked trees, k or more: it is the rest of a row, or of a pattern, from some place on
pub record Spells (A : List ℕ) (ok : ℕ → Bool) (k : ℕ) (l : List ℕ) : Type 0 where
  pub ranked : Ranked A ok (parse A l)
  pub many : k ≤ count (parse A l)

-- where the next n trees from place i on end
unfoldable pub reach : List ℕ → List ℕ → ℕ → ℕ → ℕ
reach A w n i = i + size (first n (behind A w i))

-- the symbols of the first tree before place i are counted, and `due` are due in all: as many trees stand from i on as are due
-- beyond i, and they end where the first tree ends
pub record Counting (A w : List ℕ) (i due : ℕ) : Type 0 where
  pub on : i ≤ due
  pub within : due ≤ length w
  pub trees : Spells A (symbol A) (due - i) (drop i w)
  pub ends : reach A w (due - i) i ≡ size (first 1 (parse A w))

-- the rest q of a pattern from place b on has only S at place `told` of the pattern and behind it
abbrev pub BlankFrom : List ℕ → ℕ → ℕ → Type 0
BlankFrom q b told = (i : ℕ) → told ≤ b + i → i < length q → leaf (get_or q i 0) ≡ Blank

-- the place where an end of a list starts in it
abbrev pub starts : List ℕ → List ℕ → ℕ
starts l end = length l - length end

-- how many symbols the tree takes that a mark stands for: 0 for a variable that was not met
abbrev pub marked_length : List ℕ → List ℕ → ℕ → ℕ
marked_length A l zero = 0
marked_length A l (suc a) = size (first 1 (parse A (drop a l)))

-- a length beside the mark of each variable
pub record Lengths (A l ms ns : List ℕ) : Type 0 where
  pub many : length ns ≡ variables
  pub all : (i : ℕ) → get_or ns i 0 ≡ marked_length A l (get_or ms i 0)

-- the end u of the part l, k trees of which are to be tried, with the marks of the variables so far and their lengths
pub record Ahead (A l u ms ns : List ℕ) (k : ℕ) : Type 0 where
  pub most : length l ≤ row_most
  pub ranked : Ranked A (symbol A) (parse A l)
  pub end : u ≡ drop (starts l u) l
  pub row : Spells A (symbol A) k u
  pub marks : MarksIn (starts l u) ms
  pub lengths : Lengths A l ms ns

-- the rest q of a pattern from place b on, k trees of which are to be tried there
pub record Lent (A : List ℕ) (told b : ℕ) (q l u ms ns : List ℕ) (k : ℕ) : Type 0 where
  pub few : length A ≤ alphabet_most
  pub placed : b + length q ≤ pattern_most
  pub blanks : BlankFrom q b told
  pub pattern : Spells A (allowed Blanks A) k q
  pub ahead : Ahead A l u ms ns k

-- what a variable does at the first tree of the end u, from place b of the pattern
abbrev pub meeting : List ℕ → ℕ → List ℕ → List ℕ → List ℕ → ℕ → Outcome
meeting A b l u ms i = meets l (starts l u + size (first 1 (parse A u))) b (starts l u) ms i (get_or ms i 0)

-- it fits so far: it takes the tree
pub record Takes (A : List ℕ) (b : ℕ) (l u ms : List ℕ) (i p j : ℕ) (ms' ns' : List ℕ) : Type 0 where
  pub number : p ≡ 1
  pub symbols : j ≡ size (first 1 (parse A u))
  pub meets : meeting A b l u ms i ≡ reaches (starts l u + j) ms'
  pub lengths : Lengths A l ms' ns'

-- what is told of it: it fits so far; it stands for the first time, and only S stand behind it; or where it misses
pub record Meets (A : List ℕ) (told b : ℕ) (l u ms : List ℕ) (i : ℕ) (r : Tried) (ms' ns' : List ℕ) : Type 0 where
  pub past : (p j : ℕ) → r ≡ Past p j → Takes A b l u ms i p j ms' ns'
  pub through : r ≡ Through → (told ≤ b + 1) × (get_or ms i 0 ≡ 0)
  pub miss : (x y : ℕ) → r ≡ Miss x y → meeting A b l u ms i ≡ misses x y

-- the k trees fit so far: they take p numbers of the pattern and j symbols of the row, and the walk goes on behind them
pub record Passes (A : List ℕ) (b : ℕ) (q l u ms : List ℕ) (k p j : ℕ) (ms' ns' : List ℕ) : Type 0 where
  pub numbers : p ≡ size (first k (parse A q))
  pub symbols : j ≡ size (first k (parse A u))
  pub marks : MarksIn (starts l u + j) ms'
  pub lengths : Lengths A l ms' ns'
  pub walks : walk l (table A l) b q (starts l u) ms ≡ walk l (table A l) (b + p) (drop p q) (starts l u + j) ms'

-- a walk comes through
pub record Comes (o : Outcome) : Type 0 where
  pub to : ℕ
  pub marks : List ℕ
  pub reaches : o ≡ reaches to marks

-- what trying k trees tells: they fit so far, all that is left fits, or where the walk misses
pub record Tells (A : List ℕ) (b : ℕ) (q l u ms : List ℕ) (k : ℕ) (r : Tried) (ms' ns' : List ℕ) : Type 0 where
  pub past : (p j : ℕ) → r ≡ Past p j → Passes A b q l u ms k p j ms' ns'
  pub through : r ≡ Through → Comes (walk l (table A l) b q (starts l u) ms)
  pub miss : (x y : ℕ) → r ≡ Miss x y → walk l (table A l) b q (starts l u) ms ≡ misses x y

-- an accepted pattern, and the part of an accepted row from a position on
pub record Tryable (a : Alphabet) (l q : List ℕ) : Type 0 where
  pub few : length a.arities ≤ alphabet_most
  pub most : length l ≤ row_most
  pub row : Spells a.arities (symbol a.arities) 1 l
  pub pattern : reading a.arities Blanks pattern_most q ≡ Ok tt

-- the answer says whether the pattern matches the first tree of the part, and where the walk over the part fails
abbrev pub TriesRight : Alphabet → List ℕ → List ℕ → Result ⊤ (ℕ × ℕ) → Type 0
TriesRight a l q r = Decides (Match (tree_of a.arities q) (tree_of a.arities l)) (walk l (table a.arities l) 0 q 0 unmarked) r
