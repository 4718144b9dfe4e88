-- Inside: no public contract cites what stands in this file, and no reader has to believe it.
-- What the searches of this crate ask for, and what they promise to the public calls.
use Rattle.std.specs.Prelude.{ℕ, zero, suc, ◌+◌, ◌-◌, ◌≤◌, ◌<◌, ◌≡◌, List, [], ◌∷◌, Bool, true, false, eqb, length, get_or, Result, Ok, Err, ⊤, Option, Some, None}
use Rattle.rows.specs.Programme.{Alphabet, Programme}
use Rattle.rows.specs.Parse.{table}
use Rattle.rows.specs.Row.{pick, is_variable}
use Rattle.rows.specs.Buffers.{written}
use Rattle.patterns.specs.Answers.{MatchesAt, Listed, spans}
use Rattle.patterns.specs.Pattern.{leaf}
use Rattle.patterns.specs.Searchable.{Checked, Searchable, BlankFrom}
use Rattle.patterns.specs.Walk.{below, same_symbol, walk, unmarked, Decides, after_walk}
use Rattle.patterns.specs.declared.Leaf.TheVariants.{Plain}
use Rattle.searches.specs.declared.Outline.{Outline}

-- the subtree at position p, by the ends e, has `size` symbols, or any number of them if that is 0
unfoldable pub sized : List ℕ → ℕ → ℕ → Bool
sized e size p = pick (eqb size 0) true (eqb (get_or e p 0 - p) size)

-- where the pattern matches, the subtree has that size
abbrev pub AllSized : Programme → List ℕ → ℕ → Type 0
AllSized P q size = (a : Alphabet) → Checked a P q → (p : ℕ) → p < length P.row → MatchesAt a P.row q p → sized P.table size p ≡ true

-- what is known of the pattern is true
pub record Outlined (P : Programme) (q : List ℕ) (o : Outline) : Type 0 where
  pub compared : BlankFrom q o.compared
  pub size : AllSized P q o.size

-- it can be searched for, and its root is a symbol
pub record Seekable (P : Programme) (q : List ℕ) (o : Outline) : Type 0 where
  pub searchable : Searchable P q
  pub outlined : Outlined P q o
  pub symbol : leaf (get_or q 0 0) ≡ Plain

-- a stretch of a row of n symbols
pub record Stretched (from to n : ℕ) : Type 0 where
  pub on : from ≤ to
  pub short : to ≤ from + 64
  pub within : to ≤ n

-- it can be searched for, and its numbers before place m decide
pub record Walkable (P : Programme) (q : List ℕ) (m : ℕ) : Type 0 where
  pub searchable : Searchable P q
  pub compared : BlankFrom q m

-- a root over one variable, twice
pub record Twin (q : List ℕ) : Type 0 where
  pub long : length q ≡ 3
  pub same : get_or q 2 0 ≡ get_or q 1 0
  pub variable : is_variable (get_or q 1 0) ≡ true

-- the two subtrees of the symbol at position p of a row with the ends e have one class
unfoldable pub twins : List ℕ → List ℕ → ℕ → Bool
twins e c p = eqb (get_or c (p + 1) 0) (get_or c (get_or e (p + 1) 0) 0)

-- at position p two subtrees stand behind the symbol, which have classes
pub record Paired (e c : List ℕ) (p : ℕ) : Type 0 where
  pub first : p + 1 < length e
  pub first_class : p + 1 < length c
  pub second_class : get_or e (p + 1) 0 < length c

-- the symbol s does not stand in the row w from position b up to e
abbrev pub Without : List ℕ → ℕ → ℕ → ℕ → Type 0
Without w s b e = (k : ℕ) → b ≤ k → k < e → get_or w k 0 ≡ s → ⊥

-- the symbol s stands at position p of the row w with the ends e, over a subtree of that size
unfoldable pub may_match : List ℕ → List ℕ → ℕ → ℕ → ℕ → Bool
may_match w e s size p = pick (same_symbol (get_or w p 0) s) (sized e size p) false

-- n positions from a on
unfoldable pub range : ℕ → ℕ → List ℕ
range a zero = []
range a (suc n) = a ∷ range (suc a) n

-- those of the positions that pass the test
unfoldable pub passing : (ℕ → Bool) → List ℕ → List ℕ
passing f [] = []
passing f (p ∷ ps) = pick (f p) (p ∷ passing f ps) (passing f ps)

-- those of the positions ps that pass the test are written to the buffer y from place n on, up to place r
pub record Kept (f : ℕ → Bool) (ps y : List ℕ) (n r : ℕ) (y' : List ℕ) : Type 0 where
  pub end : r ≡ n + length (passing f ps)
  pub buffer : y' ≡ written y n (passing f ps)

-- p is the first match from `from` on, and lies before `to`
pub record FirstFrom (a : Alphabet) (w q : List ℕ) (from to p : ℕ) : Type 0 where
  pub on : from ≤ p
  pub within : p < to
  pub here : MatchesAt a w q p
  pub none_between : (x : ℕ) → from ≤ x → x < p → MatchesAt a w q x → ⊥

-- there is none from `from` on before `to`
abbrev pub NoneFrom : Alphabet → List ℕ → List ℕ → ℕ → ℕ → Type 0
NoneFrom a w q from to = (x : ℕ) → from ≤ x → x < to → MatchesAt a w q x → ⊥

-- what the search for the next match before `to` answers
abbrev pub NextIs : Alphabet → List ℕ → List ℕ → ℕ → ℕ → Option ℕ → Type 0
NextIs a w q from to (Some p) = FirstFrom a w q from to p
NextIs a w q from to None = NoneFrom a w q from to

-- whether the pattern is S or a variable alone
abbrev pub BareIs : List ℕ → Bool → Type 0
BareIs q true = leaf (get_or q 0 0) ≡ Plain → ⊥
BareIs q false = leaf (get_or q 0 0) ≡ Plain

-- the positions below n, rising
abbrev pub positions_below : ℕ → List ℕ
positions_below n = below (λ i. true) n

-- What is told of the list ps, for a buffer y that then holds y': all is written at the buffer's front; or nothing is, since
-- more places are needed.
abbrev pub ListTold : List ℕ → List ℕ → Result ℕ ℕ → List ℕ → Type 0
ListTold ps y (Ok n) y' = (n ≡ length ps) × (n ≤ length y) × (y' ≡ written y 0 ps)
ListTold ps y (Err n) y' = (n ≡ length ps) × (length y < n) × (y' ≡ y)

-- that is told of the list of all matches
pub record Lists (a : Alphabet) (w q y : List ℕ) (r : Result ℕ ℕ) (y' : List ℕ) : Type 0 where
  pub positions : List ℕ
  pub listed : Listed a w q (length w) positions
  pub told : ListTold positions y r y'

-- `r` says whether the pattern matches at p, and where the walk over the row and its own table fails; if it matches, the spans
-- of its variables are written at the front of the buffer y
pub record VariablesAt (a : Alphabet) (w q : List ℕ) (p : ℕ) (y : List ℕ) (r : Result ⊤ (ℕ × ℕ)) (y' : List ℕ) : Type 0 where
  pub answer : Decides (MatchesAt a w q p) (walk w (table a.arities w) 0 q p unmarked) r
  pub buffer : y' ≡ after_walk r (written y 0 (spans a.arities w q p)) y
