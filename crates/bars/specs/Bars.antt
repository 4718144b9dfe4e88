-- Prefix bar notation: a node's symbol, its children, then a bar that closes it.
use Rattle.std.specs.Prelude.{ℕ, zero, suc, ◌+◌, ◌*◌, ◌≡◌, List, [], ◌∷◌, ◌++◌, eqb, length, get_or, Result, Ok, Err, ⊤}
use Rattle.rows.specs.Limits.{row_most, bars_most, bar}
use Rattle.rows.specs.Tree.{Forest, Forest.none, Forest.grow, Tree, single, Ranked}
use Rattle.rows.specs.Parse.{parse}
use Rattle.rows.specs.Row.{pick, symbol, allowed, sized, reading}
use Rattle.rows.specs.Programme.{alphabet_of}
use Rattle.rows.specs.Refusals.{◌then◌, as_kept, alphabet, output}
use Rattle.rows.specs.declared.Leaves.TheVariants.{Symbols}
use Rattle.rows.specs.declared.Fault.TheVariants.{Stray}
use Rattle.rows.specs.declared.Kept.TheVariants.{Misread}
use Rattle.rows.specs.declared.BarsFault.TheVariants.{NothingOpen, Children, Unclosed}
use Rattle.rows.specs.declared.Refusal.TheVariants.{Row, Bars}
use Rattle.rows.specs.declared.Refusal.{Refusal}

-- each tree's symbol, the bar forms of its children from left to right, and the bar that closes it
unfoldable pub bar_form : Forest → List ℕ
bar_form none = []
bar_form (grow s cs f) = s ∷ (bar_form cs ++ (bar ∷ bar_form f))

-- `v` is the bar form of a ranked tree
pub record IsBars (A v : List ℕ) : Type 0 where
  pub tree : Tree
  pub ranked : Ranked A (allowed Symbols A) (single tree)
  pub reads : bar_form (single tree) ≡ v

-- the bar form of a row: that of its tree
unfoldable pub bars_of : List ℕ → List ℕ → List ℕ
bars_of A w = bar_form (parse A w)

-- the numbers of a list that are no bars, in their order: the row that a bar form spells
unfoldable pub unbarred : List ℕ → List ℕ
unbarred [] = []
unbarred (x ∷ v) = pick (eqb x bar) (unbarred v) (x ∷ unbarred v)

-- READING. From position `at` on, where the list tells of each open node how many children it lacks, the innermost first: 72
-- where the input ends and a node is open; 70 where it goes on and none is; where the innermost node lacks no child only the bar
-- that closes it may stand, else 71; where it lacks one 71 for a bar, 7 for another number that is no symbol, and a symbol
-- opens a node that lacks all its children.
unfoldable pub closing : List ℕ → List ℕ → ℕ → List ℕ → Result ⊤ Refusal
closing A [] at [] = Ok tt
closing A (k ∷ ks) at [] = Err (Bars (Unclosed at))
closing A [] at (x ∷ v) = Err (Bars (NothingOpen at))
closing A (zero ∷ ks) at (x ∷ v) = pick (eqb x bar) (closing A ks (at + 1) v) (Err (Bars (Children at)))
closing A (suc k ∷ ks) at (x ∷ v) =
    pick (eqb x bar) (Err (Bars (Children at)))
    (pick (symbol A x) (closing A (get_or A x 0 ∷ (k ∷ ks)) (at + 1) v) (Err (Row (Misread (Stray at)))))

-- from the start, where no node is open yet: 70 for a bar, 7 for another number that is no symbol, and a symbol opens the root
unfoldable pub rooted : List ℕ → List ℕ → Result ⊤ Refusal
rooted A [] = Err (Bars (Unclosed 0))
rooted A (x ∷ v) =
    pick (eqb x bar) (Err (Bars (NothingOpen 0)))
    (pick (symbol A x) (closing A (get_or A x 0 ∷ []) 1 v) (Err (Row (Misread (Stray 0)))))

-- The reader's refusals, for a row of m places: 1 to 3; 4 for empty input, 5 over 32,768; 70, 71, 7 and 72; 19, where the row
-- has no room.
unfoldable pub read_check : List ℕ → List ℕ → ℕ → Result ⊤ Refusal
read_check A v m =
    alphabet (alphabet_of A)
    then as_kept Row (sized (length v) bars_most)
    then rooted A v
    then output (length (unbarred v)) m

-- WRITING. The refusals, for a bar form in m places: 1 to 3; 4, 5, 7 to 9 of the row; 19, where a form twice as long has no room.
unfoldable pub write_check : List ℕ → List ℕ → ℕ → Result ⊤ Refusal
write_check A w m = alphabet (alphabet_of A) then as_kept Row (reading A Symbols row_most w) then output (2 * length w) m
