-- The promises on bar notation. Each is proved in proofs/Promises, under the same name in small letters.
use Rattle.std.specs.Prelude.{ℕ, ◌+◌, ◌*◌, ◌<◌, ◌≤◌, ◌≡◌, List, [], ◌∷◌, ◌++◌, ◌↔◌, ◌⊎◌, length, get_or, take, Result, Ok, Err}
use Rattle.rows.specs.Limits.{alphabet_most, bar}
use Rattle.rows.specs.Tree.{Tree, single, prefix, Ranked, IsRow}
use Rattle.rows.specs.Row.{allowed}
use Rattle.rows.specs.Programme.{alphabet_of}
use Rattle.rows.specs.Buffers.{written}
use Rattle.rows.specs.Refusals.{alphabet}
use Rattle.rows.specs.declared.Leaves.TheVariants.{Symbols}
use Rattle.rows.specs.declared.Fault.TheVariants.{Stray}
use Rattle.rows.specs.declared.Kept.TheVariants.{Misread}
use Rattle.rows.specs.declared.BarsFault.TheVariants.{NothingOpen, Children, Unclosed}
use Rattle.rows.specs.declared.Refusal.{Refusal}
use Rattle.rows.specs.declared.Refusal.TheVariants.{Row, Bars}
use Rattle.refusal_numbers.specs.Numbers.{place}
use Rattle.bars.specs.Bars.{bar_form, IsBars, bars_of, unbarred, rooted}
use Rattle.bars.specs.Calls.{ReadsBars, WritesBars}

-- the trees and the rows of an alphabet; an alphabet that is accepted
abbrev pub RankedTree : List ℕ → Tree → Type 0
RankedTree A t = Ranked A (allowed Symbols A) (single t)

abbrev pub RowOf : List ℕ → List ℕ → Type 0
RowOf A w = IsRow A (allowed Symbols A) w

abbrev pub Sound : List ℕ → Type 0
Sound A = alphabet (alphabet_of A) ≡ Ok tt

-- READING. From left to right it accepts exactly the bar forms of ranked trees.
abbrev pub AcceptsBars : Type 0
AcceptsBars = (A v : List ℕ) → length A ≤ alphabet_most → (rooted A v ≡ Ok tt) ↔ IsBars A v

-- `v` begins a bar form: it can be gone on with to one
abbrev pub Begins : List ℕ → List ℕ → Type 0
Begins A v = (u : List ℕ) × IsBars A (v ++ u)

-- place p is the first where the list v fails: before it v begins a bar form, and with the number at p, if one stands there, none
pub record Stops (A v : List ℕ) (p : ℕ) : Type 0 where
  pub within : p ≤ length v
  pub before : Begins A (take p v)
  pub after : p < length v → Begins A (take (p + 1) v) → ⊥

-- reading stops at the first place where the input fails
abbrev pub StopsFirst : Type 0
StopsFirst = (A v : List ℕ) (x : Refusal) → Sound A → 0 < length v → rooted A v ≡ Err x → Stops A v (place x)

-- behind `v` a child may stand, begun by some symbol; or the bar may
abbrev pub ChildDue : List ℕ → List ℕ → Type 0
ChildDue A v = (s : ℕ) × (s < length A) × Begins A (v ++ (s ∷ []))

abbrev pub BarDue : List ℕ → List ℕ → Type 0
BarDue A v = Begins A (v ++ (bar ∷ []))

-- never both: behind what begins a bar form and is none yet, either a child is due or the bar
abbrev pub OneDue : Type 0
OneDue = (A v : List ℕ) → Sound A → 0 < length v → Begins A v → (IsBars A v → ⊥)
    → (ChildDue A v × (BarDue A v → ⊥)) ⊎ (BarDue A v × (ChildDue A v → ⊥))

-- 70: a bar at the start; or behind a whole bar form another number stands, whichever
abbrev pub NothingIsOpen : Type 0
NothingIsOpen = (A v : List ℕ) (p : ℕ) → Sound A → 0 < length v
    → (rooted A v ≡ Err (Bars (NothingOpen p))) ↔ ((p < length v) × (((p ≡ 0) × (get_or v 0 0 ≡ bar)) ⊎ IsBars A (take p v)))

-- 71: behind the root, a bar where a child is due, or another number, whichever, where the bar is
abbrev pub WrongChildren : Type 0
WrongChildren = (A v : List ℕ) (p : ℕ) → Sound A → 0 < length v
    → (rooted A v ≡ Err (Bars (Children p)))
    ↔ ((p < length v) × (0 < p) × (((get_or v p 0 ≡ bar) × ChildDue A (take p v)) ⊎ ((get_or v p 0 ≡ bar → ⊥) × BarDue A (take p v))))

-- 7: a number that is neither the bar nor a symbol, where a child or the root is due
abbrev pub StrayChild : Type 0
StrayChild = (A v : List ℕ) (p : ℕ) → Sound A → 0 < length v
    → (rooted A v ≡ Err (Row (Misread (Stray p))))
    ↔ ((p < length v) × (get_or v p 0 ≡ bar → ⊥) × (length A ≤ get_or v p 0) × ChildDue A (take p v))

-- 72: the input's end, where the input begins a bar form and is none
abbrev pub EndsOpen : Type 0
EndsOpen = (A v : List ℕ) (p : ℕ) → Sound A → 0 < length v
    → (rooted A v ≡ Err (Bars (Unclosed p))) ↔ ((p ≡ length v) × Begins A v × (IsBars A v → ⊥))

-- ROWS AND BAR FORMS. What is accepted gives the row of the tree; the writer gives the bar form of the row's tree.
abbrev pub RowOfBars : Type 0
RowOfBars = (A v : List ℕ) → length A ≤ alphabet_most → (b : IsBars A v) → unbarred v ≡ prefix (single b.tree)

abbrev pub BarsOfRow : Type 0
BarsOfRow = (A w : List ℕ) (r : RowOf A w) → bars_of A w ≡ bar_form (single r.tree)

-- a bar form is twice as long as the row
abbrev pub TwiceAsLong : Type 0
TwiceAsLong = (A w : List ℕ) → length (bars_of A w) ≡ 2 * length w

-- trees with one row have one bar form, and with one bar form they have one row
abbrev pub OneForm : Type 0
OneForm = (A : List ℕ) (t u : Tree) → length A ≤ alphabet_most → RankedTree A t → RankedTree A u
    → (prefix (single t) ≡ prefix (single u)) ↔ (bar_form (single t) ≡ bar_form (single u))

-- what is written is read, and gives the row back
abbrev pub WriteRead : Type 0
WriteRead = (A w : List ℕ) → length A ≤ alphabet_most → RowOf A w → (rooted A (bars_of A w) ≡ Ok tt) × (unbarred (bars_of A w) ≡ w)

-- what is read is a row, and writing it gives the bars back
abbrev pub ReadWrite : Type 0
ReadWrite = (A v : List ℕ) → length A ≤ alphabet_most → rooted A v ≡ Ok tt → RowOf A (unbarred v) × (bars_of A (unbarred v) ≡ v)

-- THE CALLS. Where n numbers are written, the reader refuses nothing of them, if it is lent room for the row, and gives the row back.
abbrev pub WriteThenRead : Type 0
WriteThenRead = (A w b b' x x' : List ℕ) (n : ℕ) (r : Result ℕ Refusal) → WritesBars A w b (Ok n) b' → length w ≤ length x
    → ReadsBars A (take n b') x r x' → (r ≡ Ok (length w)) × (x' ≡ written x 0 w)

-- Where n symbols are read of bars that fit the writer's buffer, the writer refuses nothing of them, and gives the bars back.
abbrev pub ReadThenWrite : Type 0
ReadThenWrite = (A v x x' b b' : List ℕ) (n : ℕ) (r : Result ℕ Refusal) → ReadsBars A v x (Ok n) x' → length v ≤ length b
    → WritesBars A (take n x') b r b' → (r ≡ Ok (length v)) × (b' ≡ written b 0 v)
