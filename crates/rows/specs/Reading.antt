-- Inside: no public contract cites what stands in this file, and no reader has to believe it.
-- What reading accepts, and how far a list is read from left to right.
use Rattle.std.specs.Prelude.{ℕ, zero, suc, ◌+◌, ◌-◌, ◌*◌, ◌≤◌, ◌<◌, ◌≡◌, List, Bool, get_or, length, drop, Result, Ok, Err}
use Rattle.rows.specs.Row.{verdict, allowed}
use Rattle.rows.specs.declared.Leaves.{Leaves}
use Rattle.rows.specs.declared.Leaves.TheVariants.{Symbols}
use Rattle.rows.specs.declared.Fault.{Fault}

-- what reading accepts as a row
abbrev pub Accepted : List ℕ → List ℕ → Type 0
Accepted A w = verdict A (allowed Symbols A) 1 0 w ≡ Ok tt

-- the list w is read up to position i, where `due` symbols are due in all: the verdict is what reading on from there gives
abbrev pub ReadTo : List ℕ → (ℕ → Bool) → List ℕ → ℕ → ℕ → Type 0
ReadTo A ok w i due =
    (i ≤ length w) × (i ≤ due) × (due ≤ 1 + 65535 * i) × (verdict A ok 1 0 w ≡ verdict A ok (due - i) i (drop i w))

-- reading the number at position i then finds that the list is read up to i + 1, or a fault
abbrev pub Reads : List ℕ → (ℕ → Bool) → List ℕ → ℕ → Result ℕ Fault → Type 0
Reads A ok w i (Ok d) = ReadTo A ok w (i + 1) d
Reads A ok w i (Err f) = verdict A ok 1 0 w ≡ Err f

-- the n numbers at the front of a list are below m: they are symbols of an alphabet of m
abbrev pub BelowTo : ℕ → List ℕ → ℕ → Type 0
BelowTo m w n = (n ≤ length w) × ((k : ℕ) → k < n → get_or w k 0 < m)

-- it is read up to position i, whichever leaves may stand
abbrev pub SymbolsTo : List ℕ → List ℕ → ℕ → ℕ → Type 0
SymbolsTo A w i due =
    (i ≤ length w) × (i ≤ due) × (due ≤ 1 + 65535 * i) × ((leaves : Leaves) → ReadTo A (allowed leaves A) w i due)

-- how many children the m symbols from position i on have in all
unfoldable pub children : List ℕ → List ℕ → ℕ → ℕ → ℕ
children A w i zero = 0
children A w i (suc m) = children A w i m + get_or A (get_or w (i + m) 0) 0
