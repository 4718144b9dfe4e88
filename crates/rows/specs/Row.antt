-- What reading a list from left to right finds, and which numbers it may hold.
use Rattle.std.specs.Prelude.{ℕ, zero, suc, ◌+◌, List, [], ◌∷◌, Bool, true, false, ltb, eqb, get_or, length, Result, Ok, Err, ⊤}
use Rattle.rows.specs.Limits.{blank, first_variable, variables}
use Rattle.rows.specs.declared.Fault.TheVariants.{Empty, Long, Stray, Early, Extra}
use Rattle.rows.specs.declared.Leaves.{Leaves}
use Rattle.rows.specs.declared.Leaves.TheVariants.{Symbols, Blanks}
use Rattle.rows.specs.declared.Fault.{Fault}

-- `a` if the test holds, else `b`
abbrev pub pick {ℓ} : {X : Type ℓ} → Bool → X → X → X
pick true a b = a
pick false a b = b

-- a length from 1 to `most`
unfoldable pub sized : ℕ → ℕ → Result ⊤ Fault
sized n most = pick (ltb n 1) (Err Empty) (pick (ltb most n) (Err (Long n)) (Ok tt))

-- reading from position `at`, where `need` subtrees are still to come; `ok` says which numbers may stand
unfoldable pub verdict : List ℕ → (ℕ → Bool) → ℕ → ℕ → List ℕ → Result ⊤ Fault
verdict A ok zero at [] = Ok tt
verdict A ok (suc k) at [] = Err (Early at)
verdict A ok zero at (s ∷ w) = Err (Extra at)
verdict A ok (suc k) at (s ∷ w) = pick (ok s) (verdict A ok (k + get_or A s 0) (at + 1) w) (Err (Stray at))

-- a symbol of the alphabet
abbrev pub symbol : List ℕ → ℕ → Bool
symbol A s = ltb s (length A)

-- X0 to X15
abbrev pub is_variable : ℕ → Bool
is_variable s = pick (ltb s first_variable) false (ltb s (first_variable + variables))

-- the numbers that may stand: in a row or a replacement the symbols; in a pattern also S and the variables
abbrev pub allowed : Leaves → List ℕ → ℕ → Bool
allowed Symbols A s = symbol A s
allowed Blanks A s = pick (symbol A s) true (pick (eqb s blank) true (is_variable s))

-- the first of two verdicts that finds a fault
abbrev pub or_else : Result ⊤ Fault → Result ⊤ Fault → Result ⊤ Fault
or_else (Ok _) v = v
or_else (Err f) v = Err f

-- a list of 1 to `most` numbers that is the prefix notation of one tree
unfoldable pub reading : List ℕ → Leaves → ℕ → List ℕ → Result ⊤ Fault
reading A leaves most w = or_else (sized (length w) most) (verdict A (allowed leaves A) 1 0 w)
