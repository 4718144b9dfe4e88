-- A sheet: patterns laid end to end in one list, and the list of their lengths.
use Rattle.std.specs.Prelude.{ℕ, zero, suc, ◌+◌, List, [], ◌++◌, get_or, take, drop}

-- where pattern i begins, by the lengths of those before it
unfoldable pub begin_of : List ℕ → ℕ → ℕ
begin_of ls zero = 0
begin_of ls (suc i) = begin_of ls i + get_or ls i 0

-- pattern i
unfoldable pub pattern_at : List ℕ → List ℕ → ℕ → List ℕ
pattern_at qs ls i = take (get_or ls i 0) (drop (begin_of ls i) qs)

-- the first n of the lists l, laid end to end
unfoldable pub laid : (ℕ → List ℕ) → ℕ → List ℕ
laid l zero = []
laid l (suc i) = laid l i ++ l i
