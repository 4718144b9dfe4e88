-- A row or a table in a lent buffer, when a part of it gives way to another.
use Rattle.std.specs.Prelude.{ℕ, ◌-◌, max, List, ◌++◌, length, drop, replicate}

-- a buffer whose first `n` places were in use, and that now begins with `new`: places that are freed hold `blank`, later ones stay
unfoldable pub renewed : List ℕ → ℕ → ℕ → List ℕ → List ℕ
renewed b n blank new = new ++ (replicate (n - length new) blank ++ drop (max n (length new)) b)
