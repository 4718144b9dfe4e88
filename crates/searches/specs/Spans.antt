-- Inside: no public contract cites what stands in this file, and no reader has to believe it.
-- The method of the search for variables: what is written for the marks of a walk.
use Rattle.std.specs.Prelude.{ℕ, zero, suc, List, [], ◌∷◌, ◌++◌, get_or}
use Rattle.patterns.specs.Walk.{mark_begin, mark_end}

-- begin, then end, for each of the first n marks
unfoldable pub mark_spans : List ℕ → List ℕ → ℕ → List ℕ
mark_spans e ms zero = []
mark_spans e ms (suc i) = mark_spans e ms i ++ (mark_begin (get_or ms i 0) ∷ mark_end e (get_or ms i 0) ∷ [])
