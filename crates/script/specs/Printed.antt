-- Inside: no public contract cites what stands in this file, and no reader has to believe it.
-- What a case answers, as text: bytes in ASCII. 32 is a space, 10 a newline.
use Rattle.std.specs.Prelude.{ℕ, List, [], ◌∷◌, ◌++◌, decimal, flat_map}

-- a number, and a space before it
abbrev pub number_text : ℕ → List ℕ
number_text n = 32 ∷ decimal n

-- the numbers of a list, and the end of their line
abbrev pub numbers_text : List ℕ → List ℕ
numbers_text xs = flat_map number_text xs ++ (10 ∷ [])
