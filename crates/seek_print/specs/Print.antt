-- The answer of `seek` as text: bytes in ASCII. 32 is a space, 10 a newline, 58 a colon, 45 a dash.
use Rattle.std.specs.Prelude.{ℕ, zero, suc, ◌+◌, List, [], ◌∷◌, ◌++◌, eqb, get_or}
use Rattle.rows.specs.Limits.{variables}
use Rattle.rows.specs.Row.{pick}
use Rattle.refusal_numbers.specs.Numbers.{number, place}
use Rattle.rows.specs.declared.Refusal.{Refusal}
use Rattle.decimal.specs.Lines.{numeral}

-- `refused N P`
unfoldable pub refusal_text : Refusal → List ℕ
refusal_text r =
    (114 ∷ 101 ∷ 102 ∷ 117 ∷ 115 ∷ 101 ∷ 100 ∷ [])
    ++ ((32 ∷ numeral (number r)) ++ ((32 ∷ numeral (place r)) ++ (10 ∷ [])))

-- `matches K`
unfoldable pub count_text : ℕ → List ℕ
count_text k = (109 ∷ 97 ∷ 116 ∷ 99 ∷ 104 ∷ 101 ∷ 115 ∷ []) ++ ((32 ∷ numeral k) ++ (10 ∷ []))

-- ` V:B-E` for variable v with the span from b to e; nothing if the pattern lacks the variable: its span is then 0, 0
unfoldable pub span_text : ℕ → ℕ → ℕ → List ℕ
span_text v b e = pick (eqb e 0) [] ((32 ∷ numeral v) ++ ((58 ∷ numeral b) ++ (45 ∷ numeral e)))

-- the spans of the variables below n, rising: s holds begin, then end, of X0, then of X1 and so on
unfoldable pub spans_text : List ℕ → ℕ → List ℕ
spans_text s zero = []
spans_text s (suc v) = spans_text s v ++ span_text v (get_or s (v + v) 0) (get_or s (v + v + 1) 0)

-- `at P E`, and the spans of the variables that the pattern has
unfoldable pub match_text : ℕ → ℕ → List ℕ → List ℕ
match_text p e s = (97 ∷ 116 ∷ []) ++ ((32 ∷ numeral p) ++ ((32 ∷ numeral e) ++ (spans_text s variables ++ (10 ∷ []))))
