-- Inside: no public contract cites what stands in this file, and no reader has to believe it.
-- How many bytes printing takes at most.
use Rattle.std.specs.Prelude.{ℕ, ◌+◌, ◌*◌}
use Rattle.rows.specs.Limits.{variables}
use Rattle.decimal.specs.Inside.{marked_most}

-- the span of a variable: three marks with their numbers; and the spans of all variables
abbrev pub span_most : ℕ
span_most = 3 * marked_most

abbrev pub spans_most : ℕ
spans_most = variables * span_most

-- a line: the word `at`, two numbers, the spans and the newline. The other lines are shorter.
abbrev pub line_most : ℕ
line_most = 2 + 2 * marked_most + spans_most + 1
