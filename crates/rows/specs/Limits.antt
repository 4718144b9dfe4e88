-- The sizes within which everything is accepted, and the numbers with a meaning of their own. Each stands here once, and in
-- crates/rows/src/lib.rt.
use Rattle.std.specs.Prelude.{ℕ}

-- the most symbols of an alphabet, and the largest arity
abbrev pub alphabet_most : ℕ
alphabet_most = 1024

abbrev pub arity_most : ℕ
arity_most = 15

-- the most symbols of a row or a replacement, and the most numbers of a pattern
abbrev pub row_most : ℕ
row_most = 16384

abbrev pub pattern_most : ℕ
pattern_most = 256

-- the most patterns of a sheet, and how many numbers are answered for each
abbrev pub sheet_most : ℕ
sheet_most = 64

abbrev pub result_places : ℕ
result_places = 3

-- the most programmes of a catalogue, and the most bytes of its file
abbrev pub programmes_most : ℕ
programmes_most = 256

abbrev pub file_most : ℕ
file_most = 65536

-- the most numbers of a bar form
abbrev pub bars_most : ℕ
bars_most = 32768

-- the blank S; the variable X0, and how many variables there are
abbrev pub blank : ℕ
blank = 65535

abbrev pub first_variable : ℕ
first_variable = 65280

abbrev pub variables : ℕ
variables = 16

-- the bar that closes a node in bar notation
abbrev pub bar : ℕ
bar = 65534

-- begin and end of each variable
abbrev pub span_places : ℕ
span_places = 32

-- what freed places hold: in the row, in the table, in the classes
abbrev pub freed_symbol : ℕ
freed_symbol = 65535

abbrev pub freed_entry : ℕ
freed_entry = 0

abbrev pub freed_class : ℕ
freed_class = 0
