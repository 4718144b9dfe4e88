-- The number and the place of each refusal.
use Rattle.std.specs.Prelude.{ℕ, ◌+◌}
use Rattle.rows.specs.declared.Fault.{Fault}
use Rattle.rows.specs.declared.Fault.TheVariants.{Empty, Long, Stray, Early, Extra}
use Rattle.rows.specs.declared.Arities.{Arities as Alphabet}
use Rattle.rows.specs.declared.Arities.TheVariants.{Count, Over, NoLeaf}
use Rattle.rows.specs.declared.Kept.{Kept}
use Rattle.rows.specs.declared.Kept.TheVariants.{Misread, Short, Stale, Misclassed}
use Rattle.rows.specs.declared.Text.{Text}
use Rattle.rows.specs.declared.Text.TheVariants.{Line, Bytes}
use Rattle.rows.specs.declared.CatalogueFault.{CatalogueFault}
use Rattle.rows.specs.declared.CatalogueFault.TheVariants.{Long as LongFile, Short as ShortFile, Programmes, NotRising, Misplaced, LeftOver}
use Rattle.rows.specs.declared.BarsFault.{BarsFault}
use Rattle.rows.specs.declared.BarsFault.TheVariants.{NothingOpen, Children, Unclosed}
use Rattle.rows.specs.declared.Refusal.{Refusal}
use Rattle.rows.specs.declared.Refusal.TheVariants.{Arities, Row, OnRecord, Pattern, Replacement, Position, TooLong, OutputShort, Input, SheetSize, SheetSum, Catalogue, Bars, Programme}

-- a fault of an alphabet
abbrev pub alphabet_number : Alphabet → ℕ
alphabet_number (Count n) = 1
alphabet_number (Over s) = 2
alphabet_number NoLeaf = 3

abbrev pub alphabet_place : Alphabet → ℕ
alphabet_place (Count n) = n
alphabet_place (Over s) = s
alphabet_place NoLeaf = 0

-- a fault in the reading of a list, by the numbers of the five; of a row; of a pattern; of a replacement
abbrev pub fault_number : (empty long stray early extra : ℕ) → Fault → ℕ
fault_number empty long stray early extra Empty = empty
fault_number empty long stray early extra (Long n) = long
fault_number empty long stray early extra (Stray p) = stray
fault_number empty long stray early extra (Early n) = early
fault_number empty long stray early extra (Extra p) = extra

abbrev pub row_number : Fault → ℕ
row_number f = fault_number 4 5 7 8 9 f

abbrev pub pattern_number : Fault → ℕ
pattern_number f = fault_number 11 12 13 14 15 f

abbrev pub replacement_number : Fault → ℕ
replacement_number f = fault_number 24 25 27 28 29 f

abbrev pub fault_place : Fault → ℕ
fault_place Empty = 0
fault_place (Long n) = n
fault_place (Stray p) = p
fault_place (Early n) = n
fault_place (Extra p) = p

-- a fault of a row with what is kept beside it
abbrev pub kept_number : Kept → ℕ
kept_number (Misread f) = row_number f
kept_number (Short n) = 6
kept_number (Stale p) = 10
kept_number (Misclassed p) = 62

-- of the row on record: 40 more
unfoldable pub on_record_number : Kept → ℕ
on_record_number k = 40 + kept_number k

abbrev pub kept_place : Kept → ℕ
kept_place (Misread f) = fault_place f
kept_place (Short n) = n
kept_place (Stale p) = p
kept_place (Misclassed p) = p

-- a fault in the input of a program
abbrev pub text_number : Text → ℕ
text_number (Line k) = 60
text_number Bytes = 61

abbrev pub text_place : Text → ℕ
text_place (Line k) = k
text_place Bytes = 65536

-- a fault of a catalogue or of its file
abbrev pub catalogue_number : CatalogueFault → ℕ
catalogue_number (LongFile n) = 66
catalogue_number (ShortFile n) = 65
catalogue_number (Programmes n) = 88
catalogue_number (NotRising p) = 67
catalogue_number (Misplaced p) = 68
catalogue_number (LeftOver p) = 69

abbrev pub catalogue_place : CatalogueFault → ℕ
catalogue_place (LongFile n) = n
catalogue_place (ShortFile n) = n
catalogue_place (Programmes n) = n
catalogue_place (NotRising p) = p
catalogue_place (Misplaced p) = p
catalogue_place (LeftOver p) = p

-- a fault in bar notation
abbrev pub bars_number : BarsFault → ℕ
bars_number (NothingOpen p) = 70
bars_number (Children p) = 71
bars_number (Unclosed n) = 72

abbrev pub bars_place : BarsFault → ℕ
bars_place (NothingOpen p) = p
bars_place (Children p) = p
bars_place (Unclosed n) = n

-- the number of a refusal
abbrev pub number : Refusal → ℕ
number (Arities f) = alphabet_number f
number (Row k) = kept_number k
number (OnRecord k) = on_record_number k
number (Pattern f) = pattern_number f
number (Replacement f) = replacement_number f
number (Position p) = 17
number (TooLong n) = 18
number (OutputShort n) = 19
number (Input f) = text_number f
number (SheetSize n) = 63
number (SheetSum m) = 64
number (Catalogue f) = catalogue_number f
number (Bars f) = bars_number f
number (Programme n f) = row_number f

-- its place
abbrev pub place : Refusal → ℕ
place (Arities f) = alphabet_place f
place (Row k) = kept_place k
place (OnRecord k) = kept_place k
place (Pattern f) = fault_place f
place (Replacement f) = fault_place f
place (Position p) = p
place (TooLong n) = n
place (OutputShort n) = n
place (Input f) = text_place f
place (SheetSize n) = n
place (SheetSum m) = m
place (Catalogue f) = catalogue_place f
place (Bars f) = bars_place f
place (Programme n f) = fault_place f

-- the number of the programme beside it: of a row's fault in a catalogue, else 0
abbrev pub programme : Refusal → ℕ
programme (Arities f) = 0
programme (Row k) = 0
programme (OnRecord k) = 0
programme (Pattern f) = 0
programme (Replacement f) = 0
programme (Position p) = 0
programme (TooLong n) = 0
programme (OutputShort n) = 0
programme (Input f) = 0
programme (SheetSize n) = 0
programme (SheetSum m) = 0
programme (Catalogue f) = 0
programme (Bars f) = 0
programme (Programme n f) = n
