-- The numbers of refusals are from 1 to 102.
-- Assumes nothing.
use Prim.Native.Nat.{ℕ, ◌≤◌, ◌<◌}
use native.Mathlib.Omega.{arith}
use Rattle.refusal_numbers.specs.Numbers.{alphabet_number, row_number, pattern_number, replacement_number, kept_number, on_record_number, text_number, catalogue_number, bars_number, number}
use Rattle.rows.specs.declared.Fault.{Fault}
use Rattle.rows.specs.declared.Fault.TheVariants.{Empty, Long, Stray, Early, Extra}
use Rattle.rows.specs.declared.Arities.{Arities as Alphabet}
use Rattle.rows.specs.declared.Arities.TheVariants.{Count, Over, NoLeaf}
use Rattle.rows.specs.declared.Kept.{Kept}
use Rattle.rows.specs.declared.Kept.TheVariants.{Misread, Short, Stale, Misclassed}
use Rattle.rows.specs.declared.Text.{Text}
use Rattle.rows.specs.declared.Text.TheVariants.{Line, Bytes}
use Rattle.rows.specs.declared.CatalogueFault.{CatalogueFault}
use Rattle.rows.specs.declared.CatalogueFault.TheVariants.{Long as LongFile, Short as ShortFile, Programmes, NotRising, Misplaced, LeftOver}
use Rattle.rows.specs.declared.BarsFault.{BarsFault}
use Rattle.rows.specs.declared.BarsFault.TheVariants.{NothingOpen, Children, Unclosed}
use Rattle.rows.specs.declared.Refusal.{Refusal}
use Rattle.rows.specs.declared.Refusal.TheVariants.{Arities, Row, OnRecord, Pattern, Replacement, Position, TooLong, OutputShort, Input, SheetSize, SheetSum, Catalogue, Bars, Programme}

abbrev pub Few : ℕ → Type 0
Few n = (0 < n) × (n ≤ 102)

alphabet-few : (f : Alphabet) → Few (alphabet_number f)
alphabet-few (Count n) = omega arith
alphabet-few (Over s) = omega arith
alphabet-few NoLeaf = omega arith

fault_few : (f : Fault) → ((0 < row_number f) × (row_number f ≤ 10)) × Few (pattern_number f) × Few (replacement_number f)
fault_few Empty = omega arith
fault_few (Long n) = omega arith
fault_few (Stray p) = omega arith
fault_few (Early n) = omega arith
fault_few (Extra p) = omega arith

kept-few : (k : Kept) → (0 < kept_number k) × (kept_number k ≤ 62)
kept-few (Misread f) = omega (arith, (fault_few f).0)
kept-few (Short n) = omega arith
kept-few (Stale p) = omega arith
kept-few (Misclassed p) = omega arith

text_few : (f : Text) → Few (text_number f)
text_few (Line k) = omega arith
text_few Bytes = omega arith

catalogue_few : (f : CatalogueFault) → Few (catalogue_number f)
catalogue_few (LongFile n) = omega arith
catalogue_few (ShortFile n) = omega arith
catalogue_few (Programmes n) = omega arith
catalogue_few (NotRising p) = omega arith
catalogue_few (Misplaced p) = omega arith
catalogue_few (LeftOver p) = omega arith

bars_few : (f : BarsFault) → Few (bars_number f)
bars_few (NothingOpen p) = omega arith
bars_few (Children p) = omega arith
bars_few (Unclosed n) = omega arith

pub number-few : (r : Refusal) → Few (number r)
unfolding on_record_number
number-few (Arities f) = alphabet-few f
number-few (Row k) = omega (arith, kept-few k)
number-few (OnRecord k) = omega (arith, kept-few k)
number-few (Pattern f) = (fault_few f).1
number-few (Replacement f) = (fault_few f).2
number-few (Position p) = omega arith
number-few (TooLong n) = omega arith
number-few (OutputShort n) = omega arith
number-few (Input f) = text_few f
number-few (SheetSize n) = omega arith
number-few (SheetSum m) = omega arith
number-few (Catalogue f) = catalogue_few f
number-few (Bars f) = bars_few f
number-few (Programme n f) = omega (arith, (fault_few f).0)
