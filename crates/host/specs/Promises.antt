-- The promises on the calls for C. Each is proved in proofs/Promises, under the same name in small letters.
--
-- Of catalogue files the contracts say themselves that the Rattle calls' outcomes cross as they are; a file is bytes in both.
--
-- A are arities, a is the alphabet, b the bytes that are lent for a row and what is kept beside it, q the pattern's numbers, qs and ls those of a sheet's
-- patterns and of their lengths, v in a reading of bars their numbers, w a row's, out and res the bytes of outputs, r and s are answers; in a replacement n is the row length, v the
-- replacement's numbers and p the position. ' marks what the bytes are afterwards. The contract of each exported function
-- (crates/host/src/lib.rt) says of which lent bytes these are made up.
use Rattle.std.specs.Prelude.{ℕ, ◌-◌, ◌*◌, ◌<◌, ◌≡◌, List, length, get_or, take, drop, pos, ◌-ℤ◌, ℤ, Result, ⊤}
use Rattle.rows.specs.Programme.{Alphabet, Programme, front, cut}
use Rattle.rows.specs.Tree.{IsRow, single}
use Rattle.rows.specs.Row.{symbol}
use Rattle.rows.specs.Buffers.{One}
use Rattle.rows.specs.declared.Refusal.{Refusal}
use Rattle.patterns.specs.Answers.{Listed}
use Rattle.sparrowhem.specs.Build.{Built}
use Rattle.sparrowhem.specs.Search.{Finds}
use Rattle.sparrowhem.specs.Sheet.{SheetAnswers}
use Rattle.sparrowhem.specs.Edit.{Replacement}
use Rattle.promises.specs.Demands.{Follows}
use Rattle.wire.specs.Wire.{numbers, Bytes}
use Rattle.c_lent.specs.Answer.{granted, refused, build_answer, find_answer, sheet_answer, replace_answer}
use Rattle.c_lent.specs.Lent.{Lent, AreBytes, numbers_of}
use Rattle.c_lent.specs.Calls.{BuiltBytes, FoundBytes, SheetBytes, ReplacedBytes}
use Rattle.c_lent.specs.declared.Answer.{Answer}
use Rattle.bars.specs.Calls.{ReadsBars, WritesBars}
use Rattle.c_bars.specs.Answer.{read_answer, write_answer}
use Rattle.c_bars.specs.Calls.{BarsReadBytes, BarsWrittenBytes}
use Rattle.catalogue.specs.declared.Entry.{Entry}
use Rattle.c_catalogue.specs.Answer.{refused as fileRefused}
use Rattle.c_catalogue.specs.Calls.{FileRead, FileWritten}
use Rattle.c_catalogue.specs.declared.CatalogueAnswer.{CatalogueAnswer}
use Rattle.host.specs.Runs.{StateForC, CallForC, RunForC, held_numbers, edits_for_c}

-- A refusal's number is never 0: 0 tells that a call has answered.
abbrev pub ZeroTells : Type 0
ZeroTells = (x : Refusal) → (refused x).refusal ≡ 0 → ⊥

abbrev pub ZeroTellsOfFiles : Type 0
ZeroTellsOfFiles = (x : Refusal) → (fileRefused x).refusal ≡ 0 → ⊥

-- For every input there is one outcome that the contract admits, and no other: the four numbers of the answer, and every byte of
-- the written buffers.
abbrev pub BuildForCOne : Type 0
BuildForCOne = (a : Alphabet) (b : Lent) → One {X = Answer × Lent} (λ x. BuiltBytes a b x.0 x.1)

abbrev pub FindForCOne : Type 0
FindForCOne = (a : Alphabet) (P : Programme) (q out : List ℕ) → One {X = Answer × List ℕ} (λ x. FoundBytes a P q out x.0 x.1)

abbrev pub SheetForCOne : Type 0
SheetForCOne = (a : Alphabet) (P : Programme) (qs ls out res : List ℕ)
    → One {X = Answer × List ℕ × List ℕ} (λ x. SheetBytes a P qs ls out res x.0 x.1 x.2)

abbrev pub ReplaceForCOne : Type 0
ReplaceForCOne = (a : Alphabet) (b : Lent) (n : ℕ) (v : List ℕ) (p : ℕ) → One {X = Answer × Lent} (λ x. ReplacedBytes a b n v p x.0 x.1)

abbrev pub ReadForCOne : Type 0
ReadForCOne = (f : List ℕ) (es : List Entry) → One {X = CatalogueAnswer × List Entry} (λ x. FileRead f es x.0 x.1)

abbrev pub WriteForCOne : Type 0
WriteForCOne = (A ns ls w b : List ℕ) → One {X = CatalogueAnswer × List ℕ} (λ x. FileWritten A ns ls w b x.0 x.1)

abbrev pub BarsReadForCOne : Type 0
BarsReadForCOne = (A v out : List ℕ) → One {X = Answer × List ℕ} (λ x. BarsReadBytes A v out x.0 x.1)

abbrev pub BarsWriteForCOne : Type 0
BarsWriteForCOne = (A w out : List ℕ) → One {X = Answer × List ℕ} (λ x. BarsWrittenBytes A w out x.0 x.1)

-- A call that refuses has written no byte.
abbrev pub BuildForCRefused : Type 0
BuildForCRefused = (a : Alphabet) (b : Lent) (r : Answer) (b' : Lent) → AreBytes b → BuiltBytes a b r b' → (r.refusal ≡ 0 → ⊥) → b' ≡ b

abbrev pub FindForCRefused : Type 0
FindForCRefused = (a : Alphabet) (P : Programme) (q out : List ℕ) (r : Answer) (out' : List ℕ) → Bytes out → FoundBytes a P q out r out'
    → (r.refusal ≡ 0 → ⊥) → out' ≡ out

abbrev pub SheetForCRefused : Type 0
SheetForCRefused = (a : Alphabet) (P : Programme) (qs ls out res : List ℕ) (r : Answer) (out' res' : List ℕ) → Bytes out → Bytes res
    → SheetBytes a P qs ls out res r out' res' → (r.refusal ≡ 0 → ⊥) → (out' ≡ out) × (res' ≡ res)

abbrev pub ReplaceForCRefused : Type 0
ReplaceForCRefused = (a : Alphabet) (b : Lent) (n : ℕ) (v : List ℕ) (p : ℕ) (r : Answer) (b' : Lent) → AreBytes b → ReplacedBytes a b n v p r b'
    → (r.refusal ≡ 0 → ⊥) → b' ≡ b

abbrev pub ReadForCRefused : Type 0
ReadForCRefused = (f : List ℕ) (es : List Entry) (r : CatalogueAnswer) (es' : List Entry) → FileRead f es r es' → (r.refusal ≡ 0 → ⊥) → es' ≡ es

abbrev pub WriteForCRefused : Type 0
WriteForCRefused = (A ns ls w b : List ℕ) (r : CatalogueAnswer) (b' : List ℕ) → FileWritten A ns ls w b r b' → (r.refusal ≡ 0 → ⊥) → b' ≡ b

abbrev pub BarsReadForCRefused : Type 0
BarsReadForCRefused = (A v out : List ℕ) (r : Answer) (out' : List ℕ) → Bytes out → BarsReadBytes A v out r out' → (r.refusal ≡ 0 → ⊥) → out' ≡ out

abbrev pub BarsWriteForCRefused : Type 0
BarsWriteForCRefused = (A w out : List ℕ) (r : Answer) (out' : List ℕ) → Bytes out → BarsWrittenBytes A w out r out' → (r.refusal ≡ 0 → ⊥)
    → out' ≡ out

-- WHAT CROSSES. The bytes before a call and the bytes after it, both read as numbers, are what the Rattle call is lent and what it
-- leaves, and the four numbers are those of its answer. So all that is promised of the Rattle calls (crates/promises/specs/Demands)
-- holds of the exported ones, read so. An odd last byte stays.
abbrev pub OddByteStays : List ℕ → List ℕ → Type 0
OddByteStays l l' = drop (2 * length (numbers l)) l' ≡ drop (2 * length (numbers l)) l

pub record OddBytesStay (b b' : Lent) : Type 0 where
  pub row : OddByteStays b.row b'.row
  pub table : OddByteStays b.table b'.table
  pub classes : OddByteStays b.classes b'.classes

-- build: the row's bytes stay
pub record BuiltNumbers (a : Alphabet) (b : Lent) (r : Answer) (b' : Lent) : Type 0 where
  pub outcome : Result ⊤ Refusal
  pub call : Built a (numbers_of b) outcome (numbers_of b')
  pub answer : r ≡ build_answer outcome (length (numbers_of b).row)
  pub row_stays : b'.row ≡ b.row
  pub odd : OddBytesStay b b'

abbrev pub BuildCrosses : Type 0
BuildCrosses = (a : Alphabet) (b : Lent) (r : Answer) (b' : Lent) → BuiltBytes a b r b' → BuiltNumbers a b r b'

pub record FoundNumbers (a : Alphabet) (P : Programme) (q out : List ℕ) (r : Answer) (out' : List ℕ) : Type 0 where
  pub outcome : Result ℕ Refusal
  pub call : Finds a P q (numbers out) outcome (numbers out')
  pub answer : r ≡ find_answer outcome
  pub odd : OddByteStays out out'

abbrev pub FindCrosses : Type 0
FindCrosses = (a : Alphabet) (P : Programme) (q out : List ℕ) (r : Answer) (out' : List ℕ) → FoundBytes a P q out r out' → FoundNumbers a P q out r out'

-- sheet: both outputs
pub record SheetNumbers (a : Alphabet) (P : Programme) (qs ls out res : List ℕ) (r : Answer) (out' res' : List ℕ) : Type 0 where
  pub outcome : Result (ℕ × ℕ) Refusal
  pub call : SheetAnswers a P qs ls (numbers out) (numbers res) outcome (numbers out') (numbers res')
  pub answer : r ≡ sheet_answer outcome
  pub odd : OddByteStays out out'
  pub results_odd : OddByteStays res res'

abbrev pub SheetCrosses : Type 0
SheetCrosses = (a : Alphabet) (P : Programme) (qs ls out res : List ℕ) (r : Answer) (out' res' : List ℕ)
    → SheetBytes a P qs ls out res r out' res' → SheetNumbers a P qs ls out res r out' res'

pub record ReplacedNumbers (a : Alphabet) (b : Lent) (n : ℕ) (v : List ℕ) (p : ℕ) (r : Answer) (b' : Lent) : Type 0 where
  pub outcome : Result (ℕ × ℤ) Refusal
  pub call : Replacement a (numbers_of b) n v p outcome (numbers_of b')
  pub answer : r ≡ replace_answer outcome
  pub odd : OddBytesStay b b'

abbrev pub ReplaceCrosses : Type 0
ReplaceCrosses = (a : Alphabet) (b : Lent) (n : ℕ) (v : List ℕ) (p : ℕ) (r : Answer) (b' : Lent) → ReplacedBytes a b n v p r b'
    → ReplacedNumbers a b n v p r b'

-- bars read, and bars written
pub record BarsReadNumbers (A v out : List ℕ) (r : Answer) (out' : List ℕ) : Type 0 where
  pub outcome : Result ℕ Refusal
  pub call : ReadsBars A v (numbers out) outcome (numbers out')
  pub answer : r ≡ read_answer outcome
  pub odd : OddByteStays out out'

abbrev pub BarsReadCrosses : Type 0
BarsReadCrosses = (A v out : List ℕ) (r : Answer) (out' : List ℕ) → BarsReadBytes A v out r out' → BarsReadNumbers A v out r out'

pub record BarsWrittenNumbers (A w out : List ℕ) (r : Answer) (out' : List ℕ) : Type 0 where
  pub outcome : Result ℕ Refusal
  pub call : WritesBars A w (numbers out) outcome (numbers out')
  pub answer : r ≡ write_answer outcome
  pub odd : OddByteStays out out'

abbrev pub BarsWriteCrosses : Type 0
BarsWriteCrosses = (A w out : List ℕ) (r : Answer) (out' : List ℕ) → BarsWrittenBytes A w out r out' → BarsWrittenNumbers A w out r out'

-- From an exported build that answers, after any exported replacements under one alphabet, some of them refused, the bytes hold the
-- row of the tree with the same replacements made in it, no call refuses them, and table and classes are what a fresh build gives. The bytes
-- that the run starts with hold the built row, as many numbers as build has counted, at the front, and what build left beside it.
abbrev pub RunsForC : Type 0
RunsForC = (a : Alphabet) (b : Lent) (r : Answer) (b' : Lent) → BuiltBytes a b r b' → r.refusal ≡ 0
    → (start : Lent) → numbers_of b' ≡ front r.count (numbers_of start)
    → (x : IsRow a.arities (symbol a.arities) (numbers_of b).row) (calls : List CallForC) (s : StateForC)
    → RunForC a (record { lists = start; length = r.count }) calls s
    → Follows a (held_numbers s) (edits_for_c a.arities (single x.tree) calls)

-- Putting the old subtree straight back, by the exported replace, is never refused and restores row, table and classes: into the same
-- bytes, with the length last answered and under the same alphabet, the symbols from p up to the old end.
abbrev pub PuttingBackForC : Type 0
PuttingBackForC = (a : Alphabet) (b : Lent) (n : ℕ) (v : List ℕ) (p : ℕ) (r : Answer) (b₁ : Lent) (s : Answer) (b₂ : Lent)
    → ReplacedBytes a b n v p r b₁ → r.refusal ≡ 0
    → ReplacedBytes a b₁ r.count (take (get_or (numbers_of b).table p 0 - p) (drop p (numbers_of b).row)) p s b₂
    → (s ≡ granted n (pos n -ℤ pos r.count)) × (cut n (numbers_of b₂) ≡ cut n (numbers_of b))

-- The exported find, with the bytes of an exported build that answered, is never refused for the alphabet, the row, the table or
-- the classes (1 to 10 and 62), and lists exactly the matches: the first numbers of the output, as many as it counts; later numbers stay.
pub record FindsBuilt (a : Alphabet) (w q out : List ℕ) (r : Answer) (out' : List ℕ) : Type 0 where
  pub later_refusal : 0 < r.refusal → (10 < r.refusal) × (r.refusal ≡ 62 → ⊥)
  pub listed : r.refusal ≡ 0 → Listed a w q (length w) (take r.count (numbers out'))
  pub counted : r.refusal ≡ 0 → length (take r.count (numbers out')) ≡ r.count
  pub later : r.refusal ≡ 0 → drop r.count (numbers out') ≡ drop r.count (numbers out)

abbrev pub FindAfterBuildForC : Type 0
FindAfterBuildForC = (a : Alphabet) (b : Lent) (r : Answer) (b' : Lent) → BuiltBytes a b r b' → r.refusal ≡ 0
    → (q out : List ℕ) (s : Answer) (out' : List ℕ) → FoundBytes a (numbers_of b') q out s out' → FindsBuilt a (numbers_of b).row q out s out'
