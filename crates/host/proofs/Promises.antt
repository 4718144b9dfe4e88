-- The promises of specs/Promises, each with its proof: from those on the Rattle calls.
-- Assumes nothing.
use Rattle.std.specs.Prelude.{ℤ, Result, Ok, Err, ⊤}
use Prim.Native.Nat.{ℕ, ◌-◌, ◌<◌}
use mathlib.Core.Path.{◌≡◌, refl, sym, ap, ◌∙◌, subst}
use mathlib.Core.Bool.{Bool, true, false}
use mathlib.Core.List.{List}
use native.Mathlib.Omega.{arith}
use lib.Dec.{ltb}
use lib.IntN.{pos, ◌-ℤ◌}
use lib.ListN.{length, get_or, take, drop}
use lib.Seq.{take-length}
use Rattle.rows.specs.Programme.{Alphabet, Programme, programme, front}
use Rattle.rows.specs.Tree.{single}
use Rattle.rows.specs.Row.{pick, reading}
use Rattle.rows.specs.Limits.{pattern_most}
use Rattle.rows.specs.Buffers.{written}
use Rattle.rows.specs.Refusals.{◌then◌, as_pattern, given, pattern, output}
use Rattle.rows.specs.declared.Leaves.TheVariants.{Blanks}
use Rattle.rows.specs.declared.Fault.{Fault}
use Rattle.rows.specs.declared.Fault.TheVariants.{Empty, Long, Stray, Early, Extra}
use Rattle.rows.specs.declared.Refusal.{Refusal}
use Rattle.rows.specs.declared.Refusal.TheVariants.{Pattern, OutputShort}
use Rattle.rows.proofs.Passing.{clash}
use Rattle.refusal_numbers.specs.Numbers.{number, place, pattern_number}
use Rattle.patterns.specs.Answers.{Listed}
use Rattle.checks.specs.Checks.{search_check, find_check}
use Rattle.sparrowhem.specs.Said.{check_said, found_said, replaced_said}
use Rattle.sparrowhem.specs.Build.{Built}
use Rattle.sparrowhem.specs.Search.{found, Finds}
use Rattle.sparrowhem.specs.Sheet.{SheetAnswers}
use Rattle.sparrowhem.specs.Edit.{Replacement}
use Rattle.promises.specs.Demands.{Follows}
use Rattle.promises.proofs.Said.{done_said}
use Rattle.promises.proofs.Calls.{build_kept, find_kept}
use Rattle.promises.proofs.Holding.{built-holds, stayed}
use Rattle.promises.proofs.Demand1.{pair, build_one, find_one, replace_one}
use Rattle.promises.proofs.Demand2.{find_lists}
use Rattle.promises.proofs.Sheeting.{sheet_one, sheet_refused}
use Rattle.promises.proofs.Demand3.{after_run, putting_back}
use Rattle.promises.proofs.Catalogues.{read_one, write_one, read_refused, write_refused}
use Rattle.promises.proofs.Bars.{bars_read_one, bars_write_one, bars_read_refused, bars_write_refused}
use Rattle.wire.specs.Wire.{numbers, bytes_of}
use Rattle.wire.proofs.Numbers.{write_read}
use Rattle.bars.specs.Calls.{ReadsBars, WritesBars}
use Rattle.c_bars.specs.Answer.{read_answer as barsReadAnswer, write_answer as barsWriteAnswer}
use Rattle.catalogue.specs.declared.Entry.{Entry}
use Rattle.catalogue_read.specs.Answers.{Reads}
use Rattle.catalogue_read.specs.declared.Opened.{Opened}
use Rattle.catalogue_write.specs.Answers.{Writes}
use Rattle.c_catalogue.specs.Answer.{read_answer, write_answer}
use Rattle.c_catalogue.specs.declared.CatalogueAnswer.{CatalogueAnswer}
use Rattle.c_lent.specs.Answer.{build_answer, find_answer, sheet_answer, replace_answer}
use Rattle.c_lent.specs.Lent.{Lent, numbers_of, beside, rewritten}
use Rattle.c_lent.specs.declared.Answer.{Answer}
use Rattle.c_lent.proofs.Lists.{beside_same, rewritten_same}
use Rattle.host.specs.Runs.{held_numbers}
use Rattle.host.specs.Promises.{ZeroTells, ZeroTellsOfFiles, BuildForCOne, FindForCOne, SheetForCOne, ReplaceForCOne, ReadForCOne, WriteForCOne, BarsReadForCOne, BarsWriteForCOne, BuildForCRefused, FindForCRefused, SheetForCRefused, ReplaceForCRefused, ReadForCRefused, WriteForCRefused, BarsReadForCRefused, BarsWriteForCRefused, FoundNumbers, BuildCrosses, FindCrosses, SheetCrosses, ReplaceCrosses, BarsReadCrosses, BarsWriteCrosses, RunsForC, PuttingBackForC, FindAfterBuildForC}
use Rattle.host.proofs.Crossing as crossing
use Rattle.host.proofs.Running.{refusal_tells, build_answered, find_answered, replace_answered, run_crosses}

pub zero_tells : ZeroTells
zero_tells = refusal_tells

pub zero_tells_of_files : ZeroTellsOfFiles
zero_tells_of_files = refusal_tells

-- ---- one outcome

pub build_for_c_one : BuildForCOne
build_for_c_one a b =
    let P : Programme = numbers_of b in
    let one = build_one a P in
    let say : (Result ⊤ Refusal) × Programme → Answer × Lent = λ x. (build_answer x.0 (length P.row), beside b x.1) in
    record {
      some = say one.some;
      holds = record { outcome = one.some.0; left = one.some.1; call = one.holds; answer = refl; bytes = refl };
      only = λ x c. pair x (say (c.outcome, c.left)) (c.answer, c.bytes) ∙ ap say (one.only (c.outcome, c.left) c.call);
    }

pub find_for_c_one : FindForCOne
find_for_c_one a P q out =
    let one = find_one a P q (numbers out) in
    let say : (Result ℕ Refusal) × List ℕ → Answer × List ℕ = λ x. (find_answer x.0, written out 0 (bytes_of x.1)) in
    record {
      some = say one.some;
      holds = record { outcome = one.some.0; left = one.some.1; call = one.holds; answer = refl; bytes = refl };
      only = λ x c. pair x (say (c.outcome, c.left)) (c.answer, c.bytes) ∙ ap say (one.only (c.outcome, c.left) c.call);
    }

pub sheet_for_c_one : SheetForCOne
sheet_for_c_one a P qs ls out res =
    let one = sheet_one a P qs ls (numbers out) (numbers res) in
    let say : (Result (ℕ × ℕ) Refusal) × List ℕ × List ℕ → Answer × List ℕ × List ℕ = λ x. (sheet_answer x.0, written out 0 (bytes_of x.1), written res 0 (bytes_of x.2)) in
    record {
      some = say one.some;
      holds = record { outcome = one.some.0; left = one.some.1; results_left = one.some.2; call = one.holds; answer = refl; bytes = refl; result-bytes = refl };
      only = λ x c. (λ i. (c.answer i, c.bytes i, c.result-bytes i)) ∙ ap say (one.only (c.outcome, c.left, c.results_left) c.call);
    }

pub replace_for_c_one : ReplaceForCOne
replace_for_c_one a b n v p =
    let one = replace_one a (numbers_of b) n v p in
    let say : (Result (ℕ × ℤ) Refusal) × Programme → Answer × Lent = λ x. (replace_answer x.0, rewritten b x.1) in
    record {
      some = say one.some;
      holds = record { outcome = one.some.0; left = one.some.1; call = one.holds; answer = refl; bytes = refl };
      only = λ x c. pair x (say (c.outcome, c.left)) (c.answer, c.bytes) ∙ ap say (one.only (c.outcome, c.left) c.call);
    }

pub read_for_c_one : ReadForCOne
read_for_c_one f es =
    let one = read_one f es in
    let say : Result Opened Refusal × List Entry → CatalogueAnswer × List Entry = λ x. (read_answer x.0, x.1) in
    record {
      some = say one.some;
      holds = record { outcome = one.some.0; call = one.holds; answer = refl };
      only = λ x c. pair x (say (c.outcome, x.1)) (c.answer, refl) ∙ ap say (one.only (c.outcome, x.1) c.call);
    }

pub write_for_c_one : WriteForCOne
write_for_c_one A ns ls w b =
    let one = write_one A ns ls w b in
    let say : (Result ℕ Refusal) × List ℕ → CatalogueAnswer × List ℕ = λ x. (write_answer x.0, x.1) in
    record {
      some = say one.some;
      holds = record { outcome = one.some.0; call = one.holds; answer = refl };
      only = λ x c. pair x (say (c.outcome, x.1)) (c.answer, refl) ∙ ap say (one.only (c.outcome, x.1) c.call);
    }

pub bars_read_for_c_one : BarsReadForCOne
bars_read_for_c_one A v out =
    let one = bars_read_one A v (numbers out) in
    let say : (Result ℕ Refusal) × List ℕ → Answer × List ℕ = λ x. (barsReadAnswer x.0, written out 0 (bytes_of x.1)) in
    record {
      some = say one.some;
      holds = record { outcome = one.some.0; left = one.some.1; call = one.holds; answer = refl; bytes = refl };
      only = λ x c. pair x (say (c.outcome, c.left)) (c.answer, c.bytes) ∙ ap say (one.only (c.outcome, c.left) c.call);
    }

pub bars_write_for_c_one : BarsWriteForCOne
bars_write_for_c_one A w out =
    let one = bars_write_one A w (numbers out) in
    let say : (Result ℕ Refusal) × List ℕ → Answer × List ℕ = λ x. (barsWriteAnswer x.0, written out 0 (bytes_of x.1)) in
    record {
      some = say one.some;
      holds = record { outcome = one.some.0; left = one.some.1; call = one.holds; answer = refl; bytes = refl };
      only = λ x c. pair x (say (c.outcome, c.left)) (c.answer, c.bytes) ∙ ap say (one.only (c.outcome, c.left) c.call);
    }

-- ---- refusals

pub build_for_c_refused : BuildForCRefused
build_for_c_refused a b r b' small c not = go c.outcome c.call c.answer
  where
    go : (o : Result ⊤ Refusal) → Built a (numbers_of b) o c.left → r ≡ build_answer o (length (numbers_of b).row) → b' ≡ b
    go (Ok _) d e = absurd (not (ap (λ (x : Answer). x.refusal) e))
    go (Err x) d e = c.bytes ∙ ap (beside b) (build_kept a (numbers_of b) x c.left d) ∙ beside_same b small.table small.classes

pub find_for_c_refused : FindForCRefused
find_for_c_refused a P q out r out' small c not = go c.outcome c.call c.answer
  where
    go : (o : Result ℕ Refusal) → Finds a P q (numbers out) o c.left → r ≡ find_answer o → out' ≡ out
    go (Ok n) d e = absurd (not (ap (λ (x : Answer). x.refusal) e))
    go (Err x) d e =
        c.bytes ∙ ap (λ (l : List ℕ). written out 0 (bytes_of l)) (find_kept a P q (numbers out) x c.left d) ∙ write_read out small

pub sheet_for_c_refused : SheetForCRefused
sheet_for_c_refused a P qs ls out res r out' res' small small-results c not = go c.outcome c.call c.answer
  where
    go : (o : Result (ℕ × ℕ) Refusal) → SheetAnswers a P qs ls (numbers out) (numbers res) o c.left c.results_left → r ≡ sheet_answer o → (out' ≡ out) × (res' ≡ res)
    go (Ok (n, m)) d e = absurd (not (ap (λ (x : Answer). x.refusal) e))
    go (Err x) d e =
        let kept = sheet_refused a P qs ls (numbers out) (numbers res) (Err x) c.left c.results_left d (number x) (place x) refl in (
          c.bytes ∙ ap (λ (l : List ℕ). written out 0 (bytes_of l)) kept.0 ∙ write_read out small,
          c.result-bytes ∙ ap (λ (l : List ℕ). written res 0 (bytes_of l)) kept.1 ∙ write_read res small-results,
        )

pub replace_for_c_refused : ReplaceForCRefused
replace_for_c_refused a b n v p r b' small c not = go c.outcome c.call c.answer
  where
    go : (o : Result (ℕ × ℤ) Refusal) → Replacement a (numbers_of b) n v p o c.left → r ≡ replace_answer o → b' ≡ b
    go (Ok (m, d)) o e = absurd (not (ap (λ (x : Answer). x.refusal) e))
    go (Err x) o e = c.bytes ∙ ap (rewritten b) (stayed a (numbers_of b) n v p c.left x o) ∙ rewritten_same b small

pub read_for_c_refused : ReadForCRefused
read_for_c_refused f es r es' c not = go c.outcome c.call c.answer
  where
    go : (o : Result Opened Refusal) → Reads f es o es' → r ≡ read_answer o → es' ≡ es
    go (Ok o) d e = absurd (not (ap (λ (x : CatalogueAnswer). x.refusal) e))
    go (Err x) d e = read_refused f es x es' d

pub write_for_c_refused : WriteForCRefused
write_for_c_refused A ns ls w b r b' c not = go c.outcome c.call c.answer
  where
    go : (o : Result ℕ Refusal) → Writes A ns ls w b o b' → r ≡ write_answer o → b' ≡ b
    go (Ok n) d e = absurd (not (ap (λ (x : CatalogueAnswer). x.refusal) e))
    go (Err x) d e = write_refused A ns ls w b x b' d

pub bars_read_for_c_refused : BarsReadForCRefused
bars_read_for_c_refused A v out r out' small c not = go c.outcome c.call c.answer
  where
    go : (o : Result ℕ Refusal) → ReadsBars A v (numbers out) o c.left → r ≡ barsReadAnswer o → out' ≡ out
    go (Ok n) d e = absurd (not (ap (λ (x : Answer). x.refusal) e))
    go (Err x) d e =
        c.bytes ∙ ap (λ (l : List ℕ). written out 0 (bytes_of l)) (bars_read_refused A v (numbers out) x c.left d) ∙ write_read out small

pub bars_write_for_c_refused : BarsWriteForCRefused
bars_write_for_c_refused A w out r out' small c not = go c.outcome c.call c.answer
  where
    go : (o : Result ℕ Refusal) → WritesBars A w (numbers out) o c.left → r ≡ barsWriteAnswer o → out' ≡ out
    go (Ok n) d e = absurd (not (ap (λ (x : Answer). x.refusal) e))
    go (Err x) d e =
        c.bytes ∙ ap (λ (l : List ℕ). written out 0 (bytes_of l)) (bars_write_refused A w (numbers out) x c.left d) ∙ write_read out small

-- ---- what crosses

pub build_crosses : BuildCrosses
build_crosses = crossing.build_crosses

pub find_crosses : FindCrosses
find_crosses = crossing.find_crosses

pub sheet_crosses : SheetCrosses
sheet_crosses = crossing.sheet_crosses

pub replace_crosses : ReplaceCrosses
replace_crosses = crossing.replace_crosses

pub bars_read_crosses : BarsReadCrosses
bars_read_crosses = crossing.bars_read_crosses

pub bars_write_crosses : BarsWriteCrosses
bars_write_crosses = crossing.bars_write_crosses

-- ---- what is promised of the Rattle calls, of these

pub runs_for_c : RunsForC
runs_for_c a b r b' c zero start is x calls s run =
    let built = build_crosses a b r b' c in
    let told = build_answered built.outcome (length (numbers_of b).row) r built.answer zero in
    let over-numbers = run_crosses a calls (record { lists = start; length = r.count }) s run in
    subst (Follows a (held_numbers s)) (over-numbers.tree a.arities (single x.tree))
    (after_run a (numbers_of b) built.outcome (numbers_of start) r.count (subst (Built a (numbers_of b) built.outcome) is built.call) (ap check_said told.0) (sym told.1) x over-numbers.these (held_numbers s) over-numbers.run)

pub putting_back_for_c : PuttingBackForC
putting_back_for_c a b n v p r b₁ s b₂ c zero d =
    let first = replace_crosses a b n v p r b₁ c in
    let old : List ℕ = take (get_or (numbers_of b).table p 0 - p) (drop p (numbers_of b).row) in
    let second = replace_crosses a b₁ r.count old p s b₂ d in
    let told = replace_answered first.outcome r first.answer zero in
    let back = putting_back a (numbers_of b) n v p r.count told.0 first.outcome (numbers_of b₁) second.outcome (numbers_of b₂) first.call (ap replaced_said told.1) second.call in
    (second.answer ∙ ap replace_answer (done_said second.outcome n (pos n -ℤ pos r.count) back.0), back.1)

-- a refusal that comes after 1 to 10 and 62 have found nothing has a later number
abbrev Later : ℕ → Type 0
Later k = (10 < k) × (k ≡ 62 → ⊥)

pattern_later : (f : Fault) → Later (pattern_number f)
pattern_later Empty = (omega arith, λ e. omega arith)
pattern_later (Long n) = (omega arith, λ e. omega arith)
pattern_later (Stray p) = (omega arith, λ e. omega arith)
pattern_later (Early n) = (omega arith, λ e. omega arith)
pattern_later (Extra p) = (omega arith, λ e. omega arith)

later : (v : Result ⊤ Fault) (n m : ℕ) (x : Refusal) → (as_pattern v then output n m) ≡ Err x → Later (number x)
unfolding output
later (Err f) n m x e = let same : Pattern f ≡ x = cc in subst (λ (y : Refusal). Later (number y)) same (pattern_later f)
later (Ok _) n m x e = go (ltb m n) e
  where
    go : (b : Bool) → pick {X = Result ⊤ Refusal} b (Err (OutputShort n)) (Ok tt) ≡ Err x → Later (number x)
    go true z = let same : OutputShort n ≡ x = cc in subst (λ (y : Refusal). Later (number y)) same (omega arith, λ e. omega arith)
    go false z = absurd (clash (Ok tt) x refl z)

refused_later : (a : Alphabet) (P : Programme) (q y : List ℕ) (o : Result ℕ Refusal) (y' : List ℕ) → given a P (length P.row) ≡ Ok tt → Finds a P q y o y'
    → 0 < (find_answer o).refusal → Later (find_answer o).refusal
unfolding find_check search_check pattern
refused_later a P q y (Ok n) y' e f h = absurd (omega arith)
refused_later a P q y (Err x) y' e f h =
    let ps : List ℕ = f.positions in
    let v : (Result ⊤ Fault) = reading a.arities Blanks pattern_most q in
    let check : find_check a P q (length ps) (length y) ≡ as_pattern v then output (length ps) (length y) =
    ap (λ (c : Result ⊤ Refusal). (c then as_pattern v) then output (length ps) (length y)) e in
    go (as_pattern v then output (length ps) (length y)) (f.answer ∙ ap (λ (c : Result ⊤ Refusal). found c (length ps)) check) (later v (length ps) (length y) x)
  where
    go : (c : Result ⊤ Refusal) → Err x ≡ found c (length f.positions) → (c ≡ Err x → Later (number x)) → Later (number x)
    go (Ok _) is l = let z : ◌≡◌ {A = ℕ} 0 1 = cc in absurd (omega arith)
    go (Err z) is l = let same : z ≡ x = cc in l (ap Err same)

-- what build leaves is refused by no call
built-given : (a : Alphabet) (T P : Programme) → Built a T (Ok tt) P → P.row ≡ T.row → given a P (length P.row) ≡ Ok tt
built-given a T P b row_is =
    let n : ℕ = length P.row in
    let same : front n P ≡ P = ap (λ (l : List ℕ). programme l P.table P.classes) (take-length P.row) in
    (built-holds a T P n (subst (Built a T (Ok tt)) (sym same) b) (ap length (sym row_is))).fine

-- an answer to find, on the numbers
lists_all : (a : Alphabet) (P : Programme) (q out : List ℕ) (s : Answer) (out' : List ℕ) → FoundNumbers a P q out s out' → s.refusal ≡ 0
    → Listed a P.row q (length P.row) (take s.count (numbers out'))
    × (length (take s.count (numbers out')) ≡ s.count)
    × (drop s.count (numbers out') ≡ drop s.count (numbers out))
lists_all a P q out s out' f z =
    find_lists a P q (numbers out) s.count f.outcome (numbers out') f.call (ap found_said (find_answered f.outcome s f.answer z))

pub find_after_build_for_c : FindAfterBuildForC
find_after_build_for_c a b r b' c zero q out s out' d =
    let built = build_crosses a b r b' c in
    let finds = find_crosses a (numbers_of b') q out s out' d in
    let told = build_answered built.outcome (length (numbers_of b).row) r built.answer zero in
    let row_is : (numbers_of b').row ≡ (numbers_of b).row = ap numbers built.row_stays in
    let fine = built-given a (numbers_of b) (numbers_of b') (subst (λ (o : Result ⊤ Refusal). Built a (numbers_of b) o (numbers_of b')) told.0 built.call) row_is in
    record {
      later_refusal = subst (λ (x : Answer). 0 < x.refusal → Later x.refusal) (sym finds.answer) (refused_later a (numbers_of b') q (numbers out) finds.outcome (numbers out') fine finds.call);
      listed = λ z. subst (λ (w : List ℕ). Listed a w q (length w) (take s.count (numbers out'))) row_is (lists_all a (numbers_of b') q out s out' finds z).0;
      counted = λ z. (lists_all a (numbers_of b') q out s out' finds z).1;
      later = λ z. (lists_all a (numbers_of b') q out s out' finds z).2;
    }
