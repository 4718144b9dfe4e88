-- What specs/Demands says of a sheet, each sentence with its proof.
-- Assumes nothing.
use Rattle.std.specs.Prelude.{Result, Ok, Err, ⊤}
use Prim.Native.Nat.{ℕ, zero, suc, ◌+◌, ◌*◌, ◌≤◌, ◌<◌}
use mathlib.Core.Path.{◌≡◌, refl, sym, ap, ap₂, ◌∙◌}
use mathlib.Core.List.{List, [], ◌∷◌, ◌++◌, append_assoc, append-nil}
use mathlib.Core.Logic.{inl, inr}
use native.Mathlib.Nat.{add-zero}
use native.Mathlib.Omega.{arith}
use borrow.Author.Tests.{lt-ltb, le-ltb}
use lib.ListN.{length, get_or, take, drop, length-append, get_or-append}
use lib.Seq.{take_at, drop_at, get_or-append-add}
use lib.IntN.{pos}
use Rattle.rows.specs.Limits.{result_places}
use Rattle.rows.specs.Programme.{Alphabet, Programme}
use Rattle.rows.specs.Sheet.{pattern_at, laid}
use Rattle.rows.specs.Buffers.{written, after}
use Rattle.rows.specs.Refusals.{◌then◌, given, pattern, sheet, output}
use Rattle.rows.specs.declared.Refusal.{Refusal}
use Rattle.rows.specs.declared.Refusal.TheVariants.{OutputShort}
use Rattle.rows.proofs.Buffers.{written-front, written_behind}
use Rattle.rows.proofs.Passing.{both_fine, below}
use Rattle.rows.proofs.Sheet.{laid-length}
use Rattle.refusal_numbers.specs.Table.{Refuses}
use Rattle.patterns.specs.Walk.{list_of}
use Rattle.checks.specs.Checks.{search_check, find_check, results_check, sheet_check}
use Rattle.sheets.specs.Result.{result_of}
use Rattle.sheets.specs.Sheets.{alone, result, positions_of, results_of}
use Rattle.sheets.proofs.Sheets.{alone-refused, results_length}
use Rattle.sparrowhem.specs.Said.{Said.refused, Said.gives, found_said, sheet_said}
use Rattle.sparrowhem.specs.Search.{found, Finds}
use Rattle.sparrowhem.specs.Sheet.{sheet_found, all_positions, all_results, check_of, SheetAnswers}
use Rattle.sparrowhem.proofs.Sheeting.{every, threes, computed, sheet-given, sheet_answers, sheet_computed}
use Rattle.promises.specs.Demands.{SheetOne, SheetOrder, SheetRefused, SheetStale, refusal_at, count_at, positions_begin, AsAlone, SheetAlone, Settled, SheetSettled}
use Rattle.promises.proofs.Said.{ok_pair, sheet-said, sheet_matches_said}
use Rattle.promises.proofs.Calls.{find_computed}
use Rattle.promises.proofs.Demand1.{through_answer, on_refuses, wrong_given}

-- ---- one outcome

unfoldable pub sheet_one : SheetOne
sheet_one a P qs ls y z =
    let c : (Result ⊤ Refusal) = computed a P qs ls y z in
    let ps : List ℕ = every a P qs ls y z in
    let rs : List ℕ = threes a P qs ls y z in
    let some : (Result (ℕ × ℕ) Refusal) × List ℕ × List ℕ = (sheet_found c (length ls) (length ps), after c (written y 0 ps) y, after c (written z 0 rs) z) in
    record {
      some = some;
      holds = sheet_answers a P qs ls y z some.0 some.1 some.2 refl refl refl;
      only = λ x h. (let e = sheet_computed a P qs ls y z x.0 x.1 x.2 h in λ i. (e.0 i, e.1 i, e.2 i));
    }

-- ---- the first refusal in the order, which writes nothing

pub sheet_order : SheetOrder
sheet_order a P qs ls y z r y' z' s k x =
    through_answer sheet_said r _ k x _ s.answer (sheet-said (check_of a P qs ls y z s.positions) (length ls) (length (all_positions ls s.positions)) k x)

pub sheet_refused : SheetRefused
sheet_refused a P qs ls y z r y' z' s k x e = go (check_of a P qs ls y z s.positions) ((sheet_order a P qs ls y z r y' z' s k x).0 e) s.output s.results
  where
    go : (c : Result ⊤ Refusal) → Refuses c k x → y' ≡ after c (written y 0 (all_positions ls s.positions)) y
        → z' ≡ after c (written z 0 (all_results a qs ls s.positions)) z → (y' ≡ y) × (z' ≡ z)
    go (Ok _) h p t = absurd h
    go (Err x) h p t = (p, t)

pub sheet_stale : SheetStale
unfolding sheet_check results_check
sheet_stale a P qs ls y z r y' z' k p s w =
    let g : (Result ⊤ Refusal) = given a P (length P.row) in
    let o : (Result ⊤ Refusal) = sheet ls (length qs) then output (result_places * length ls) (length z) in
    (sheet_order a P qs ls y z r y' z' s k p).1
    (on_refuses (g then o) (output (length (all_positions ls s.positions)) (length y)) k p (on_refuses g o k p (wrong_given a P (length P.row) k p w)))

-- ---- lists laid end to end at the front of a buffer

-- list i stands behind those before it
laid_apart : (l : ℕ → List ℕ) (n i : ℕ) → i < n → (rest : List ℕ) × (laid l n ≡ laid l i ++ (l i ++ rest))
unfolding laid
laid_apart l zero i h = absurd (omega arith)
laid_apart l (suc n) i h =
    below i n
    (λ b.
    let s = laid_apart l n i b in
    (s.0 ++ l n, ap (λ (w : List ℕ). w ++ l n) s.1 ∙ append_assoc (laid l i) (l i ++ s.0) (l n) ∙ ap (λ (w : List ℕ). laid l i ++ w) (append_assoc (l i) s.0 (l n))))
    (λ b.
    let same : n ≡ i = omega arith in
    ([], ap (λ (k : ℕ). laid l k ++ l k) same ∙ ap (λ (w : List ℕ). laid l i ++ w) (sym (append-nil (l i)))))

module _ (b : List ℕ) (l : ℕ → List ℕ) (n i : ℕ) (h : i < n) where
  laid_there : (rest : List ℕ) × (written b 0 (laid l n) ≡ laid l i ++ (l i ++ rest))
  unfolding written
  laid_there =
      let s = laid_apart l n i h in
      let t : List ℕ = drop (0 + length (laid l n)) b in
      (s.0 ++ t, ap (λ (w : List ℕ). w ++ t) s.1 ∙ append_assoc (laid l i) (l i ++ s.0) t ∙ ap (λ (w : List ℕ). laid l i ++ w) (append_assoc (l i) s.0 t))

  -- it is read there, as a stretch and number by number
  stretch_read : (at : ℕ) → length (laid l i) ≡ at → take (length (l i)) (drop at (written b 0 (laid l n))) ≡ l i
  stretch_read at e =
      let s = laid_there in
      ap (λ (w : List ℕ). take (length (l i)) (drop at w)) s.1
      ∙ ap (take (length (l i))) (drop_at (laid l i) (l i ++ s.0) at e)
      ∙ take_at (l i) s.0 (length (l i)) refl

  number_read : (at k : ℕ) → length (laid l i) ≡ at → k < length (l i) → get_or (written b 0 (laid l n)) (at + k) 0 ≡ get_or (l i) k 0
  number_read at k e m =
      let s = laid_there in
      ap₂ (λ (w : List ℕ) (j : ℕ). get_or w (j + k) 0) s.1 (sym e)
      ∙ get_or-append-add (laid l i) (l i ++ s.0) k 0
      ∙ get_or-append (l i) s.0 0 k m

-- ---- what an answered sheet leaves

-- nothing is refused
record Told (a : Alphabet) (P : Programme) (qs ls y z : List ℕ) (n m : ℕ) (y' z' : List ℕ) : Type 0 where
  given_fine : given a P (length P.row) ≡ Ok tt
  patterns : n ≡ length ls
  many : m ≡ length (every a P qs ls y z)
  wrote : y' ≡ written y 0 (every a P qs ls y z)
  results : z' ≡ written z 0 (threes a P qs ls y z)

told : (a : Alphabet) (P : Programme) (qs ls y z : List ℕ) (r : Result (ℕ × ℕ) Refusal) (y' z' : List ℕ) → SheetAnswers a P qs ls y z r y' z'
    → (n m : ℕ) → sheet_said r ≡ gives (pos n ∷ pos m ∷ []) → Told a P qs ls y z n m y' z'
unfolding sheet_check
told a P qs ls y z r y' z' s n m e =
    let c = sheet_computed a P qs ls y z r y' z' s in
    go (computed a P qs ls y z) refl (sym (sheet_matches_said r n m e) ∙ c.0) c.1 c.2
  where
    go : (c : Result ⊤ Refusal) → computed a P qs ls y z ≡ c → Ok (n, m) ≡ sheet_found c (length ls) (length (every a P qs ls y z))
        → y' ≡ after c (written y 0 (every a P qs ls y z)) y → z' ≡ after c (written z 0 (threes a P qs ls y z)) z → Told a P qs ls y z n m y' z'
    go (Err x) f is p t = let z : ◌≡◌ {A = ℕ} 0 1 = cc in absurd (omega arith)
    go (Ok _) f is p t =
        let both = both_fine (results_check a P qs ls (length z)) (output (length (every a P qs ls y z)) (length y)) f in
        record { given_fine = sheet-given a P qs ls y z both.0; patterns = (ok_pair is).0; many = (ok_pair is).1; wrote = p; results = t }

module _ (a : Alphabet) (P : Programme) (qs ls y z : List ℕ) (n m : ℕ) (y' z' : List ℕ) (t : Told a P qs ls y z n m y' z') where
  -- pattern i, its positions and its result
  abbrev here : ℕ → List ℕ
  here i = pattern_at qs ls i

  abbrev ps : ℕ → List ℕ
  ps i = positions_of a P.row qs ls i

  abbrev rs : ℕ → List ℕ
  rs i = results_of a P.row qs ls i

  -- number k of its result
  result_read : (i : ℕ) → i < n → (k : ℕ) → k < result_places → get_or z' (result_places * i + k) 0 ≡ get_or (rs i) k 0
  result_read i h k b =
      let long : length (rs i) ≡ result_places = omega (arith, laid-length rs i, results_length a P.row qs ls i, results_length a P.row qs ls (i + 1)) in
      ap (λ (w : List ℕ). get_or w (result_places * i + k) 0) t.results
      ∙ number_read z rs (length ls) i (omega (arith, t.patterns)) (result_places * i) k (results_length a P.row qs ls i) (omega arith)

  -- its three numbers, by what its check says
  three : (i : ℕ) → i < n → (c : Result ⊤ Refusal) → pattern a.arities (here i) ≡ c → (k : ℕ) → k < result_places
      → get_or z' (result_places * i + k) 0 ≡ get_or (result_of c (length (ps i))) k 0
  unfolding result
  three i h c e k b = result_read i h k b ∙ ap (λ (c : Result ⊤ Refusal). get_or (result_of c (length (ps i))) k 0) e

  -- the third counts its positions
  count_read : (i : ℕ) → i < n → count_at z' i ≡ length (ps i)
  count_read i h = go (pattern a.arities (here i)) refl
    where
      go : (c : Result ⊤ Refusal) → pattern a.arities (here i) ≡ c → count_at z' i ≡ length (ps i)
      go (Ok _) e = three i h (Ok tt) e 2 (omega arith)
      go (Err x) e = three i h (Err x) e 2 (omega arith) ∙ sym (ap length (alone-refused a P t.given_fine (here i) x e))

  begin_read : (i : ℕ) → i ≤ n → positions_begin z' i ≡ length (laid ps i)
  unfolding positions_begin laid
  begin_read zero h = refl
  begin_read (suc i) h = ap₂ ◌+◌ (begin_read i (omega arith)) (count_read i (omega arith)) ∙ sym (length-append (laid ps i) (ps i))

  leaves : Settled ls y z n m y' z'
  leaves =
      let three_each : result_places * n ≡ length (threes a P qs ls y z) = omega (arith, t.patterns, results_length a P.row qs ls (length ls)) in
      record {
        patterns = t.patterns;
        positions = t.many ∙ ap (λ (k : ℕ). length (laid ps k)) (sym t.patterns) ∙ sym (begin_read n (omega arith));
        later = ap₂ drop t.many t.wrote ∙ written_behind y (every a P qs ls y z) ∙ ap (λ (k : ℕ). drop k y) (sym t.many);
        results_later = ap₂ drop three_each t.results ∙ written_behind z (threes a P qs ls y z) ∙ ap (λ (k : ℕ). drop k z) (sym three_each);
      }

  -- pattern i, and find with it
  module _ (i : ℕ) (h : i < n) (x : List ℕ) (f : Result ℕ Refusal) (x' : List ℕ) (is : Finds a P (here i) x f x') (room : (k : ℕ) → found_said f ≡ refused 19 k → ⊥) where
    abbrev all : List ℕ
    all = list_of a P.row (here i)

    -- by the pattern's check, since nothing before it refuses
    found_by : (c : Result ⊤ Refusal) → pattern a.arities (here i) ≡ c
        → (f ≡ found (c then output (length all) (length x)) (length all)) × (x' ≡ after (c then output (length all) (length x)) (written x 0 all) x)
    unfolding find_check search_check
    found_by c e =
        let k = find_computed a P (here i) x f x' is in
        let check : find_check a P (here i) (length all) (length x) ≡ c then output (length all) (length x) =
        ap₂ (λ (g c : Result ⊤ Refusal). (g then c) then output (length all) (length x)) t.given_fine e in
        (k.0 ∙ ap (λ (c : Result ⊤ Refusal). found c (length all)) check, k.1 ∙ ap (λ (c : Result ⊤ Refusal). after c (written x 0 all) x) check)

    -- the first of its three numbers
    refusal_is : (c : Result ⊤ Refusal) → pattern a.arities (here i) ≡ c → refusal_at z' i ≡ get_or (result_of c (length (ps i))) 0 0
    refusal_is c e = ap (λ (k : ℕ). get_or z' k 0) (sym (add-zero (result_places * i))) ∙ three i h c e 0 (omega arith)

    as_refused : (r : Refusal) → pattern a.arities (here i) ≡ Err r → AsAlone f x' y' z' i
    as_refused r e =
        let none : count_at z' i ≡ 0 = three i h (Err r) e 2 (omega arith) in
        record {
          said = inr (ap found_said (found_by (Err r) e).0 ∙ ap₂ refused (sym (refusal_is (Err r) e)) (sym (three i h (Err r) e 1 (omega arith))), none);
          stretch = ap (λ (k : ℕ). take k (drop (positions_begin z' i) y')) none ∙ ap (λ (k : ℕ). take k x') (sym none);
        }

    as_found : pattern a.arities (here i) ≡ Ok tt → AsAlone f x' y' z' i
    unfolding alone output
    as_found e = below (length x) (length all) short fits
      where
        same : ps i ≡ all
        same = ap (λ (c : Result ⊤ Refusal). after c all []) e

        many : count_at z' i ≡ length all
        many = count_read i h ∙ ap length same

        short : length x < length all → AsAlone f x' y' z' i
        short b =
            let none : f ≡ Err (OutputShort (length all)) = (found_by (Ok tt) e).0 ∙ rw (lt-ltb (length x) (length all) b) refl in
            absurd (room (length all) (ap found_said none))

        fits : length all ≤ length x → AsAlone f x' y' z' i
        fits b =
            let fine : output (length all) (length x) ≡ (Ok tt) = rw (le-ltb (length x) (length all) b) refl in
            let answer : f ≡ Ok (length all) = (found_by (Ok tt) e).0 ∙ ap (λ (c : Result ⊤ Refusal). found c (length all)) fine in
            let wrote : x' ≡ written x 0 all = (found_by (Ok tt) e).1 ∙ ap (λ (c : Result ⊤ Refusal). after c (written x 0 all) x) fine in
            record {
              said = inl (ap found_said answer ∙ ap (λ (k : ℕ). gives (pos k ∷ [])) (sym many), refusal_is (Ok tt) e, three i h (Ok tt) e 1 (omega arith));
              stretch =
                  ap₂ (λ (k : ℕ) (w : List ℕ). take k (drop (positions_begin z' i) w)) (count_read i h) t.wrote
                  ∙ stretch_read y ps (length ls) i (omega (arith, t.patterns)) (positions_begin z' i) (sym (begin_read i (omega arith)))
                  ∙ same
                  ∙ sym (ap₂ take many wrote ∙ written-front x all);
            }

    alike : AsAlone f x' y' z' i
    alike = go (pattern a.arities (here i)) refl
      where
        go : (c : Result ⊤ Refusal) → pattern a.arities (here i) ≡ c → AsAlone f x' y' z' i
        go (Ok _) e = as_found e
        go (Err r) e = as_refused r e

pub sheet_alone : SheetAlone
sheet_alone a P qs ls y z r y' z' s n m e i h x f x' is room = alike a P qs ls y z n m y' z' (told a P qs ls y z r y' z' s n m e) i h x f x' is room

pub sheet_settled : SheetSettled
sheet_settled a P qs ls y z r y' z' s n m e = leaves a P qs ls y z n m y' z' (told a P qs ls y z r y' z' s n m e)
