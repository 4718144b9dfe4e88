-- The checks that find and the plain matcher share: with the table and the classes that build leaves they refuse the same up to 15.
-- Assumes nothing.
use Rattle.std.specs.Prelude.{Result, Ok, Err, ⊤}
use Prim.Native.Nat.{ℕ, ◌+◌, ◌≤◌}
use mathlib.Core.Path.{◌≡◌, refl, sym, ap, ap₂, ◌∙◌}
use mathlib.Core.List.{List}
use native.Mathlib.Omega.{arith}
use borrow.Author.Tests.{le-ltb}
use lib.ListN.{length, drop}
use lib.Seq.{take_all}
use Rattle.rows.specs.Limits.{row_most}
use Rattle.rows.specs.Programme.{Alphabet, Programme, room}
use Rattle.rows.specs.Parse.{table}
use Rattle.rows.specs.Classes.{classes}
use Rattle.rows.specs.Row.{sized, verdict, allowed, or_else, reading}
use Rattle.rows.specs.Buffers.{written, after}
use Rattle.rows.specs.Refusals.{◌then◌, as_kept, alphabet, sizes, symbols, fresh, classed, kept, given, pattern, position}
use Rattle.rows.specs.declared.Leaves.TheVariants.{Symbols}
use Rattle.rows.specs.declared.Kept.{Kept}
use Rattle.rows.specs.declared.Kept.TheVariants.{Stale, Misclassed}
use Rattle.rows.specs.declared.Refusal.{Refusal}
use Rattle.rows.specs.declared.Refusal.TheVariants.{Row}
use Rattle.rows.proofs.Entry.{length-table}
use Rattle.rows.proofs.Buffers.{length-written}
use Rattle.rows.proofs.Classes.{class_of_row}
use Rattle.rows.proofs.Differ.{differs_same}
use Rattle.rows.proofs.Passing.{then_assoc}
use Rattle.checks.specs.Checks.{build_check, plain_check, search_check}
use Rattle.sparrowhem.specs.Build.{built, Built}
use Rattle.rows.specs.declared.Fault.{Fault}

pub then_fine : (a : Result ⊤ Refusal) → ◌then◌ a (Ok tt) ≡ a
then_fine (Ok _) = refl
then_fine (Err r) = refl

both_rows : (whose : Kept → Refusal) (a b : Result ⊤ Fault) → as_kept whose (or_else a b) ≡ as_kept whose a then as_kept whose b
both_rows whose (Ok _) b = refl
both_rows whose (Err f) b = refl

-- 1 to 5 and 7 to 9: the alphabet, and a row by itself
abbrev pub row_check : Alphabet → List ℕ → Result ⊤ Refusal
row_check a w = alphabet a then as_kept Row (reading a.arities Symbols row_most w)

-- with m places that are room enough, the checks of sizes and symbols are those of the row alone
row_alone : (A w : List ℕ) (m : ℕ) → length w ≤ m → sizes Row (length w) m then symbols Row A w ≡ as_kept Row (reading A Symbols row_most w)
unfolding sizes symbols reading
row_alone A w m h =
    let size : (Result ⊤ Refusal) = as_kept Row (sized (length w) row_most) in
    rw (le-ltb m (length w) h)
    (ap (λ (c : Result ⊤ Refusal). c then symbols Row A w) (then_fine size)
    ∙ sym (both_rows Row (sized (length w) row_most) (verdict A (allowed Symbols A) 1 0 w)))

pub build_row : (a : Alphabet) (P : Programme) → length P.row ≤ room P → build_check a P ≡ row_check a P.row
unfolding build_check
build_row a P h = ap (λ (c : Result ⊤ Refusal). alphabet a then c) (row_alone a.arities P.row (room P) h)

-- 10 and 62: what is kept beside the row
abbrev pub beside_check : Alphabet → Programme → Result ⊤ Refusal
beside_check a P = fresh Row a.arities P.row P.table then classed Row a.arities P.row P.classes

pub given_row : (a : Alphabet) (P : Programme) → length P.row ≤ room P → given a P (length P.row) ≡ row_check a P.row then beside_check a P
unfolding given kept
given_row a P h =
    let A : List ℕ = a.arities in
    let w : List ℕ = P.row in
    ap (λ (l : List ℕ). alphabet a then sizes Row (length w) (room P) then symbols Row A l then fresh Row A l P.table then classed Row A l P.classes) (take_all (length w) w (omega arith))
    ∙ ap (λ (c : Result ⊤ Refusal). alphabet a then c)
    (sym (then_assoc (sizes Row (length w) (room P)) (symbols Row A w) (beside_check a P))
    ∙ ap (λ (c : Result ⊤ Refusal). c then beside_check a P) (row_alone A w (room P) h))
    ∙ sym (then_assoc (alphabet a) (as_kept Row (reading A Symbols row_most w)) (beside_check a P))

-- the lists that build leaves of such as are long enough
module _ (a : Alphabet) (old : Programme) (build : Result ⊤ Refusal) (P : Programme) (long : length old.row ≤ room old) (b : Built a old build P) where
  abbrev A : List ℕ
  A = a.arities

  abbrev w : List ℕ
  w = old.row

  checked : build_check a old ≡ row_check a w
  checked = build_row a old long

  left : P ≡ after (row_check a w) (built a old) old
  left = b.lists ∙ ap (λ (c : Result ⊤ Refusal). after c (built a old) old) checked

  -- the row stays
  pub left_row : P.row ≡ w
  left_row = go (row_check a w) left
    where
      go : (c : Result ⊤ Refusal) → P ≡ after c (built a old) old → P.row ≡ w
      go (Ok _) e = ap (λ (x : Programme). x.row) e
      go (Err x) e = ap (λ (x : Programme). x.row) e

  pub given_left : given a P (length P.row) ≡ row_check a P.row
  unfolding fresh classed written
  given_left = go (row_check a w) refl left
    where
      row_too : row_check a P.row ≡ row_check a w
      row_too = ap (row_check a) left_row

      go : (c : Result ⊤ Refusal) → row_check a w ≡ c → P ≡ after c (built a old) old → given a P (length P.row) ≡ row_check a P.row
      go (Ok _) e is =
          let table_is : P.table ≡ written old.table 0 (table A w) = ap (λ (x : Programme). x.table) is in
          let classes_are : P.classes ≡ written old.classes 0 (classes A w) = ap (λ (x : Programme). x.classes) is in
          let same : length P.table ≡ length old.table =
          ap length table_is ∙ length-written old.table 0 (table A w) (omega (arith, length-table A w)) in
          let same-too : length P.classes ≡ length old.classes =
          ap length classes_are ∙ length-written old.classes 0 (classes A w) (omega (arith, (class_of_row A w).0)) in
          let row_long = ap length left_row in
          let ends-fine : fresh Row A P.row P.table ≡ (Ok tt) =
          ap₂ (fresh Row A) left_row table_is ∙ differs_same (λ k. Row (Stale k)) 0 (table A w) (drop (0 + length (table A w)) old.table) in
          let classes-fine : classed Row A P.row P.classes ≡ (Ok tt) =
          ap₂ (classed Row A) left_row classes_are ∙ differs_same (λ k. Row (Misclassed k)) 0 (classes A w) (drop (0 + length (classes A w)) old.classes) in
          given_row a P (omega arith) ∙ ap₂ ◌then◌ (row_too ∙ e) (ap₂ ◌then◌ ends-fine classes-fine) ∙ sym (row_too ∙ e)
      go (Err x) e is =
          let same : length P.table ≡ length old.table = ap (λ (x : Programme). length x.table) is in
          let same-too : length P.classes ≡ length old.classes = ap (λ (x : Programme). length x.classes) is in
          let row_long = ap length left_row in
          given_row a P (omega arith) ∙ ap (λ (c : Result ⊤ Refusal). c then beside_check a P) (row_too ∙ e) ∙ sym (row_too ∙ e)

  -- what both look at first
  pub search_left : (q : List ℕ) → search_check a P q ≡ row_check a P.row then pattern A q
  unfolding search_check
  search_left q = ap (λ (c : Result ⊤ Refusal). c then pattern A q) given_left

pub plain_left : (a : Alphabet) (w q : List ℕ) (p : ℕ) → plain_check a w q p ≡ (row_check a w then pattern a.arities q) then position (length w) p
unfolding plain_check
plain_left a w q p =
    let row : (Result ⊤ Refusal) = as_kept Row (reading a.arities Symbols row_most w) in
    let rest : (Result ⊤ Refusal) = position (length w) p in
    sym (then_assoc (alphabet a) row (pattern a.arities q then rest)) ∙ sym (then_assoc (row_check a w) (pattern a.arities q) rest)
