-- What a check that goes through the contents says at entry k, from the entry there: the step of each loop.
-- Assumes nothing.
use Rattle.std.specs.Prelude.{Ok, Err}
use Prim.Native.Nat.{ℕ, suc, ◌+◌, ◌-◌, ◌*◌, ◌≤◌, ◌<◌}
use mathlib.Core.Path.{◌≡◌, refl, sym, ap, ap₂, ◌∙◌}
use mathlib.Core.List.{List, [], ◌∷◌, map}
use native.Mathlib.Omega.{arith}
use lib.Dec.{ltb, eqb}
use borrow.Author.Tests.{ltb-false, eqb-true}
use lib.ListN.{get_or, take, drop}
use lib.Seq.{get_or-drop, drop-drop}
use Rattle.rows.specs.Limits.{row_most}
use Rattle.rows.specs.Row.{pick, reading}
use Rattle.rows.specs.Refusals.{◌then◌}
use Rattle.rows.specs.declared.Leaves.TheVariants.{Symbols}
use Rattle.wire.specs.Wire.{numbers}
use Rattle.rows.proofs.Passing.{not-refused}
use Rattle.catalogue.specs.Reading.{wide, entry_at, entries_of, programme_in, row_in}
use Rattle.catalogue.specs.Refusals.{rises, programme_of, placed, as_programme, rows_fit}
use Rattle.catalogue.specs.declared.Entry.{Entry}
use Rattle.rows.specs.declared.CatalogueFault.TheVariants.{NotRising, Misplaced, LeftOver}
use Rattle.rows.specs.declared.Refusal.TheVariants.{Catalogue as OfCatalogue}
use Rattle.catalogue.proofs.Checks.{is_wanted}

wide-drop : (w : List ℕ) (i k : ℕ) → wide (drop i w) k ≡ wide w (i + k)
unfolding wide
wide-drop w i k =
    let on : i + (k + 1) ≡ i + k + 1 = omega arith in
    ap₂ (λ (a b : ℕ). a + 65536 * b) (get_or-drop i w k 0) (get_or-drop i w (k + 1) 0 ∙ ap (λ (j : ℕ). get_or w j 0) on)

pub entry-drop : (w : List ℕ) (i : ℕ) → entry_at (drop i w) 0 ≡ entry_at w i
unfolding entry_at
entry-drop w i =
    let on : i + 0 ≡ i = omega arith in
    rw (wide-drop w i 0, wide-drop w i 2, wide-drop w i 4, on) refl

-- of n entries behind the head, those from the k-th on
unfoldable pub entries_from : List ℕ → ℕ → ℕ → List Entry
entries_from w n k = entries_of (n - k) (drop (2 + 6 * k) w)

-- all entries; and the entries from k on are the one there and those from k + 1 on
pub entries_all : (n : ℕ) (w : List ℕ) → entries_of n (drop 2 w) ≡ entries_from w n 0
unfolding entries_from
entries_all n w = let all : n ≡ n - 0 = omega arith in ap (λ (m : ℕ). entries_of m (drop 2 w)) all

pub entries_more : (w : List ℕ) (n k : ℕ) → k < n → entries_from w n k ≡ entry_at w (2 + 6 * k) ∷ entries_from w n (k + 1)
unfolding entries_from entries_of
entries_more w n k h =
    let one : n - k ≡ suc (n - (k + 1)) = omega arith in
    let on : 2 + 6 * k + 6 ≡ 2 + 6 * (k + 1) = omega arith in
    ap (λ (m : ℕ). entries_of m (drop (2 + 6 * k) w)) one
    ∙ ap₂ (λ (e : Entry) (l : List Entry). e ∷ l) (entry-drop w (2 + 6 * k))
    (ap (entries_of (n - (k + 1))) (drop-drop 6 (2 + 6 * k) w ∙ ap (λ (i : ℕ). drop i w) on))

pub entries_none : (w : List ℕ) (n k : ℕ) → n ≤ k → entries_from w n k ≡ []
unfolding entries_from entries_of
entries_none w n k h = let none : n - k ≡ 0 = omega arith in ap (λ (m : ℕ). entries_of m (drop (2 + 6 * k) w)) none

module _ (w : List ℕ) (n k : ℕ) (h : k < n) where
  -- 67
  pub rising_at : (least : ℕ)
      → rises 12 (4 + 12 * k) least (map programme_of (entries_from w n k))
      ≡ pick (ltb (wide w (2 + 6 * k)) least) (Err (OfCatalogue (NotRising (4 + 12 * k))))
      (rises 12 (4 + 12 * (k + 1)) (wide w (2 + 6 * k) + 1) (map programme_of (entries_from w n (k + 1))))
  unfolding rises entry_at
  rising_at least =
      let on : 4 + 12 * k + 12 ≡ 4 + 12 * (k + 1) = omega arith in
      ap (λ (es : List Entry). rises 12 (4 + 12 * k) least (map programme_of es)) (entries_more w n k h)
      ∙ ap (λ (i : ℕ). pick (ltb (wide w (2 + 6 * k)) least) (Err (OfCatalogue (NotRising (4 + 12 * k)))) (rises 12 i (wide w (2 + 6 * k) + 1) (map programme_of (entries_from w n (k + 1))))) on

  -- 68
  pub placed_at : (size next : ℕ)
      → placed size (4 + 12 * k) next (entries_from w n k)
      ≡ pick (eqb (wide w (4 + 6 * k)) next)
      (pick (ltb size (next + 2 * wide w (6 + 6 * k))) (Err (OfCatalogue (Misplaced (4 + 12 * k))))
      (placed size (4 + 12 * (k + 1)) (next + 2 * wide w (6 + 6 * k)) (entries_from w n (k + 1))))
      (Err (OfCatalogue (Misplaced (4 + 12 * k))))
  unfolding placed entry_at
  placed_at size next =
      let on : 4 + 12 * k + 12 ≡ 4 + 12 * (k + 1) = omega arith in
      let start : 2 + 6 * k + 2 ≡ 4 + 6 * k = omega arith in
      let long : 2 + 6 * k + 4 ≡ 6 + 6 * k = omega arith in
      ap (placed size (4 + 12 * k) next) (entries_more w n k h)
      ∙ rw (on, start, long) refl

-- past the last entry
pub rising_done : (w : List ℕ) (n k least : ℕ) → n ≤ k → rises 12 (4 + 12 * k) least (map programme_of (entries_from w n k)) ≡ Ok tt
unfolding rises
rising_done w n k least h = ap (λ (es : List Entry). rises 12 (4 + 12 * k) least (map programme_of es)) (entries_none w n k h)

pub placed_done : (w : List ℕ) (n k size next : ℕ) → n ≤ k
    → placed size (4 + 12 * k) next (entries_from w n k) ≡ pick (eqb next size) (Ok tt) (Err (OfCatalogue (LeftOver next)))
unfolding placed
placed_done w n k size next h = ap (placed size (4 + 12 * k) next) (entries_none w n k h)

-- an entry of contents that are placed right: where it starts, where it ends, and the entries behind it
pub record Lies (size next : ℕ) (w : List ℕ) (n k : ℕ) : Type 0 where
  pub begins : wide w (4 + 6 * k) ≡ next
  pub within : next + 2 * wide w (6 + 6 * k) ≤ size
  pub rest : placed size (4 + 12 * (k + 1)) (next + 2 * wide w (6 + 6 * k)) (entries_from w n (k + 1)) ≡ Ok tt

pub placed_lies : (size next : ℕ) (w : List ℕ) (n k : ℕ) → k < n → placed size (4 + 12 * k) next (entries_from w n k) ≡ Ok tt → Lies size next w n k
placed_lies size next w n k h e =
    let a = is_wanted (eqb (wide w (4 + 6 * k)) next) _ (OfCatalogue (Misplaced (4 + 12 * k))) (sym (placed_at w n k h size next) ∙ e) in
    let b = not-refused (ltb size (next + 2 * wide w (6 + 6 * k))) (OfCatalogue (Misplaced (4 + 12 * k))) _ a.1 in
    record { begins = eqb-true (wide w (4 + 6 * k)) next a.0; within = ltb-false size (next + 2 * wide w (6 + 6 * k)) b.0; rest = b.1 }

-- its row is the part of the file between the two
pub row_lies : (f w : List ℕ) (next k long : ℕ) → wide w (4 + 6 * k) ≡ next → long ≡ wide w (6 + 6 * k)
    → row_in f (entry_at w (2 + 6 * k)) ≡ numbers (take (next + 2 * long - next) (drop next f))
unfolding row_in entry_at
row_lies f w next k long h e =
    let at : 2 + 6 * k + 2 ≡ 4 + 6 * k = omega arith in
    let behind : 2 + 6 * k + 4 ≡ 6 + 6 * k = omega arith in
    let size : 2 * wide w (2 + 6 * k + 4) ≡ next + 2 * long - next = omega (arith, ap (wide w) behind) in
    ap₂ (λ (i j : ℕ). numbers (take i (drop j f))) size (ap (wide w) at ∙ h)

-- 4 to 9
pub rows_at : (A f : List ℕ) (w : List ℕ) (n k : ℕ) → k < n
    → rows_fit A (map (programme_in f) (entries_from w n k))
    ≡ as_programme (wide w (2 + 6 * k)) (reading A Symbols row_most (row_in f (entry_at w (2 + 6 * k)))) then rows_fit A (map (programme_in f) (entries_from w n (k + 1)))
unfolding rows_fit programme_in entry_at
rows_at A f w n k h = ap (λ (es : List Entry). rows_fit A (map (programme_in f) es)) (entries_more w n k h)

pub rows_done : (A f w : List ℕ) (n k : ℕ) → n ≤ k → rows_fit A (map (programme_in f) (entries_from w n k)) ≡ Ok tt
unfolding rows_fit
rows_done A f w n k h = ap (λ (es : List Entry). rows_fit A (map (programme_in f) es)) (entries_none w n k h)
