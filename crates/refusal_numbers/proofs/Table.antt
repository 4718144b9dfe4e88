-- The table of refusals, as specs/Table states it, with its proof. A law over parameters serves all lines of one kind.
-- Assumes nothing.
use Rattle.std.specs.Prelude.{Result, Ok, Err, ⊤}
use Prim.Native.Nat.{ℕ, zero, suc, ◌+◌, ◌≤◌, ◌<◌, min}
use mathlib.Core.Path.{◌≡◌, refl, sym, ap, ◌∙◌, subst}
use mathlib.Core.List.{List, [], ◌∷◌}
use mathlib.Core.Bool.{Bool, true, false}
use mathlib.Core.Logic.Iff
use mathlib.Core.Logic.{◌↔◌, ◌⊎◌, inl, inr, ⊎_elim}
use native.Mathlib.Nat.{zero-add, add-zero}
use native.Mathlib.Omega.{arith}
use borrow.Author.Tests.{ltb-true, ltb-false, leb-true, eqb-true, eqb-false, lt-ltb, le-ltb, le-leb, eq-eqb, ne_eqb}
use lib.Dec.{ltb, leb, eqb}
use lib.ListN.{length, get_or}
use Rattle.rows.specs.Limits.{row_most}
use Rattle.rows.specs.Parse.{table as entries}
use Rattle.rows.specs.Classes.{classes}
use Rattle.rows.specs.Sheet.{begin_of}
use Rattle.rows.specs.Row.{pick, symbol, allowed, sized, verdict, or_else, reading}
use Rattle.rows.specs.Refusals.{◌then◌, refuse_if, alphabet_size, arities_fit, some_leaf, as_kept, as_pattern, as_replacement, sizes, symbols, differs, fresh, classed, pattern, sheet_size, sheet_sum, replacement, position, grown, output}
use Rattle.rows.specs.declared.Fault.{Fault}
use Rattle.rows.specs.declared.Fault.TheVariants.{Empty, Long, Stray, Early, Extra}
use Rattle.rows.specs.declared.Leaves.{Leaves}
use Rattle.rows.specs.declared.Leaves.TheVariants.{Symbols, Blanks}
use Rattle.rows.specs.declared.Arities.TheVariants.{Count, Over, NoLeaf}
use Rattle.rows.specs.declared.Kept.{Kept}
use Rattle.rows.specs.declared.Kept.TheVariants.{Misread, Short, Stale, Misclassed}
use Rattle.rows.specs.declared.Refusal.{Refusal}
use Rattle.rows.specs.declared.Refusal.TheVariants.{Arities, Row, OnRecord, Position, TooLong, OutputShort, SheetSize, SheetSum}
use Rattle.rows.proofs.Entry.{length-table}
use Rattle.rows.proofs.Classes.{class_of_row}
use Rattle.rows.proofs.Passing.{below, clash, row_fine}
use Rattle.rows.proofs.Scan.{sized_fits, sized_whole}
use Rattle.refusal_numbers.specs.Numbers.{row_number, pattern_number, replacement_number, fault_place, kept_number, on_record_number, kept_place, number, place}
use Rattle.refusal_numbers.specs.Table.{Refuses, FirstOver, FirstOther, FirstStale, FirstMisclassed, WrongLength, NotOneTree, WrongList, WrongSizes, Table}
use Rattle.refusal_numbers.proofs.Reading.{Says, told, stray, early, extra}

-- ---- checks

-- a check refuses with the number and the place of the refusal that it gives
is_refused : (c : Result ⊤ Refusal) (x : Refusal) (k q : ℕ) → c ≡ Err x → k ≡ number x → q ≡ place x → Refuses c k q
is_refused c x k q e m p = subst (λ (d : Result ⊤ Refusal). Refuses d k q) (sym e) (m, p)

order : (a b : Result ⊤ Refusal) (k q : ℕ) → Refuses (a then b) k q ↔ (Refuses a k q ⊎ ((a ≡ Ok tt) × Refuses b k q))
order (Ok _) b k q = (λ h. inr (refl, h), λ s. ⊎_elim (λ h. absurd h) (λ h. h.1) s)
order (Err x) b k q = (λ h. inl h, λ s. ⊎_elim (λ h. h) (λ h. absurd (clash (Err x) x h.0 refl)) s)

-- a check of one test refuses exactly if what is tested holds
pub test : (b : Bool) (x : Refusal) (P : Type 0) (k q : ℕ) → (b ≡ true → P) → (P → b ≡ true)
    → Refuses (refuse_if b x) k q ↔ ((k ≡ number x) × (q ≡ place x) × P)
test true x P k q to from = (λ h. (h.0, h.1, to refl), λ h. (h.0, h.1))
test false x P k q to from = (λ h. absurd h, λ h. (let e = from h.2 in cc))

-- there are none, or more than the most
count_wrong : (x : Refusal) (most n k q : ℕ)
    → Refuses (refuse_if (ltb n 1) x then refuse_if (ltb most n) x) k q ↔ ((k ≡ number x) × (q ≡ place x) × ((n ≡ 0) ⊎ (most < n)))
count_wrong x most n k q = go (ltb n 1) (ltb most n) refl refl
  where
    go : (a b : Bool) → ltb n 1 ≡ a → ltb most n ≡ b
        → Refuses (refuse_if a x then refuse_if b x) k q ↔ ((k ≡ number x) × (q ≡ place x) × ((n ≡ 0) ⊎ (most < n)))
    go true b e d = (λ h. (h.0, h.1, inl (omega (arith, ltb-true n 1 e))), λ h. (h.0, h.1))
    go false true e d = (λ h. (h.0, h.1, inr (ltb-true most n d)), λ h. (h.0, h.1))
    go false false e d =
        let some = ltb-false n 1 e in
        let few = ltb-false most n d in
        (λ h. absurd h, λ h. absurd (⊎_elim (λ x. omega arith) (λ x. omega arith) h.2))

alphabet-size : (n k q : ℕ) → Refuses (alphabet_size n) k q ↔ ((k ≡ 1) × (q ≡ n) × ((n ≡ 0) ⊎ (1024 < n)))
unfolding alphabet_size
alphabet-size n k q = count_wrong (Arities (Count n)) 1024 n k q

sheet-size : (n k q : ℕ) → Refuses (sheet_size n) k q ↔ ((k ≡ 63) × (q ≡ n) × ((n ≡ 0) ⊎ (64 < n)))
unfolding sheet_size
sheet-size n k q = count_wrong (SheetSize n) 64 n k q

sheet-sum : (ls : List ℕ) (m k q : ℕ) → Refuses (sheet_sum ls m) k q ↔ ((k ≡ 64) × (q ≡ m) × (begin_of ls (length ls) ≡ m → ⊥))
unfolding sheet_sum
sheet-sum ls m k q = go (eqb (begin_of ls (length ls)) m) refl
  where
    go : (b : Bool) → eqb (begin_of ls (length ls)) m ≡ b
        → Refuses (pick b (Ok tt) (Err (SheetSum m))) k q ↔ ((k ≡ 64) × (q ≡ m) × (begin_of ls (length ls) ≡ m → ⊥))
    go true e = (λ h. absurd h, λ h. absurd (h.2 (eqb-true (begin_of ls (length ls)) m e)))
    go false e = (λ h. (h.0, h.1, eqb-false (begin_of ls (length ls)) m e), λ h. (h.0, h.1))

position_past : (n p k q : ℕ) → Refuses (position n p) k q ↔ ((k ≡ 17) × (q ≡ p) × (n ≤ p))
unfolding position
position_past n p k q = test (leb n p) (Position p) (n ≤ p) k q (leb-true n p) (le-leb n p)

too_long : (m room k q : ℕ) → Refuses (grown m room) k q ↔ ((k ≡ 18) × (q ≡ m) × ((16384 < m) ⊎ (room < m)))
unfolding grown
too_long m room k q = test (ltb (min 16384 room) m) (TooLong m) ((16384 < m) ⊎ (room < m)) k q over from
  where
    over : ltb (min 16384 room) m ≡ true → (16384 < m) ⊎ (room < m)
    over e = let h = ltb-true (min 16384 room) m e in below 16384 m (λ i. inl i) (λ i. inr (omega arith))

    from : (16384 < m) ⊎ (room < m) → ltb (min 16384 room) m ≡ true
    from s = lt-ltb (min 16384 room) m (⊎_elim (λ h. omega arith) (λ h. omega arith) s)

output-short : (n m k q : ℕ) → Refuses (output n m) k q ↔ ((k ≡ 19) × (q ≡ n) × (m < n))
unfolding output
output-short n m k q = test (ltb m n) (OutputShort n) (m < n) k q (ltb-true m n) (lt-ltb m n)

-- ---- the arities

arity_from : (l : List ℕ) (at s : ℕ) → FirstOver l s → arities_fit at l ≡ Err (Arities (Over (at + s)))
unfolding arities_fit
arity_from [] at s f = absurd (omega (arith, f.within))
arity_from (a ∷ l) at zero f = rw (lt-ltb 15 a f.over) (ap (λ (k : ℕ). Err (Arities (Over k))) (sym (add-zero at)))
arity_from (a ∷ l) at (suc s) f =
    let small : a ≤ 15 = f.before 0 (omega arith) in
    let up : at + 1 + s ≡ at + suc s = omega arith in
    rw (le-ltb 15 a small)
    (arity_from l (at + 1) s (record { within = omega (arith, f.within); over = f.over; before = λ k h. f.before (suc k) (omega arith) })
    ∙ ap (λ (k : ℕ). Err (Arities (Over k))) up)

arity_to : (l : List ℕ) (at k q : ℕ) → Refuses (arities_fit at l) k q → (s : ℕ) × (k ≡ 2) × (q ≡ at + s) × FirstOver l s
unfolding arities_fit
arity_to [] at k q h = absurd h
arity_to (a ∷ l) at k q h = go (ltb 15 a) refl h (arity_to l (at + 1) k q)
  where
    small : {s : ℕ} → a ≤ 15 → FirstOver l s → (k : ℕ) → k < suc s → get_or (a ∷ l) k 0 ≤ 15
    small h f zero i = h
    small h f (suc k) i = f.before k (omega arith)

    go : (b : Bool) → ltb 15 a ≡ b → Refuses (pick b (Err (Arities (Over at))) (arities_fit (at + 1) l)) k q
        → (Refuses (arities_fit (at + 1) l) k q → (s : ℕ) × (k ≡ 2) × (q ≡ at + 1 + s) × FirstOver l s)
        → (s : ℕ) × (k ≡ 2) × (q ≡ at + s) × FirstOver (a ∷ l) s
    go true e h later =
        (0, h.0, h.1 ∙ sym (add-zero at), record { within = omega arith; over = ltb-true 15 a e; before = λ k i. absurd (omega arith) })
    go false e h later =
        let t = later h in (
          suc t.0,
          t.1,
          omega (arith, t.2),
          record { within = omega (arith, t.3.within); over = t.3.over; before = small (ltb-false 15 a e) t.3 },
        )

arity_over : (A : List ℕ) (k q : ℕ) → Refuses (arities_fit 0 A) k q ↔ ((k ≡ 2) × FirstOver A q)
arity_over A k q = (
  λ h. (let t = arity_to A 0 k q h in let same : t.0 ≡ q = omega (arith, t.2) in (t.1, subst (FirstOver A) same t.3)),
  λ h. is_refused (arities_fit 0 A) (Arities (Over (0 + q))) k q (arity_from A 0 q h.1) h.0 (sym (zero-add q)),
)

no_leaf_to : (l : List ℕ) (k q : ℕ) → Refuses (some_leaf l) k q → (k ≡ 3) × (q ≡ 0) × ((s : ℕ) → s < length l → get_or l s 0 ≡ 0 → ⊥)
unfolding some_leaf
no_leaf_to [] k q h = (h.0, h.1, λ s i. absurd (omega arith))
no_leaf_to (a ∷ l) k q h = go (eqb a 0) refl h (no_leaf_to l k q)
  where
    go : (b : Bool) → eqb a 0 ≡ b → Refuses (pick b (Ok tt) (some_leaf l)) k q
        → (Refuses (some_leaf l) k q → (k ≡ 3) × (q ≡ 0) × ((s : ℕ) → s < length l → get_or l s 0 ≡ 0 → ⊥))
        → (k ≡ 3) × (q ≡ 0) × ((s : ℕ) → s < length (a ∷ l) → get_or (a ∷ l) s 0 ≡ 0 → ⊥)
    go true e h later = absurd h
    go false e h later = ((later h).0, (later h).1, at)
      where
        at : (s : ℕ) → s < length (a ∷ l) → get_or (a ∷ l) s 0 ≡ 0 → ⊥
        at zero i z = eqb-false a 0 e z
        at (suc s) i z = (later h).2 s (omega arith) z

no_leaf_from : (l : List ℕ) → ((s : ℕ) → s < length l → get_or l s 0 ≡ 0 → ⊥) → some_leaf l ≡ Err (Arities NoLeaf)
unfolding some_leaf
no_leaf_from [] f = refl
no_leaf_from (a ∷ l) f = rw (ne_eqb a 0 (f 0 (omega arith))) (no_leaf_from l (λ s h. f (suc s) (omega arith)))

no_leaf : (A : List ℕ) (k q : ℕ) → Refuses (some_leaf A) k q ↔ ((k ≡ 3) × (q ≡ 0) × ((s : ℕ) → s < length A → get_or A s 0 ≡ 0 → ⊥))
no_leaf A k q = (no_leaf_to A k q, λ h. is_refused (some_leaf A) (Arities NoLeaf) k q (no_leaf_from A h.2) h.0 h.1)

-- ---- lists that should be a tree's

-- the verdict finds a fault, with the number that `of` gives it
abbrev Finds : (Fault → ℕ) → Result ⊤ Fault → ℕ → ℕ → Type 0
Finds of (Ok _) k q = ⊥
Finds of (Err f) k q = (k ≡ of f) × (q ≡ fault_place f)

module _ (of : Fault → ℕ) (k q : ℕ) where
  sized_finds : (n most : ℕ) → Finds of (sized n most) k q ↔ WrongLength (of Empty) (of (Long n)) n most k q
  unfolding sized
  sized_finds n most = go (ltb n 1) (ltb most n) refl refl
    where
      go : (a b : Bool) → ltb n 1 ≡ a → ltb most n ≡ b
          → Finds of (pick a (Err Empty) (pick b (Err (Long n)) (Ok tt))) k q ↔ WrongLength (of Empty) (of (Long n)) n most k q
      go true b e d =
          let h = ltb-true n 1 e in
          (λ x. inl (x.0, x.1, omega arith), λ s. ⊎_elim (λ x. (x.0, x.1)) (λ x. absurd (omega (arith, x.2))) s)
      go false true e d =
          let h = ltb-false n 1 e in
          (λ x. inr (x.0, x.1, ltb-true most n d), λ s. ⊎_elim (λ x. absurd (omega (arith, x.2))) (λ x. (x.0, x.1)) s)
      go false false e d =
          let h = ltb-false n 1 e in
          let i = ltb-false most n d in
          (λ x. absurd x, λ s. ⊎_elim (λ x. absurd (omega (arith, x.2))) (λ x. absurd (omega (arith, x.2))) s)

  verdict_finds : (A : List ℕ) (ok : ℕ → Bool) (w : List ℕ)
      → Finds of (verdict A ok 1 0 w) k q ↔ NotOneTree (of (Stray q)) (of (Early q)) (of (Extra q)) A ok w k q
  verdict_finds A ok w = (λ h. to (verdict A ok 1 0 w) refl h, from)
    where
      at : (f : ℕ → Fault) (p : ℕ) → q ≡ p → verdict A ok 1 0 w ≡ Err (f p) → verdict A ok 1 0 w ≡ Err (f q)
      at f p s e = e ∙ ap (λ (j : ℕ). Err (f j)) (sym s)

      to : (v : Result ⊤ Fault) → verdict A ok 1 0 w ≡ v → Finds of v k q → NotOneTree (of (Stray q)) (of (Early q)) (of (Extra q)) A ok w k q
      to (Ok _) e h = absurd h
      to (Err Empty) e h = absurd (subst (Says A ok 1 0 w) e (told A ok w 1 0))
      to (Err (Long n)) e h = absurd (subst (Says A ok 1 0 w) e (told A ok w 1 0))
      to (Err (Stray p)) e h =
          let x = (stray A ok w q).0 (at Stray p h.1 e) in
          inl (h.0 ∙ ap (λ (j : ℕ). of (Stray j)) (sym h.1), x.0, x.1, x.2)
      to (Err (Early p)) e h =
          let x = (early A ok w q).0 (at Early p h.1 e) in
          inr (inl (h.0 ∙ ap (λ (j : ℕ). of (Early j)) (sym h.1), x.0, x.1))
      to (Err (Extra p)) e h =
          let x = (extra A ok w q).0 (at Extra p h.1 e) in
          inr (inr (h.0 ∙ ap (λ (j : ℕ). of (Extra j)) (sym h.1), x.0, x.1))

      found : (f : Fault) → verdict A ok 1 0 w ≡ Err f → k ≡ of f → q ≡ fault_place f → Finds of (verdict A ok 1 0 w) k q
      found f e m p = subst (λ (v : Result ⊤ Fault). Finds of v k q) (sym e) (m, p)

      from : NotOneTree (of (Stray q)) (of (Early q)) (of (Extra q)) A ok w k q → Finds of (verdict A ok 1 0 w) k q
      from (inl x) = found (Stray q) ((stray A ok w q).1 (x.1, x.2, x.3)) x.0 refl
      from (inr (inl x)) = found (Early q) ((early A ok w q).1 (x.1, x.2)) x.0 refl
      from (inr (inr x)) = found (Extra q) ((extra A ok w q).1 (x.1, x.2)) x.0 refl

  either_finds : (a b : Result ⊤ Fault) → Finds of (or_else a b) k q ↔ (Finds of a k q ⊎ ((a ≡ Ok tt) × Finds of b k q))
  either_finds (Ok _) b = (λ h. inr (refl, h), λ s. ⊎_elim (λ h. absurd h) (λ h. h.1) s)
  either_finds (Err f) b = (
    λ h. inl h,
    λ s. ⊎_elim (λ h. h) (λ h. (let e = h.0 in cc)) s,
  )

  reading_finds : (A : List ℕ) (leaves : Leaves) (most : ℕ) (w : List ℕ)
      → Finds of (reading A leaves most w) k q
      ↔ WrongList (of Empty) (of (Long (length w))) (of (Stray q)) (of (Early q)) (of (Extra q)) most A (allowed leaves A) w k q
  unfolding reading
  reading_finds A leaves most w =
      let either = either_finds (sized (length w) most) (verdict A (allowed leaves A) 1 0 w) in
      let size = sized_finds (length w) most in
      let tree = verdict_finds A (allowed leaves A) w in (
        λ h.
            ⊎_elim
            (λ x. inl (size.0 x))
            (λ x. (let fits = sized_fits (length w) most x.0 in inr (fits.0, fits.1, tree.0 x.1)))
            (either.0 h),
        λ s.
            either.1
            (⊎_elim
            (λ x. inl (size.1 x))
            (λ x. inr (sized_whole (length w) most x.0 x.1, tree.1 x.2))
            s),
      )

-- a verdict on a pattern, on a replacement, as a check
pattern_finds : (v : Result ⊤ Fault) (k q : ℕ) → Refuses (as_pattern v) k q ↔ Finds pattern_number v k q
pattern_finds (Ok _) k q = Iff.rfl
pattern_finds (Err f) k q = Iff.rfl

replacement_finds : (v : Result ⊤ Fault) (k q : ℕ) → Refuses (as_replacement v) k q ↔ Finds replacement_number v k q
replacement_finds (Ok _) k q = Iff.rfl
replacement_finds (Err f) k q = Iff.rfl

pattern_wrong : (A w : List ℕ) (k q : ℕ) → Refuses (pattern A w) k q ↔ WrongList 11 12 13 14 15 256 A (allowed Blanks A) w k q
unfolding pattern
pattern_wrong A w k q = Iff.trans (pattern_finds (reading A Blanks 256 w) k q) (reading_finds pattern_number k q A Blanks 256 w)

replacement_wrong : (A w : List ℕ) (k q : ℕ) → Refuses (replacement A w) k q ↔ WrongList 24 25 27 28 29 16384 A (symbol A) w k q
unfolding replacement
replacement_wrong A w k q = Iff.trans (replacement_finds (reading A Symbols 16384 w) k q) (reading_finds replacement_number k q A Symbols 16384 w)

-- ---- a row with what is kept beside it

-- place p is the first where the second list differs from the first
abbrev OtherAt : List ℕ → List ℕ → ℕ → Type 0
OtherAt l t p = (get_or t p 0 ≡ get_or l p 0 → ⊥) × ((k : ℕ) → k < p → get_or t k 0 ≡ get_or l k 0)

-- up to place n two lists are the same, or there is a first place where they differ
other_or_same : (l t : List ℕ) (n : ℕ) → ((k : ℕ) → k < n → get_or t k 0 ≡ get_or l k 0) ⊎ ((p : ℕ) × (p < n) × OtherAt l t p)
other_or_same l t zero = inl (λ k h. absurd (omega arith))
other_or_same l t (suc n) =
    ⊎_elim
    (λ same. go (eqb (get_or t n 0) (get_or l n 0)) refl same)
    (λ s. inr (s.0, omega (arith, s.1), s.2))
    (other_or_same l t n)
  where
    go : (b : Bool) → eqb (get_or t n 0) (get_or l n 0) ≡ b → ((k : ℕ) → k < n → get_or t k 0 ≡ get_or l k 0)
        → ((k : ℕ) → k < suc n → get_or t k 0 ≡ get_or l k 0) ⊎ ((p : ℕ) × (p < suc n) × OtherAt l t p)
    go true e same =
        inl (λ k h.
        below k n
        (λ i. same k i)
        (λ i. (let last : n ≡ k = omega arith in subst (λ (j : ℕ). get_or t j 0 ≡ get_or l j 0) last (eqb-true (get_or t n 0) (get_or l n 0) e))))
    go false e same = inr (n, omega arith, (eqb-false (get_or t n 0) (get_or l n 0) e, same))

other_first : (right l : List ℕ) (n k : ℕ) → k < n → (get_or l k 0 ≡ get_or right k 0 → ⊥) → (p : ℕ) × FirstOther right l n p
other_first right l n k h d =
    ⊎_elim
    (λ same. absurd (d (same k h)))
    (λ s. (s.0, record { within = s.1; differs = s.2.0; before = s.2.1 }))
    (other_or_same right l n)

-- What is refused for a place where the lists differ: `of` gives its number.
module _ (wrong : ℕ → Refusal) (of : ℕ → ℕ) (numbers : (p : ℕ) → number (wrong p) ≡ of p) (places : (p : ℕ) → place (wrong p) ≡ p) where
  -- the check names the first such place
  differs-first : (l t : List ℕ) (at p : ℕ) → length l ≤ length t → p < length l → OtherAt l t p → differs wrong at l t ≡ Err (wrong (at + p))
  unfolding differs
  differs-first [] t at p long h d = absurd (omega arith)
  differs-first (x ∷ l) [] at p long h d = absurd (omega arith)
  differs-first (x ∷ l) (y ∷ t) at zero long h d = rw (ne_eqb y x d.0) (ap (λ (k : ℕ). Err (wrong k)) (sym (add-zero at)))
  differs-first (x ∷ l) (y ∷ t) at (suc p) long h d =
      let same : y ≡ x = d.1 0 (omega arith) in
      let up : at + 1 + p ≡ at + suc p = omega arith in
      rw (eq-eqb y x same)
      (differs-first l t (at + 1) p (omega arith) (omega arith) (d.0, λ k i. d.1 (suc k) (omega arith)) ∙ ap (λ (k : ℕ). Err (wrong k)) up)

  -- it is fine with the same lists
  differs_none : (l t : List ℕ) (at : ℕ) → length l ≤ length t → ((k : ℕ) → k < length l → get_or t k 0 ≡ get_or l k 0) → differs wrong at l t ≡ Ok tt
  unfolding differs
  differs_none [] t at long same = refl
  differs_none (x ∷ l) [] at long same = absurd (omega arith)
  differs_none (x ∷ l) (y ∷ t) at long same =
      let here : y ≡ x = same 0 (omega arith) in
      rw (eq-eqb y x here) (differs_none l t (at + 1) (omega arith) (λ k i. same (suc k) (omega arith)))

  differs_wrong : (l t : List ℕ) (n : ℕ) → length l ≡ n → n ≤ length t → (k q : ℕ)
      → Refuses (differs wrong 0 l t) k q ↔ ((k ≡ of q) × FirstOther l t n q)
  differs_wrong l t n size long k q = (to, λ h. from h.0 h.1)
    where
      named : (p : ℕ) → p < n → OtherAt l t p → differs wrong 0 l t ≡ Err (wrong p)
      named p h d = differs-first l t 0 p (omega arith) (omega arith) d ∙ ap (λ (j : ℕ). Err (wrong j)) (zero-add p)

      from : k ≡ of q → FirstOther l t n q → Refuses (differs wrong 0 l t) k q
      from e f =
          is_refused (differs wrong 0 l t) (wrong q) k q (named q f.within (f.differs, f.before)) (e ∙ sym (numbers q)) (sym (places q))

      none : ((j : ℕ) → j < n → get_or t j 0 ≡ get_or l j 0) → differs wrong 0 l t ≡ Ok tt
      none same = differs_none l t 0 (omega arith) (λ j i. same j (omega arith))

      first : (p : ℕ) → p < n → OtherAt l t p → Refuses (differs wrong 0 l t) k q → (k ≡ of q) × FirstOther l t n q
      first p h d r =
          let x : Refuses (Err (wrong p)) k q = subst (λ (c : Result ⊤ Refusal). Refuses c k q) (named p h d) r in
          let there : p ≡ q = sym (x.1 ∙ places p) in
          let here : FirstOther l t n p = record { within = h; differs = d.0; before = d.1 } in
          (x.0 ∙ numbers p ∙ ap of there, subst (FirstOther l t n) there here)

      to : Refuses (differs wrong 0 l t) k q → (k ≡ of q) × FirstOther l t n q
      to r =
          ⊎_elim
          (λ same. absurd (subst (λ (c : Result ⊤ Refusal). Refuses c k q) (none same) r))
          (λ s. first s.0 s.1 s.2 r)
          (other_or_same l t n)

-- `whose` fault it is: `of` gives its number
module _ (whose : Kept → Refusal) (of : Kept → ℕ) (numbers : (x : Kept) → number (whose x) ≡ of x) (places : (x : Kept) → place (whose x) ≡ kept_place x) where
  kept_finds : (v : Result ⊤ Fault) (k q : ℕ) → Refuses (as_kept whose v) k q ↔ Finds (λ f. of (Misread f)) v k q
  kept_finds (Ok _) k q = Iff.rfl
  kept_finds (Err f) k q = (
    λ h. (h.0 ∙ numbers (Misread f), h.1 ∙ places (Misread f)),
    λ h. (h.0 ∙ sym (numbers (Misread f)), h.1 ∙ sym (places (Misread f))),
  )

  sizes_wrong : (n m k q : ℕ) → Refuses (sizes whose n m) k q ↔ WrongSizes (of (Misread Empty)) (of (Misread (Long n))) (of (Short n)) n m k q
  unfolding sizes
  sizes_wrong n m k q =
      let either = order (as_kept whose (sized n 16384)) (refuse_if (ltb m n) (whose (Short n))) k q in
      (λ h. ⊎_elim (λ x. inl (size.0 x)) (λ x. inr (short_to x.0 x.1)) (either.0 h), λ s. either.1 (⊎_elim (λ x. inl (size.1 x)) (λ x. inr (short_from x)) s))
    where
      size : Refuses (as_kept whose (sized n 16384)) k q ↔ WrongLength (of (Misread Empty)) (of (Misread (Long n))) n 16384 k q
      size = Iff.trans (kept_finds (sized n 16384) k q) (sized_finds (λ f. of (Misread f)) k q n 16384)

      short : Refuses (refuse_if (ltb m n) (whose (Short n))) k q ↔ ((k ≡ number (whose (Short n))) × (q ≡ place (whose (Short n))) × (m < n))
      short = test (ltb m n) (whose (Short n)) (m < n) k q (ltb-true m n) (lt-ltb m n)

      short_to : as_kept whose (sized n 16384) ≡ Ok tt → Refuses (refuse_if (ltb m n) (whose (Short n))) k q
          → (k ≡ of (Short n)) × (q ≡ n) × (0 < n) × (n ≤ 16384) × (m < n)
      short_to e h =
          let fits = sized_fits n 16384 (row_fine whose (sized n 16384) e) in
          let x = short.0 h in
          (x.0 ∙ numbers (Short n), x.1 ∙ places (Short n), fits.0, fits.1, x.2)

      short_from : (k ≡ of (Short n)) × (q ≡ n) × (0 < n) × (n ≤ 16384) × (m < n)
          → (as_kept whose (sized n 16384) ≡ Ok tt) × Refuses (refuse_if (ltb m n) (whose (Short n))) k q
      short_from x = (
        ap (as_kept whose) (sized_whole n 16384 x.2 x.3),
        short.1 (x.0 ∙ sym (numbers (Short n)), x.1 ∙ sym (places (Short n)), x.4),
      )

  symbols_wrong : (A w : List ℕ) (k q : ℕ) → Refuses (symbols whose A w) k q
      ↔ NotOneTree (of (Misread (Stray q))) (of (Misread (Early q))) (of (Misread (Extra q))) A (symbol A) w k q
  unfolding symbols
  symbols_wrong A w k q = Iff.trans (kept_finds (verdict A (symbol A) 1 0 w) k q) (verdict_finds (λ f. of (Misread f)) k q A (symbol A) w)

  stale_wrong : (A w t : List ℕ) (k q : ℕ) → length w ≤ length t → Refuses (fresh whose A w t) k q ↔ ((k ≡ of (Stale q)) × FirstStale A w t q)
  unfolding fresh
  stale_wrong A w t k q long =
      differs_wrong (λ p. whose (Stale p)) (λ p. of (Stale p)) (λ p. numbers (Stale p)) (λ p. places (Stale p)) (entries A w) t (length w) (length-table A w) long k q

  misclassed_wrong : (A w c : List ℕ) (k q : ℕ) → length w ≤ length c
      → Refuses (classed whose A w c) k q ↔ ((k ≡ of (Misclassed q)) × FirstMisclassed A w c q)
  unfolding classed
  misclassed_wrong A w c k q long =
      differs_wrong
      (λ p. whose (Misclassed p))
      (λ p. of (Misclassed p))
      (λ p. numbers (Misclassed p))
      (λ p. places (Misclassed p))
      (classes A w)
      c
      (length w)
      (class_of_row A w).0
      long
      k
      q

plain_row : (A w : List ℕ) (k q : ℕ) → Refuses (as_kept Row (reading A Symbols row_most w)) k q ↔ WrongList 4 5 7 8 9 16384 A (symbol A) w k q
plain_row A w k q = Iff.trans (kept_finds Row kept_number (λ x. refl) (λ x. refl) (reading A Symbols 16384 w) k q) (reading_finds row_number k q A Symbols 16384 w)

pub table : Table
unfolding on_record_number
table =
    record {
      alphabet-size = alphabet-size;
      arity_over = arity_over;
      no_leaf = no_leaf;
      row_sizes = sizes_wrong Row kept_number (λ x. refl) (λ x. refl);
      on_record_sizes = sizes_wrong OnRecord on_record_number (λ x. refl) (λ x. refl);
      row_symbols = symbols_wrong Row kept_number (λ x. refl) (λ x. refl);
      on_record_symbols = symbols_wrong OnRecord on_record_number (λ x. refl) (λ x. refl);
      stale = stale_wrong Row kept_number (λ x. refl) (λ x. refl);
      on_record_stale = stale_wrong OnRecord on_record_number (λ x. refl) (λ x. refl);
      misclassed = misclassed_wrong Row kept_number (λ x. refl) (λ x. refl);
      on_record_misclassed = misclassed_wrong OnRecord on_record_number (λ x. refl) (λ x. refl);
      other_first = other_first;
      pattern_wrong = pattern_wrong;
      sheet-size = sheet-size;
      sheet-sum = sheet-sum;
      replacement_wrong = replacement_wrong;
      position_past = position_past;
      too_long = too_long;
      output-short = output-short;
      plain_row = plain_row;
      line = λ k. (refl, refl);
      bytes = (refl, refl);
      order = order;
    }
