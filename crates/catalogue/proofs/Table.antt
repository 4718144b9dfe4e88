-- The lines of the table of refusals that are a catalogue's, as specs/Table states them, each with its proof.
-- Assumes nothing.
use Rattle.std.specs.Prelude.{Result, Ok, Err, ⊤}
use Prim.Native.Nat.{ℕ, zero, suc, ◌+◌, ◌-◌, ◌*◌, ◌≤◌, ◌<◌}
use mathlib.Core.Path.{◌≡◌, refl, sym, ap, ◌∙◌, subst}
use mathlib.Core.List.{List, [], ◌∷◌, map}
use mathlib.Core.Bool.{Bool, true, false}
use mathlib.Core.Logic.{◌↔◌, ◌⊎◌, inl, inr, ⊎_elim}
use native.Mathlib.Nat.{mul-suc, mul-zero}
use native.Mathlib.Omega.{arith}
use borrow.Author.Tests.{ltb-true, ltb-false, eqb-true, eqb-false, lt-ltb, le-ltb, eq-eqb, ne_eqb}
use lib.Dec.{ltb, eqb}
use lib.ListN.{length, get_or}
use Rattle.rows.specs.Limits.{row_most}
use Rattle.rows.specs.Row.{pick, reading}
use Rattle.rows.specs.Refusals.{◌then◌}
use Rattle.rows.specs.declared.Fault.{Fault}
use Rattle.rows.specs.declared.Leaves.TheVariants.{Symbols}
use Rattle.rows.specs.declared.CatalogueFault.TheVariants.{Long, Short, Programmes, NotRising, Misplaced, LeftOver}
use Rattle.rows.specs.declared.Refusal.{Refusal}
use Rattle.rows.specs.declared.Refusal.TheVariants.{Catalogue, Programme}
use Rattle.rows.proofs.Passing.{below, clash}
use Rattle.refusal_numbers.specs.Numbers.{number, place}
use Rattle.refusal_numbers.specs.Table.{Refuses}
use Rattle.refusal_numbers.proofs.Table.{test}
use Rattle.catalogue.specs.Catalogue.{Numbered, number_of, row_of}
use Rattle.catalogue.specs.Refusals.{file_size, holds, few, rises, placed, as_programme, rows_fit, total, lengths_fit}
use Rattle.catalogue.specs.Table.{FirstNotAbove, end_of, Right, FirstMisplaced, FirstFaulty, Table}
use Rattle.catalogue.specs.declared.Entry.{Entry}

file_long : (n k q : ℕ) → Refuses (file_size n) k q ↔ ((k ≡ 66) × (q ≡ n) × (65536 < n))
unfolding file_size
file_long n k q = test (ltb 65536 n) (Catalogue (Long n)) (65536 < n) k q (ltb-true 65536 n) (lt-ltb 65536 n)

file_short : (n m k q : ℕ) → Refuses (holds n m) k q ↔ ((k ≡ 65) × (q ≡ n) × (n < m))
unfolding holds
file_short n m k q = test (ltb n m) (Catalogue (Short n)) (n < m) k q (ltb-true n m) (lt-ltb n m)

programmes_many : (n k q : ℕ) → Refuses (few n) k q ↔ ((k ≡ 88) × (q ≡ n) × (256 < n))
unfolding few
programmes_many n k q = test (ltb 256 n) (Catalogue (Programmes n)) (256 < n) k q (ltb-true 256 n) (lt-ltb 256 n)

-- ---- 67

-- number i is the first that is not above the one before it; the first of all, that is below `least`
record FirstBelow (least : ℕ) (ns : List ℕ) (i : ℕ) : Type 0 where
  pub within : i < length ns
  pub at_front : i ≡ 0 → get_or ns 0 0 < least
  pub front : 0 < i → least ≤ get_or ns 0 0
  pub not_above : 0 < i → get_or ns i 0 ≤ get_or ns (i - 1) 0
  pub before : (k : ℕ) → suc k < i → get_or ns k 0 < get_or ns (suc k) 0

module _ (n least : ℕ) (ns : List ℕ) where
  below_here : n < least → FirstBelow least (n ∷ ns) 0
  below_here h =
      record {
        within = omega arith;
        at_front = λ z. h;
        front = λ z. absurd (omega arith);
        not_above = λ z. absurd (omega arith);
        before = λ k z. absurd (omega arith);
      }

  not_above_next : (i : ℕ) → FirstBelow (n + 1) ns i → get_or (n ∷ ns) (suc i) 0 ≤ get_or (n ∷ ns) i 0
  not_above_next zero f = omega (arith, f.at_front refl)
  not_above_next (suc i) f =
      let one : suc i - 1 ≡ i = omega arith in
      subst (λ (j : ℕ). get_or ns (suc i) 0 ≤ get_or ns j 0) one (f.not_above (omega arith))

  before_next : (i : ℕ) → FirstBelow (n + 1) ns i → (k : ℕ) → suc k < suc i → get_or (n ∷ ns) k 0 < get_or (n ∷ ns) (suc k) 0
  before_next i f zero z = omega (arith, f.front (omega arith))
  before_next i f (suc k) z = f.before k (omega arith)

  below_later : (i : ℕ) → least ≤ n → FirstBelow (n + 1) ns i → FirstBelow least (n ∷ ns) (suc i)
  below_later i h f =
      record {
        within = omega (arith, f.within);
        at_front = λ z. absurd (omega arith);
        front = λ z. h;
        not_above = λ z. (let one : i ≡ suc i - 1 = omega arith in subst (λ (j : ℕ). get_or (n ∷ ns) (suc i) 0 ≤ get_or (n ∷ ns) j 0) one (not_above_next i f));
        before = before_next i f;
      }

  below_rest : (i : ℕ) → FirstBelow least (n ∷ ns) (suc i) → FirstBelow (n + 1) ns i
  below_rest i f =
      record {
        within = omega (arith, f.within);
        at_front = λ z. at_zero i z (last i (f.not_above (omega arith)));
        front = λ z. omega (arith, f.before 0 (omega arith));
        not_above = λ z. later i z (last i (f.not_above (omega arith)));
        before = λ k z. f.before (suc k) (omega arith);
      }
    where
      last : (i : ℕ) → get_or (n ∷ ns) (suc i) 0 ≤ get_or (n ∷ ns) (suc i - 1) 0 → get_or (n ∷ ns) (suc i) 0 ≤ get_or (n ∷ ns) i 0
      last i h = let one : suc i - 1 ≡ i = omega arith in subst (λ (j : ℕ). get_or (n ∷ ns) (suc i) 0 ≤ get_or (n ∷ ns) j 0) one h

      at_zero : (i : ℕ) → i ≡ 0 → get_or (n ∷ ns) (suc i) 0 ≤ get_or (n ∷ ns) i 0 → get_or ns 0 0 < n + 1
      at_zero zero z h = omega arith
      at_zero (suc i) z h = absurd (omega arith)

      later : (i : ℕ) → 0 < i → get_or (n ∷ ns) (suc i) 0 ≤ get_or (n ∷ ns) i 0 → get_or ns i 0 ≤ get_or ns (i - 1) 0
      later zero z h = absurd (omega arith)
      later (suc i) z h = let one : i ≡ suc i - 1 = omega arith in subst (λ (j : ℕ). get_or ns (suc i) 0 ≤ get_or ns j 0) one h

module _ (step : ℕ) where
  further : (at i : ℕ) → at + step + step * i ≡ at + step * suc i
  further at i = omega (arith, mul-suc step i)

  falls_to : (at least : ℕ) (ns : List ℕ) (k q : ℕ) → Refuses (rises step at least ns) k q
      → (i : ℕ) × (k ≡ 67) × (q ≡ at + step * i) × FirstBelow least ns i
  unfolding rises
  falls_to at least [] k q h = absurd h
  falls_to at least (n ∷ ns) k q h = go (ltb n least) refl (falls_to (at + step) (n + 1) ns k q) h
    where
      go : (b : Bool) → ltb n least ≡ b
          → (Refuses (rises step (at + step) (n + 1) ns) k q → (i : ℕ) × (k ≡ 67) × (q ≡ at + step + step * i) × FirstBelow (n + 1) ns i)
          → Refuses (pick b (Err (Catalogue (NotRising at))) (rises step (at + step) (n + 1) ns)) k q
          → (i : ℕ) × (k ≡ 67) × (q ≡ at + step * i) × FirstBelow least (n ∷ ns) i
      go true e rest g = (0, g.0, g.1 ∙ omega (arith, mul-zero step), below_here n least ns (ltb-true n least e))
      go false e rest g =
          let r = rest g in
          (suc r.0, r.1, r.2 ∙ further at r.0, below_later n least ns r.0 (ltb-false n least e) r.3)

  falls_from : (at least : ℕ) (ns : List ℕ) (i : ℕ) → FirstBelow least ns i → rises step at least ns ≡ Err (Catalogue (NotRising (at + step * i)))
  unfolding rises
  falls_from at least [] i f = absurd (omega (arith, f.within))
  falls_from at least (n ∷ ns) zero f =
      ap (λ (b : Bool). pick b (Err (Catalogue (NotRising at))) (rises step (at + step) (n + 1) ns)) (lt-ltb n least (f.at_front refl))
      ∙ ap (λ (p : ℕ). Err (Catalogue (NotRising p))) (omega (arith, mul-zero step))
  falls_from at least (n ∷ ns) (suc i) f =
      ap (λ (b : Bool). pick b (Err (Catalogue (NotRising at))) (rises step (at + step) (n + 1) ns)) (le-ltb n least (f.front (omega arith)))
      ∙ falls_from (at + step) (n + 1) ns i (below_rest n least ns i f)
      ∙ ap (λ (p : ℕ). Err (Catalogue (NotRising p))) (further at i)

-- with nothing below which the first could be
not_above_of : (ns : List ℕ) (i : ℕ) → FirstBelow 0 ns i → FirstNotAbove ns i
not_above_of ns zero f = absurd (omega (arith, f.at_front refl))
not_above_of ns (suc i) f =
    record { behind = omega arith; within = f.within; not_above = f.not_above (omega arith); before = f.before }

of_not_above : (ns : List ℕ) (i : ℕ) → FirstNotAbove ns i → FirstBelow 0 ns i
of_not_above ns i f =
    record {
      within = f.within;
      at_front = λ z. absurd (omega (arith, f.behind));
      front = λ z. omega arith;
      not_above = λ z. f.not_above;
      before = f.before;
    }

-- a check refuses with the number and the place of the refusal that it gives
given : (c : Result ⊤ Refusal) (x : Refusal) (k q : ℕ) → c ≡ Err x → k ≡ number x → q ≡ place x → Refuses c k q
given c x k q e m p = subst (λ (d : Result ⊤ Refusal). Refuses d k q) (sym e) (m, p)

not_rising_in_file : (ns : List ℕ) (k q : ℕ) → Refuses (rises 12 4 0 ns) k q ↔ ((i : ℕ) × (k ≡ 67) × (q ≡ 4 + 12 * i) × FirstNotAbove ns i)
not_rising_in_file ns k q = (
  λ h. (let r = falls_to 12 4 0 ns k q h in (r.0, r.1, r.2, not_above_of ns r.0 r.3)),
  λ x. given (rises 12 4 0 ns) (Catalogue (NotRising (4 + 12 * x.0))) k q (falls_from 12 4 0 ns x.0 (of_not_above ns x.0 x.3)) x.1 x.2,
)

not_rising : (ns : List ℕ) (k q : ℕ) → Refuses (rises 1 0 0 ns) k q ↔ ((k ≡ 67) × FirstNotAbove ns q)
not_rising ns k q = (
  λ h. (let r = falls_to 1 0 0 ns k q h in let at : r.0 ≡ q = omega (arith, r.2) in (r.1, subst (FirstNotAbove ns) at (not_above_of ns r.0 r.3))),
  λ x. given (rises 1 0 0 ns) (Catalogue (NotRising (0 + 1 * q))) k q (falls_from 1 0 0 ns q (of_not_above ns q x.1)) x.0 (omega arith),
)

-- ---- 68, 69

module _ (size next : ℕ) (e : Entry) (es : List Entry) where
  abbrev end : ℕ
  end = next + 2 * e.length

  right_here : e.start ≡ next → end ≤ size → Right size next (e ∷ es) 0
  unfolding end_of
  right_here s h = record { starts = s; ends = h }

  right_later : (i : ℕ) → Right size end es i → Right size next (e ∷ es) (suc i)
  unfolding end_of
  right_later i r = record { starts = r.starts; ends = r.ends }

  right_rest : (i : ℕ) → Right size next (e ∷ es) (suc i) → Right size end es i
  unfolding end_of
  right_rest i r = record { starts = r.starts; ends = r.ends }

  all_right : e.start ≡ next → end ≤ size → (n : ℕ) → ((i : ℕ) → i < n → Right size end es i) → (i : ℕ) → i < suc n → Right size next (e ∷ es) i
  all_right s h n r zero z = right_here s h
  all_right s h n r (suc i) z = right_later i (r i (omega arith))

  misplaced_here : (e.start ≡ next → ⊥) ⊎ (size < end) → FirstMisplaced size next (e ∷ es) 0
  unfolding end_of
  misplaced_here w = record { within = omega arith; wrong = w; before = λ k z. absurd (omega arith) }

  misplaced_later : (i : ℕ) → e.start ≡ next → end ≤ size → FirstMisplaced size end es i → FirstMisplaced size next (e ∷ es) (suc i)
  unfolding end_of
  misplaced_later i s h f = record { within = omega (arith, f.within); wrong = f.wrong; before = all_right s h i f.before }

  misplaced_rest : (i : ℕ) → FirstMisplaced size next (e ∷ es) (suc i) → FirstMisplaced size end es i
  unfolding end_of
  misplaced_rest i f = record { within = omega (arith, f.within); wrong = f.wrong; before = λ k z. right_rest k (f.before (suc k) (omega arith)) }

-- what is wrong in entries of which the first stands at byte `at`
abbrev Wrong : (size at next : ℕ) (es : List Entry) (k q : ℕ) → Type 0
Wrong size at next es k q =
    ((i : ℕ) × (k ≡ 68) × (q ≡ at + 12 * i) × FirstMisplaced size next es i)
    ⊎ ((k ≡ 69) × (q ≡ end_of next es (length es)) × (q < size) × ((i : ℕ) → i < length es → Right size next es i))

module _ (size : ℕ) where
  placed_to : (at next : ℕ) (es : List Entry) (k q : ℕ) → next ≤ size → Refuses (placed size at next es) k q → Wrong size at next es k q
  unfolding placed end_of
  placed_to at next [] k q n h = go (eqb next size) refl h
    where
      go : (b : Bool) → eqb next size ≡ b → Refuses (pick b (Ok tt) (Err (Catalogue (LeftOver next)))) k q → Wrong size at next [] k q
      go true e g = absurd g
      go false e g = let other = eqb-false next size e in inr (g.0, g.1, below next size (λ z. omega (arith, g.1)) (λ z. absurd (other (omega arith))), λ i z. absurd (omega arith))
  placed_to at next (e ∷ es) k q n h =
      go (eqb e.start next) (ltb size (next + 2 * e.length)) refl refl (placed_to (at + 12) (next + 2 * e.length) es k q) h
    where
      go : (a b : Bool) → eqb e.start next ≡ a → ltb size (next + 2 * e.length) ≡ b
          → (next + 2 * e.length ≤ size → Refuses (placed size (at + 12) (next + 2 * e.length) es) k q → Wrong size (at + 12) (next + 2 * e.length) es k q)
          → Refuses (pick a (pick b (Err (Catalogue (Misplaced at))) (placed size (at + 12) (next + 2 * e.length) es)) (Err (Catalogue (Misplaced at)))) k q
          → Wrong size at next (e ∷ es) k q
      go false b x y rest g = inl (0, g.0, omega (arith, g.1), misplaced_here size next e es (inl (eqb-false e.start next x)))
      go true true x y rest g = inl (0, g.0, omega (arith, g.1), misplaced_here size next e es (inr (ltb-true size (next + 2 * e.length) y)))
      go true false x y rest g =
          let s = eqb-true e.start next x in
          let z = ltb-false size (next + 2 * e.length) y in
          ⊎_elim
          (λ r. inl (suc r.0, r.1, omega (arith, r.2), misplaced_later size next e es r.0 s z r.3))
          (λ r. inr (r.0, r.1, r.2, all_right size next e es s z (length es) r.3))
          (rest z g)

  misplaced_from : (at next : ℕ) (es : List Entry) (i : ℕ) → FirstMisplaced size next es i → placed size at next es ≡ Err (Catalogue (Misplaced (at + 12 * i)))
  unfolding placed end_of
  misplaced_from at next [] i f = absurd (omega (arith, f.within))
  misplaced_from at next (e ∷ es) zero f = go (eqb e.start next) (ltb size (next + 2 * e.length)) refl refl
    where
      go : (a b : Bool) → eqb e.start next ≡ a → ltb size (next + 2 * e.length) ≡ b
          → pick a (pick b (Err (Catalogue (Misplaced at))) (placed size (at + 12) (next + 2 * e.length) es)) (Err (Catalogue (Misplaced at)))
          ≡ Err (Catalogue (Misplaced (at + 12 * 0)))
      go false b x y = ap (λ (p : ℕ). Err (Catalogue (Misplaced p))) (omega arith)
      go true true x y = ap (λ (p : ℕ). Err (Catalogue (Misplaced p))) (omega arith)
      go true false x y =
          absurd (⊎_elim (λ w. w (eqb-true e.start next x)) (λ w. omega (arith, ltb-false size (next + 2 * e.length) y)) f.wrong)
  misplaced_from at next (e ∷ es) (suc i) f =
      let r = f.before 0 (omega arith) in
      simp (eq-eqb e.start next r.starts, le-ltb size (next + 2 * e.length) r.ends)
      (misplaced_from (at + 12) (next + 2 * e.length) es i (misplaced_rest size next e es i f) ∙ ap (λ (p : ℕ). Err (Catalogue (Misplaced p))) (omega arith))

  left_over_from : (at next : ℕ) (es : List Entry) → end_of next es (length es) < size → ((i : ℕ) → i < length es → Right size next es i)
      → placed size at next es ≡ Err (Catalogue (LeftOver (end_of next es (length es))))
  unfolding placed end_of
  left_over_from at next [] h r = simp (ne_eqb next size (λ e. omega arith))
  left_over_from at next (e ∷ es) h r =
      let s = r 0 (omega arith) in
      simp (eq-eqb e.start next s.starts, le-ltb size (next + 2 * e.length) s.ends)
      (left_over_from (at + 12) (next + 2 * e.length) es h (λ i z. right_rest size next e es i (r (suc i) (omega arith))))

misplaced_in_file : (size next : ℕ) (es : List Entry) (k q : ℕ) → next ≤ size → Refuses (placed size 4 next es) k q ↔ Wrong size 4 next es k q
misplaced_in_file size next es k q n = (
  placed_to size 4 next es k q n,
  λ s. ⊎_elim
      (λ x. given (placed size 4 next es) (Catalogue (Misplaced (4 + 12 * x.0))) k q (misplaced_from size 4 next es x.0 x.3) x.1 x.2)
      (λ x. given (placed size 4 next es) (Catalogue (LeftOver (end_of next es (length es)))) k q (left_over_from size 4 next es (omega (arith, x.1, x.2)) x.3) x.0 x.1)
      s,
)

misplaced : (ns ls : List ℕ) (m k q : ℕ)
    → Refuses (lengths_fit ns ls m) k q ↔ ((k ≡ 68) × (q ≡ m) × ((length ls ≡ length ns → ⊥) ⊎ (total ls ≡ m → ⊥)))
unfolding lengths_fit
misplaced ns ls m k q = go (eqb (length ls) (length ns)) (eqb (total ls) m) refl refl
  where
    go : (a b : Bool) → eqb (length ls) (length ns) ≡ a → eqb (total ls) m ≡ b
        → Refuses (pick a (pick b (Ok tt) (Err (Catalogue (Misplaced m)))) (Err (Catalogue (Misplaced m)))) k q
        ↔ ((k ≡ 68) × (q ≡ m) × ((length ls ≡ length ns → ⊥) ⊎ (total ls ≡ m → ⊥)))
    go false b x y = (λ h. (h.0, h.1, inl (eqb-false (length ls) (length ns) x)), λ h. (h.0, h.1))
    go true false x y = (λ h. (h.0, h.1, inr (eqb-false (total ls) m y)), λ h. (h.0, h.1))
    go true true x y = (
      λ h. absurd h,
      λ h. absurd (⊎_elim (λ w. w (eqb-true (length ls) (length ns) x)) (λ w. w (eqb-true (total ls) m y)) h.2),
    )

-- ---- the rows

abbrev Faults : (A : List ℕ) (ps : List Numbered) (x : Refusal) → Type 0
Faults A ps x = (i : ℕ) × (f : Fault) × (x ≡ Programme (get_or (map number_of ps) i 0) f) × FirstFaulty A ps i f

faulty_to : (A : List ℕ) (ps : List Numbered) (x : Refusal) → rows_fit A ps ≡ Err x → Faults A ps x
unfolding rows_fit
faulty_to A [] x e = absurd (clash (Ok tt) x refl e)
faulty_to A (p ∷ ps) x e = go (reading A Symbols row_most p.row) refl (faulty_to A ps x) e
  where
    go : (v : Result ⊤ Fault) → reading A Symbols row_most p.row ≡ v → (rows_fit A ps ≡ Err x → Faults A ps x)
        → as_programme p.number v then rows_fit A ps ≡ Err x → Faults A (p ∷ ps) x
    go (Err f) r rest e = (0, f, cc, record { within = omega arith; faulty = r; before = λ k z. absurd (omega arith) })
    go (Ok _) r rest e =
        let y = rest e in
        (suc y.0, y.1, y.2, record { within = omega (arith, y.3.within); faulty = y.3.faulty; before = earlier y.0 y.3.before })
      where
        earlier : (i : ℕ) → ((k : ℕ) → k < i → reading A Symbols row_most (get_or (map row_of ps) k []) ≡ Ok tt)
            → (k : ℕ) → k < suc i → reading A Symbols row_most (get_or (map row_of (p ∷ ps)) k []) ≡ Ok tt
        earlier i b zero z = r
        earlier i b (suc k) z = b k (omega arith)

faulty_from : (A : List ℕ) (ps : List Numbered) (i : ℕ) (f : Fault) → FirstFaulty A ps i f
    → rows_fit A ps ≡ Err (Programme (get_or (map number_of ps) i 0) f)
unfolding rows_fit
faulty_from A [] i f h = absurd (omega (arith, h.within))
faulty_from A (p ∷ ps) zero f h = ap (λ (v : Result ⊤ Fault). as_programme p.number v then rows_fit A ps) h.faulty
faulty_from A (p ∷ ps) (suc i) f h =
    ap (λ (v : Result ⊤ Fault). as_programme p.number v then rows_fit A ps) (h.before 0 (omega arith))
    ∙ faulty_from A ps i f (record { within = omega (arith, h.within); faulty = h.faulty; before = λ k z. h.before (suc k) (omega arith) })

row_faulty : (A : List ℕ) (ps : List Numbered) (x : Refusal) → (rows_fit A ps ≡ Err x) ↔ Faults A ps x
row_faulty A ps x = (faulty_to A ps x, λ y. faulty_from A ps y.0 y.1 y.3 ∙ ap (λ (z : Refusal). Err z) (sym y.2))

pub table : Table
table =
    record {
      file_long = file_long;
      file_short = file_short;
      programmes_many = programmes_many;
      not_rising = not_rising;
      not_rising_in_file = not_rising_in_file;
      misplaced_in_file = misplaced_in_file;
      misplaced = misplaced;
      row_faulty = row_faulty;
    }
