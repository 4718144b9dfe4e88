-- What the verdict on a list tells of it: each fault is found exactly where specs/Table says.
-- Assumes nothing.
use Rattle.std.specs.Prelude.{Result, Ok, Err, ⊤}
use Prim.Native.Nat.{ℕ, zero, suc, ◌+◌, ◌≤◌, ◌<◌}
use mathlib.Core.Path.{◌≡◌, refl, sym, ap, ◌∙◌, subst}
use mathlib.Core.List.{List, [], ◌∷◌}
use mathlib.Core.Bool.{Bool, true, false}
use mathlib.Core.Logic.{◌↔◌}
use native.Mathlib.Nat.{zero-add, add-zero}
use native.Mathlib.Omega.{arith}
use lib.Dec.{T}
use lib.ListN.{length, get_or, take}
use lib.Seq.{length-take-le, get_or-take, take_all}
use Rattle.rows.specs.Tree.{IsRow}
use Rattle.rows.specs.Row.{pick, verdict}
use Rattle.rows.specs.declared.Fault.TheVariants.{Empty, Long, Stray, Early, Extra}
use Rattle.rows.proofs.Accept.{verdict_step}
use Rattle.rows.proofs.Entry.{same_end}
use Rattle.rows.proofs.Passing.{below}
use Rattle.rows.proofs.Promises.{reads_rows, checksum_rule}
use Rattle.refusal_numbers.specs.Table.{Unfinished}
use Rattle.rows.specs.declared.Fault.{Fault}

module _ (A : List ℕ) (ok : ℕ → Bool) where
  -- reading for k trees is not through before place i of the list, and each number before it may stand
  abbrev pub Going : ℕ → ℕ → List ℕ → ℕ → Type 0
  Going k at w i = ((j : ℕ) → j < i → T (ok (get_or w j 0))) × ((j : ℕ) → j ≤ i → verdict A ok k at (take j w) ≡ Ok tt → ⊥)

  -- what a verdict on a list that starts at position `at` tells of it
  abbrev pub Says : ℕ → ℕ → List ℕ → Result ⊤ Fault → Type 0
  Says k at w (Ok _) = Unit {0}
  Says k at w (Err Empty) = ⊥
  Says k at w (Err (Long n)) = ⊥
  Says k at w (Err (Stray p)) = (i : ℕ) × (p ≡ at + i) × (i < length w) × (ok (get_or w i 0) ≡ false) × Going k at w i
  Says k at w (Err (Early n)) = (n ≡ at + length w) × Going k at w (length w)
  Says k at w (Err (Extra p)) = (i : ℕ) × (p ≡ at + i) × (i < length w) × (verdict A ok k at (take i w) ≡ Ok tt)

  -- a tree is still to come
  unread : (k at : ℕ) (w : List ℕ) (j : ℕ) → j ≤ 0 → verdict A ok (suc k) at (take j w) ≡ Ok tt → ⊥
  unfolding verdict
  unread k at w zero h e = cc
  unread k at w (suc j) h e = omega arith

  module _ (k at s : ℕ) (w : List ℕ) (h : T (ok s)) where
    -- one number more in front
    going_on : (i : ℕ) → Going (k + get_or A s 0) (at + 1) w i → Going (suc k) at (s ∷ w) (suc i)
    going_on i g = (stand, open_still)
      where
        stand : (j : ℕ) → j < suc i → T (ok (get_or (s ∷ w) j 0))
        stand zero b = h
        stand (suc j) b = g.0 j (omega arith)

        open_still : (j : ℕ) → j ≤ suc i → verdict A ok (suc k) at (take j (s ∷ w)) ≡ Ok tt → ⊥
        open_still zero b e = unread k at (s ∷ w) 0 (omega arith) e
        open_still (suc j) b e = g.1 j (omega arith) (sym (verdict_step A ok k at s (take j w) h) ∙ e)

    says_on : (v : Result ⊤ Fault) → Says (k + get_or A s 0) (at + 1) w v → Says (suc k) at (s ∷ w) v
    says_on (Ok _) t = tt
    says_on (Err Empty) t = t
    says_on (Err (Long n)) t = t
    says_on (Err (Stray p)) t = (suc t.0, t.1 ∙ omega arith, omega (arith, t.2), t.3, going_on t.0 t.4)
    says_on (Err (Early n)) t = (t.0 ∙ omega arith, going_on (length w) t.1)
    says_on (Err (Extra p)) t = (suc t.0, t.1 ∙ omega arith, omega (arith, t.2), verdict_step A ok k at s (take t.0 w) h ∙ t.3)

  pub told : (w : List ℕ) (k at : ℕ) → Says k at w (verdict A ok k at w)
  unfolding verdict
  told [] zero at = tt
  told [] (suc k) at = (sym (add-zero at), (λ j h. absurd (omega arith), unread k at []))
  told (s ∷ w) zero at = (0, sym (add-zero at), omega arith, refl)
  told (s ∷ w) (suc k) at = go (ok s) refl (told w (k + get_or A s 0) (at + 1))
    where
      go : (b : Bool) → ok s ≡ b → Says (k + get_or A s 0) (at + 1) w (verdict A ok (k + get_or A s 0) (at + 1) w)
          → Says (suc k) at (s ∷ w) (pick b (verdict A ok (k + get_or A s 0) (at + 1) w) (Err (Stray at)))
      go true e t = says_on k at s w (subst T (sym e) tt) (verdict A ok (k + get_or A s 0) (at + 1) w) t
      go false e t = (0, sym (add-zero at), omega arith, e, (λ j h. absurd (omega arith), unread k at (s ∷ w)))

  -- the same of one tree from the start on
  unfinished : (w : List ℕ) (i : ℕ) → Going 1 0 w i → Unfinished A ok w i
  unfinished w i g = record { stand = g.0; unended = λ j h x. g.1 j (omega arith) ((reads_rows A ok (take j w)).1 x) }

  wrong : (x : ℕ) → T (ok x) → ok x ≡ false → ⊥
  wrong x h e = subst T e h

  -- each number of a beginning that is a row may stand
  row_stands : (w : List ℕ) (i : ℕ) → i ≤ length w → IsRow A ok (take i w) → (p : ℕ) → p < i → T (ok (get_or w p 0))
  row_stands w i b x p h =
      let every = ((checksum_rule A ok (take i w)).0 x).0 in
      subst (λ (n : ℕ). T (ok n)) (get_or-take i w p 0 h) (every p (omega (arith, length-take-le i w b)))

  whole_begins : (w : List ℕ) → verdict A ok 1 0 w ≡ Ok tt → IsRow A ok (take (length w) w)
  whole_begins w e = subst (IsRow A ok) (sym (take_all (length w) w (omega arith))) ((reads_rows A ok w).0 e)

  pub stray : (w : List ℕ) (p : ℕ) → (verdict A ok 1 0 w ≡ Err (Stray p)) ↔ ((p < length w) × (ok (get_or w p 0) ≡ false) × Unfinished A ok w p)
  stray w p = (to, λ c. from c (verdict A ok 1 0 w) refl (told w 1 0))
    where
      to : verdict A ok 1 0 w ≡ Err (Stray p) → (p < length w) × (ok (get_or w p 0) ≡ false) × Unfinished A ok w p
      to e =
          let t : Says 1 0 w (Err (Stray p)) = subst (Says 1 0 w) e (told w 1 0) in
          let same : t.0 ≡ p = omega (arith, t.1) in
          subst (λ (i : ℕ). (i < length w) × (ok (get_or w i 0) ≡ false) × Unfinished A ok w i) same (t.2, t.3, unfinished w t.0 t.4)

      from : (p < length w) × (ok (get_or w p 0) ≡ false) × Unfinished A ok w p → (v : Result ⊤ Fault) → verdict A ok 1 0 w ≡ v → Says 1 0 w v
          → verdict A ok 1 0 w ≡ Err (Stray p)
      from c (Ok _) e t = absurd (wrong (get_or w p 0) (row_stands w (length w) (omega arith) (whole_begins w e) p c.0) c.1)
      from c (Err Empty) e t = absurd t
      from c (Err (Long n)) e t = absurd t
      from c (Err (Stray q)) e t =
          below t.0 p
          (λ h. absurd (wrong (get_or w t.0 0) (c.2.stand t.0 h) t.3))
          (λ h.
          below p t.0
          (λ i. absurd (wrong (get_or w p 0) (t.4.0 p i) c.1))
          (λ i. (let same : q ≡ p = omega (arith, t.1) in e ∙ ap (λ (n : ℕ). Err (Stray n)) same)))
      from c (Err (Early n)) e t = absurd (wrong (get_or w p 0) (t.1.0 p c.0) c.1)
      from c (Err (Extra q)) e t =
          let row = (reads_rows A ok (take t.0 w)).0 t.3 in
          below p t.0
          (λ h. absurd (wrong (get_or w p 0) (row_stands w t.0 (omega (arith, t.2)) row p h) c.1))
          (λ h. absurd (c.2.unended t.0 h row))

  pub early : (w : List ℕ) (n : ℕ) → (verdict A ok 1 0 w ≡ Err (Early n)) ↔ ((n ≡ length w) × Unfinished A ok w (length w))
  early w n = (to, λ c. from c (verdict A ok 1 0 w) refl (told w 1 0))
    where
      to : verdict A ok 1 0 w ≡ Err (Early n) → (n ≡ length w) × Unfinished A ok w (length w)
      to e =
          let t : Says 1 0 w (Err (Early n)) = subst (Says 1 0 w) e (told w 1 0) in
          (t.0 ∙ zero-add (length w), unfinished w (length w) t.1)

      from : (n ≡ length w) × Unfinished A ok w (length w) → (v : Result ⊤ Fault) → verdict A ok 1 0 w ≡ v → Says 1 0 w v → verdict A ok 1 0 w ≡ Err (Early n)
      from c (Ok _) e t = absurd (c.1.unended (length w) (omega arith) (whole_begins w e))
      from c (Err Empty) e t = absurd t
      from c (Err (Long k)) e t = absurd t
      from c (Err (Stray q)) e t = absurd (wrong (get_or w t.0 0) (c.1.stand t.0 t.2) t.3)
      from c (Err (Early k)) e t = let same : k ≡ n = omega (arith, t.0, c.0) in e ∙ ap (λ (j : ℕ). Err (Early j)) same
      from c (Err (Extra q)) e t = absurd (c.1.unended t.0 (omega (arith, t.2)) ((reads_rows A ok (take t.0 w)).0 t.3))

  pub extra : (w : List ℕ) (p : ℕ) → (verdict A ok 1 0 w ≡ Err (Extra p)) ↔ ((p < length w) × IsRow A ok (take p w))
  extra w p = (to, λ c. from c (verdict A ok 1 0 w) refl (told w 1 0))
    where
      to : verdict A ok 1 0 w ≡ Err (Extra p) → (p < length w) × IsRow A ok (take p w)
      to e =
          let t : Says 1 0 w (Err (Extra p)) = subst (Says 1 0 w) e (told w 1 0) in
          let same : t.0 ≡ p = omega (arith, t.1) in
          subst (λ (i : ℕ). (i < length w) × IsRow A ok (take i w)) same (t.2, (reads_rows A ok (take t.0 w)).0 t.3)

      from : (p < length w) × IsRow A ok (take p w) → (v : Result ⊤ Fault) → verdict A ok 1 0 w ≡ v → Says 1 0 w v → verdict A ok 1 0 w ≡ Err (Extra p)
      from c (Ok _) e t = absurd (omega (arith, c.0, same_end A ok ok w p (length w) (omega (arith, c.0)) (omega arith) c.1 (whole_begins w e)))
      from c (Err Empty) e t = absurd t
      from c (Err (Long k)) e t = absurd t
      from c (Err (Stray q)) e t =
          below t.0 p
          (λ h. absurd (wrong (get_or w t.0 0) (row_stands w p (omega (arith, c.0)) c.1 t.0 h) t.3))
          (λ h. absurd (t.4.1 p h ((reads_rows A ok (take p w)).1 c.1)))
      from c (Err (Early k)) e t = absurd (t.1.1 p (omega (arith, c.0)) ((reads_rows A ok (take p w)).1 c.1))
      from c (Err (Extra q)) e t =
          let row = (reads_rows A ok (take t.0 w)).0 t.3 in
          let once : t.0 ≡ p =
          below t.0 p
          (λ h. same_end A ok ok w t.0 p (omega arith) (omega (arith, c.0)) row c.1)
          (λ h. sym (same_end A ok ok w p t.0 h (omega (arith, t.2)) c.1 row)) in
          let same : q ≡ p = omega (arith, t.1) in
          e ∙ ap (λ (j : ℕ). Err (Extra j)) same
