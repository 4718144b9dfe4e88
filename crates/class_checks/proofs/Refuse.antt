-- What is refused of a list of classes: nothing where it starts with the right ones, else the first place where it does not; and what
-- the scan asks for and grants.
-- Assumes nothing.
use Rattle.std.specs.Prelude.{Ok, Err}
use Prim.Native.Nat.{ℕ, zero, suc, ◌+◌, ◌≤◌, ◌<◌}
use mathlib.Core.Path.{◌≡◌, sym, ap, ◌∙◌, subst}
use mathlib.Core.List.{List, [], ◌∷◌, ◌++◌}
use mathlib.Core.Bool.{Bool, true, false}
use native.Mathlib.Omega.{arith}
use borrow.Author.Tests.{eq-eqb, ne_eqb}
use lib.ListN.{length, get_or, take, drop, take-append-drop}
use lib.Seq.{take_at, ext_get_or, get_or-take, length-take-le}
use Rattle.rows.specs.Buffers.{written}
use Rattle.rows.specs.Tree.{Forest, size}
use Rattle.rows.specs.Parse.{parse}
use Rattle.rows.specs.Classes.{FirstEqual, classes_of, classes}
use Rattle.rows.specs.Refusals.{differs, classed}
use Rattle.rows.specs.declared.Kept.{Kept}
use Rattle.rows.specs.declared.Kept.TheVariants.{Misclassed}
use Rattle.rows.specs.declared.Refusal.{Refusal}
use Rattle.rows.proofs.Differ.{differs_same}
use Rattle.rows.proofs.Classes.{class_of_row}
use Rattle.rows.proofs.Parse.{size-parse}
use Rattle.tables.specs.Given.{Right, Sized}
use Rattle.classes.specs.Shown.{Shown, Seen}
use Rattle.classes.proofs.Shown.{right_shown}
use Rattle.classes.proofs.Front.{first-classes}
use Rattle.class_checks.specs.Repeats.{Grants, Starts}

-- the first place where two lists differ
differs_at : (wrong : ℕ → Refusal) (at i : ℕ) (l t : List ℕ) → i < length l → i < length t → ((q : ℕ) → q < i → get_or t q 0 ≡ get_or l q 0)
    → (get_or t i 0 ≡ get_or l i 0 → ⊥) → differs wrong at l t ≡ Err (wrong (at + i))
unfolding differs
differs_at wrong at i [] t h m same d = absurd (omega arith)
differs_at wrong at i (e ∷ es) [] h m same d = absurd (omega arith)
differs_at wrong at zero (e ∷ es) (x ∷ t) h m same d =
    let there : at ≡ at + 0 = omega arith in
    simp (ne_eqb x e d) (ap (λ (n : ℕ). Err (wrong n)) there)
differs_at wrong at (suc i) (e ∷ es) (x ∷ t) h m same d =
    let there : at + 1 + i ≡ at + suc i = omega arith in
    simp (eq-eqb x e (same 0 (omega arith)))
    (differs_at wrong (at + 1) i es t (omega arith) (omega arith) (λ q k. same (suc q) (omega arith)) d ∙ ap (λ (n : ℕ). Err (wrong n)) there)

-- a list that starts with the other one
differs_none : (wrong : ℕ → Refusal) (l t : List ℕ) (n : ℕ) → take n t ≡ l → differs wrong 0 l t ≡ Ok tt
differs_none wrong l t n e =
    subst (λ (u : List ℕ). differs wrong 0 l u ≡ Ok tt) (ap (λ (u : List ℕ). u ++ drop n t) (sym e) ∙ take-append-drop n t) (differs_same wrong 0 l (drop n t))

-- the first place that differs from the right one; or none does
module _ (wrong : ℕ → Refusal) (i : ℕ) (a c : List ℕ) (room : length a ≤ length c) (same : (q : ℕ) → q < i → get_or c q 0 ≡ get_or a q 0) where
  pub wrong_at : i < length a → (get_or c i 0 ≡ get_or a i 0 → ⊥) → Err (wrong i) ≡ differs wrong 0 a c
  wrong_at h d =
      let from_start : i ≡ 0 + i = omega arith in
      ap (λ (k : ℕ). Err (wrong k)) from_start ∙ sym (differs_at wrong 0 i a c h (omega arith) same d)

  pub wrong_nowhere : length a ≤ i → (Ok tt) ≡ differs wrong 0 a c
  wrong_nowhere h =
      let n : ℕ = length a in
      let short : length (take n c) ≡ n = length-take-le n c room in
      sym (differs_none wrong a c n
      (ext_get_or 0 (take n c) a short
      (λ q k.
      let m : q < n = omega arith in
      get_or-take n c q 0 m ∙ same q (omega arith))))

starts_fine : (whose : Kept → Refusal) (A w c : List ℕ) → Starts A w c → classed whose A w c ≡ Ok tt
unfolding classed
starts_fine whose A w c e = differs_none (λ k. whose (Misclassed k)) (classes A w) c (length w) e

-- the classes at the front of a buffer
front-classes : (A w b : List ℕ) → take (length w) (written b 0 (classes A w)) ≡ classes A w
unfolding written
front-classes A w b = take_at (classes A w) (drop (0 + length (classes A w)) b) (length w) (class_of_row A w).0

-- a list held against one in which the classes are filled in
pub filled-classed : (whose : Kept → Refusal) (A w c b b' : List ℕ) → b' ≡ written b 0 (classes A w)
    → differs (λ k. whose (Misclassed k)) 0 (take (length w) b') c ≡ classed whose A w c
unfolding classed
filled-classed whose A w c b b' filled = ap (λ (l : List ℕ). differs (λ k. whose (Misclassed k)) 0 l c) (ap (take (length w)) filled ∙ front-classes A w b)

-- what the scan asks for: the row with its table and a list
pub row_sized : {w t : List ℕ} → (A : List ℕ) × Right A w t → Sized w t
row_sized r = r.1.sized

pub row_seen : {w t c : List ℕ} → (A : List ℕ) × Right A w t → length w ≤ length c → ∥ Seen w t c ∥₁
row_seen {w} {t} {c} r fits = ∣ record { forest = parse r.0 w; shown = right_shown r.0 w t r.1; room = fits } ∣₁

-- what it then grants
scan_grants : (A w t c : List ℕ) (b : Bool) → Right A w t → length w ≤ length c
    → ((f : Forest) → Shown f w t → Grants b ((p : ℕ) → p < size f → FirstEqual f p (get_or c p 0))) → Grants b (Starts A w c)
unfolding classes
scan_grants A w t c false r long k = tt
scan_grants A w t c true r long k =
    let f = parse A w in
    let n = size-parse A w in
    subst (λ (m : ℕ). take m c ≡ classes_of f) n (first-classes f c (omega (arith, n)) (k f (right_shown A w t r)))

-- where it says yes, nothing is refused
pub scan_fine : (A w t c : List ℕ) (b : Bool) → Right A w t → length w ≤ length c
    → ((f : Forest) → Shown f w t → Grants b ((p : ℕ) → p < size f → FirstEqual f p (get_or c p 0))) → b ≡ true
    → (whose : Kept → Refusal) → (Ok tt) ≡ classed whose A w c
scan_fine A w t c b r long k e whose =
    sym (starts_fine whose A w c (subst (λ (x : Bool). Grants x (Starts A w c)) e (scan_grants A w t c b r long k)))
