-- What is said of an answer tells the answer.
-- Assumes nothing.
use Rattle.std.specs.Prelude.{Result, Ok, Err, ⊤}
use Prim.Native.Nat.{ℕ}
use mathlib.Core.Path.{◌≡◌, refl, sym, ap, ap₂}
use mathlib.Core.List.{List, [], ◌∷◌}
use mathlib.Core.Logic.{◌↔◌}
use mathlib.Core.Bool.{Bool, true, false}
use native.Mathlib.Omega.{arith}
use lib.IntN.{ℤ, pos}
use Rattle.rows.specs.declared.Refusal.{Refusal}
use Rattle.refusal_numbers.specs.Numbers.{number, place}
use Rattle.refusal_numbers.specs.Table.{Refuses}
use Rattle.sparrowhem.specs.Said.{Said.refused, Said.gives, refusal, check_said, found_said, bound_said, sheet_said, replaced_said, placed_said, newest_said, fits_said}
use Rattle.sparrowhem.specs.Search.{found, bound}
use Rattle.sparrowhem.specs.Sheet.{sheet_found}
use Rattle.sparrowhem.specs.Edit.{answered}
use Rattle.sparrowhem.specs.Parts.{placed}
use Rattle.sparrowhem.specs.declared.parts.Newest.{Newest}
use Rattle.sparrowhem.specs.declared.parts.Newest.TheVariants.{Corrected, OnRecord, Nowhere}

-- a refusal is no answer
pub apart : (k x : ℕ) (vs : List ℤ) → refused k x ≡ gives vs → ⊥
apart k x vs e = let z : ◌≡◌ {A = ℕ} 0 1 = cc in omega arith

pub refusal-said : (r : Refusal) (k x : ℕ) → (refusal r ≡ refused k x) ↔ ((k ≡ number r) × (x ≡ place r))
refusal-said r k x = (λ e. (cc, cc), λ h. ap₂ refused (sym h.0) (sym h.1))

-- an answer that is made of a check says a refusal exactly if the check refuses
pub check_said_lem : (c : Result ⊤ Refusal) (k x : ℕ) → (check_said c ≡ refused k x) ↔ Refuses c k x
check_said_lem (Ok _) k x = (λ e. absurd (apart k x [] (sym e)), λ h. absurd h)
check_said_lem (Err r) k x = refusal-said r k x

pub found-said : (c : Result ⊤ Refusal) (n k x : ℕ) → (found_said (found c n) ≡ refused k x) ↔ Refuses c k x
found-said (Ok _) n k x = (λ e. absurd (apart k x _ (sym e)), λ h. absurd h)
found-said (Err r) n k x = refusal-said r k x

pub bound-said : (c : Result ⊤ Refusal) (b : Bool) (k x : ℕ) → (bound_said (bound c b) ≡ refused k x) ↔ Refuses c k x
bound-said (Ok _) true k x = (λ e. absurd (apart k x _ (sym e)), λ h. absurd h)
bound-said (Ok _) false k x = (λ e. absurd (apart k x _ (sym e)), λ h. absurd h)
bound-said (Err r) b k x = refusal-said r k x

pub sheet-said : (c : Result ⊤ Refusal) (n m k x : ℕ) → (sheet_said (sheet_found c n m) ≡ refused k x) ↔ Refuses c k x
sheet-said (Ok _) n m k x = (λ e. absurd (apart k x _ (sym e)), λ h. absurd h)
sheet-said (Err r) n m k x = refusal-said r k x

pub answered-said : (c : Result ⊤ Refusal) (m n k x : ℕ) → (replaced_said (answered c m n) ≡ refused k x) ↔ Refuses c k x
answered-said (Ok _) m n k x = (λ e. absurd (apart k x _ (sym e)), λ h. absurd h)
answered-said (Err r) m n k x = refusal-said r k x

pub placed-said : (c : Result ⊤ Refusal) (b e k x : ℕ) → (placed_said (placed c b e) ≡ refused k x) ↔ Refuses c k x
placed-said (Ok _) b e k x = (λ h. absurd (apart k x _ (sym h)), λ h. absurd h)
placed-said (Err r) b e k x = refusal-said r k x

-- what answers a call that does not refuse
pub fine_said : (r : Result ⊤ Refusal) → check_said r ≡ gives [] → r ≡ Ok tt
fine_said (Ok _) e = refl
fine_said (Err x) e = absurd (apart _ _ _ e)

pub matches_said : (r : Result ℕ Refusal) (n : ℕ) → found_said r ≡ gives (pos n ∷ []) → r ≡ Ok n
matches_said (Ok m) n e = let z : m ≡ n = cc in ap Ok z
matches_said (Err x) n e = absurd (apart _ _ _ e)

-- two answers of two values that are the same have the same values
pub ok_pair : {X Y E : Type 0} {a c : X} {b d : Y} → ◌≡◌ {A = Result (X × Y) E} (Ok (a, b)) (Ok (c, d)) → (a ≡ c) × (b ≡ d)
ok_pair {X} {Y} {E} {a} {c} {b} {d} e = (ap first e, ap second e)
  where
    first : Result (X × Y) E → X
    first (Ok (x, y)) = x
    first (Err r) = a

    second : Result (X × Y) E → Y
    second (Ok (x, y)) = y
    second (Err r) = b

pub matched_said : (r : Result Bool Refusal) → bound_said r ≡ gives (pos 1 ∷ []) → r ≡ Ok true
matched_said (Ok true) e = refl
matched_said (Ok false) e = let z : ◌≡◌ {A = ℕ} 0 1 = cc in absurd (omega arith)
matched_said (Err x) e = absurd (apart _ _ _ e)

pub unmatched_said : (r : Result Bool Refusal) → bound_said r ≡ gives (pos 0 ∷ []) → r ≡ Ok false
unmatched_said (Ok true) e = let z : ◌≡◌ {A = ℕ} 1 0 = cc in absurd (omega arith)
unmatched_said (Ok false) e = refl
unmatched_said (Err x) e = absurd (apart _ _ _ e)

pub sheet_matches_said : (r : Result (ℕ × ℕ) Refusal) (n m : ℕ) → sheet_said r ≡ gives (pos n ∷ pos m ∷ []) → r ≡ Ok (n, m)
sheet_matches_said (Ok (i, j)) n m e = let z : i ≡ n = cc in let y : j ≡ m = cc in ap₂ (λ (x y : ℕ). Ok (x, y)) z y
sheet_matches_said (Err x) n m e = absurd (apart _ _ _ e)

pub done_said : (r : Result (ℕ × ℤ) Refusal) (m : ℕ) (change : ℤ) → replaced_said r ≡ gives (pos m ∷ change ∷ []) → r ≡ Ok (m, change)
done_said (Ok (n, by)) m change e = let z : n ≡ m = cc in let y : by ≡ change = cc in ap₂ (λ (x : ℕ) (y : ℤ). Ok (x, y)) z y
done_said (Err x) m change e = absurd (apart _ _ _ e)

pub span_said : (r : Result (ℕ × ℕ) Refusal) (b e : ℕ) → placed_said r ≡ gives (pos b ∷ pos e ∷ []) → r ≡ Ok (b, e)
span_said (Ok (c, d)) b e h = let z : c ≡ b = cc in let y : d ≡ e = cc in ap₂ (λ (x y : ℕ). Ok (x, y)) z y
span_said (Err x) b e h = absurd (apart _ _ _ h)

pub corrected_said : (r : Result Newest Refusal) (p e : ℕ) → newest_said r ≡ gives (pos 1 ∷ pos p ∷ pos e ∷ []) → r ≡ Ok (Corrected p e)
corrected_said (Ok (Corrected c d)) p e h = let z : c ≡ p = cc in let y : d ≡ e = cc in ap₂ (λ (b e : ℕ). Ok (Corrected b e)) z y
corrected_said (Ok (OnRecord c d)) p e h = let z : ◌≡◌ {A = ℕ} 2 1 = cc in absurd (omega arith)
corrected_said (Ok Nowhere) p e h = let z : ◌≡◌ {A = ℕ} 0 1 = cc in absurd (omega arith)
corrected_said (Err x) p e h = absurd (apart _ _ _ h)

pub on_record_said : (r : Result Newest Refusal) (p e : ℕ) → newest_said r ≡ gives (pos 2 ∷ pos p ∷ pos e ∷ []) → r ≡ Ok (OnRecord p e)
on_record_said (Ok (Corrected c d)) p e h = let z : ◌≡◌ {A = ℕ} 1 2 = cc in absurd (omega arith)
on_record_said (Ok (OnRecord c d)) p e h = let z : c ≡ p = cc in let y : d ≡ e = cc in ap₂ (λ (b e : ℕ). Ok (OnRecord b e)) z y
on_record_said (Ok Nowhere) p e h = let z : ◌≡◌ {A = ℕ} 0 2 = cc in absurd (omega arith)
on_record_said (Err x) p e h = absurd (apart _ _ _ h)

pub nowhere_said : (r : Result Newest Refusal) → newest_said r ≡ gives (pos 0 ∷ []) → r ≡ Ok Nowhere
nowhere_said (Ok (Corrected c d)) h = let z : ◌≡◌ {A = ℕ} 1 0 = cc in absurd (omega arith)
nowhere_said (Ok (OnRecord c d)) h = let z : ◌≡◌ {A = ℕ} 2 0 = cc in absurd (omega arith)
nowhere_said (Ok Nowhere) h = refl
nowhere_said (Err x) h = absurd (apart _ _ _ h)

pub yes_said : (r : Result Bool Refusal) → fits_said r ≡ gives (pos 1 ∷ []) → r ≡ Ok true
yes_said (Ok true) e = refl
yes_said (Ok false) e = let z : ◌≡◌ {A = ℕ} 0 1 = cc in absurd (omega arith)
yes_said (Err x) e = absurd (apart _ _ _ e)

pub no_said : (r : Result Bool Refusal) → fits_said r ≡ gives (pos 0 ∷ []) → r ≡ Ok false
no_said (Ok true) e = let z : ◌≡◌ {A = ℕ} 1 0 = cc in absurd (omega arith)
no_said (Ok false) e = refl
no_said (Err x) e = absurd (apart _ _ _ e)

-- the refusal that is said
pub found-refusal : (r : Result ℕ Refusal) (k x : ℕ) → found_said r ≡ refused k x → (y : Refusal) × (r ≡ Err y)
found-refusal (Ok m) k x e = absurd (apart _ _ _ (sym e))
found-refusal (Err y) k x e = (y, refl)

pub bound-refusal : (r : Result Bool Refusal) (k x : ℕ) → bound_said r ≡ refused k x → (y : Refusal) × (r ≡ Err y)
bound-refusal (Ok true) k x e = absurd (apart _ _ _ (sym e))
bound-refusal (Ok false) k x e = absurd (apart _ _ _ (sym e))
bound-refusal (Err y) k x e = (y, refl)

pub check_refusal : (r : Result ⊤ Refusal) (k x : ℕ) → check_said r ≡ refused k x → (y : Refusal) × (r ≡ Err y)
check_refusal (Ok _) k x e = absurd (apart _ _ _ (sym e))
check_refusal (Err y) k x e = (y, refl)

pub replaced_refusal : (r : Result (ℕ × ℤ) Refusal) (k x : ℕ) → replaced_said r ≡ refused k x → (y : Refusal) × (r ≡ Err y)
replaced_refusal (Ok (m, c)) k x e = absurd (apart _ _ _ (sym e))
replaced_refusal (Err y) k x e = (y, refl)

pub placed-refusal : (r : Result (ℕ × ℕ) Refusal) (k x : ℕ) → placed_said r ≡ refused k x → (y : Refusal) × (r ≡ Err y)
placed-refusal (Ok (b, e)) k x h = absurd (apart _ _ _ (sym h))
placed-refusal (Err y) k x h = (y, refl)

pub newest_refusal : (r : Result Newest Refusal) (k x : ℕ) → newest_said r ≡ refused k x → (y : Refusal) × (r ≡ Err y)
newest_refusal (Ok (Corrected p e)) k x h = absurd (apart _ _ _ (sym h))
newest_refusal (Ok (OnRecord p e)) k x h = absurd (apart _ _ _ (sym h))
newest_refusal (Ok Nowhere) k x h = absurd (apart _ _ _ (sym h))
newest_refusal (Err y) k x h = (y, refl)

pub fits_refusal : (r : Result Bool Refusal) (k x : ℕ) → fits_said r ≡ refused k x → (y : Refusal) × (r ≡ Err y)
fits_refusal (Ok true) k x h = absurd (apart _ _ _ (sym h))
fits_refusal (Ok false) k x h = absurd (apart _ _ _ (sym h))
fits_refusal (Err y) k x h = (y, refl)
