-- A number at a position of a text: when it stands there, and when none does.
-- Assumes nothing.
use Prim.Native.Nat.{ℕ, zero, suc, ◌+◌, ◌*◌, ◌-◌, ◌≤◌, ◌<◌}
use mathlib.Core.Path.{◌≡◌, refl, sym, ap, ◌∙◌}
use mathlib.Core.List.{List, [], ◌∷◌, ◌++◌, append_assoc}
use mathlib.Core.Bool.{Bool, true, false}
use mathlib.Core.Logic.{◌⊎◌, inl, inr}
use native.Mathlib.Nat.{add-zero}
use native.Mathlib.Numerals.{add-one}
use native.Mathlib.Omega.{arith}
use lib.Dec.{leb}
use lib.ListN.{length, get_or, drop, get_or-eq_default}
use lib.Seq.{drop-cons, get_or-drop}
use borrow.Author.Tests.{leb-true, leb-false}
use Rattle.rows.specs.Row.{pick}
use Rattle.decimal.specs.Lines.{numeral, number_most}
use Rattle.decimal.specs.Promises.{is_digit, Digits, value}
use Rattle.decimal.specs.Inside.{ends_number, Stands, NumberAt}
use Rattle.decimal.specs.declared.Cursor.{Cursor}
use Rattle.std.specs.Prelude.{Result, Ok, Err}
use Rattle.decimal.proofs.Numerals.{numeral_digits, numeral-value, numeral_head, numeral_some, numeral_one, numeral_grows, value-append, value_grows, digit_bounds}
use Rattle.decimal.proofs.Runs.{Run, run, ends_no_digit}

-- a byte that passes a test which 0 does not pass stands within the text
pub inside : (f : ℕ → Bool) → f 0 ≡ false → (b : List ℕ) (at : ℕ) → f (get_or b at 0) ≡ true → at < length b
inside f z b at h = go (leb (length b) at) refl
  where
    go : (t : Bool) → leb (length b) at ≡ t → at < length b
    go false e = leb-false _ _ e
    go true e =
        let g : get_or b at 0 ≡ 0 = get_or-eq_default b 0 (leb-true _ _ e) in
        let k : false ≡ true = sym z ∙ ap f (sym g) ∙ h in
        let q : ◌≡◌ {A = ℕ} 0 1 = cc in absurd (omega arith)

-- the first byte of the rest
pub front : (b : List ℕ) (at d : ℕ) (z : List ℕ) → drop at b ≡ d ∷ z → get_or b at 0 ≡ d
front b at d z e = ap (λ k. get_or b k 0) (sym (add-zero at)) ∙ sym (get_or-drop at b 0 0) ∙ ap (λ l. get_or l 0 0) e

-- the rest begins with the byte
pub begins : (b : List ℕ) (at : ℕ) → at < length b → drop at b ≡ get_or b at 0 ∷ drop (at + 1) b
begins b at h = drop-cons b at 0 h ∙ rw (add-one at)

never : {P : Type 0} (b : Bool) → b ≡ true → b ≡ false → P
never b h k = let q : ◌≡◌ {A = ℕ} 0 1 = cc in absurd (omega arith)

-- no digit follows the number n, or none may follow
abbrev pub Last : List ℕ → ℕ → ℕ → Type 0
Last b n at = (n ≡ 0) ⊎ (is_digit (get_or b at 0) ≡ false)

module _ (b : List ℕ) (start : ℕ) where
  -- the digits of a number that stands there begin with those that were read
  reach : (n m end : ℕ) (y : List ℕ) → drop start b ≡ numeral n ++ y → Stands b start m end → Run (numeral m) (numeral n) (get_or b end 0) (drop (end + 1) b) y
  reach n m end y e s =
      let h : end < length b = inside ends_number refl b end s.ended in
      run (numeral m) (numeral n) (get_or b end 0) (drop (end + 1) b) y (numeral_digits m) (numeral_digits n) (ends_no_digit (get_or b end 0) s.ended)
      (ap (λ l. numeral m ++ l) (sym (begins b end h)) ∙ sym s.text ∙ e)

  pub none_larger : (n m end : ℕ) (y : List ℕ) → drop start b ≡ numeral n ++ y → number_most < n → Stands b start m end → ⊥
  none_larger n m end y e h s =
      let r = reach n m end y e s in
      let v : m ≡ value n r.more = sym (numeral-value m) ∙ ap (value 0) r.word ∙ value-append 0 (numeral n) r.more ∙ ap (λ k. value k r.more) (numeral-value n) in
      omega (arith, s.small, value_grows n r.more)

  only_zero : (n m d : ℕ) (more : List ℕ) → n ≡ 0 → numeral m ≡ numeral n ++ (d ∷ more) → ⊥
  only_zero n zero d more z e =
      let q : numeral 0 ≡ 48 ∷ [] = numeral_one 0 (omega arith) in
      let f : 48 ∷ [] ≡ 48 ∷ (d ∷ more) = sym q ∙ e ∙ ap (λ k. numeral k ++ (d ∷ more)) z ∙ rw q in
      let l = ap length f in omega arith
  only_zero n (suc m) d more z e =
      let q : numeral 0 ≡ 48 ∷ [] = numeral_one 0 (omega arith) in
      let f : numeral (suc m) ≡ 48 ∷ (d ∷ more) = e ∙ ap (λ k. numeral k ++ (d ∷ more)) z ∙ rw q in
      let h = numeral_head (suc m) (omega arith) in
      let g = ap (λ l. get_or l 0 0) f in omega arith

  pub none_ended : (n m end at : ℕ) → drop start b ≡ numeral n ++ drop at b → Last b n at → ends_number (get_or b at 0) ≡ false → Stands b start m end → ⊥
  unfolding Digits
  none_ended n m end at e last h s = go r.more r.digits r.word r.left last
    where
      r : Run (numeral m) (numeral n) (get_or b end 0) (drop (end + 1) b) (drop at b)
      r = reach n m end (drop at b) e s

      go : (more : List ℕ) → Digits more → numeral m ≡ numeral n ++ more → drop at b ≡ more ++ (get_or b end 0 ∷ drop (end + 1) b) → Last b n at → ⊥
      go [] d w l k = never (ends_number (get_or b end 0)) s.ended (ap ends_number (sym (front b at _ _ l)) ∙ h)
      go (x ∷ more) d w l (inl k) = only_zero n m x more k w
      go (x ∷ more) d w l (inr k) = never (is_digit x) d.0 (ap is_digit (sym (front b at _ _ l)) ∙ k)

  pub none_here : (m end : ℕ) → is_digit (get_or b start 0) ≡ false → Stands b start m end → ⊥
  unfolding Digits
  none_here m end h s = go (numeral m) (numeral_some m) (numeral_digits m) s.text
    where
      go : (w : List ℕ) → 0 < length w → Digits w → drop start b ≡ w ++ drop end b → ⊥
      go [] k d e = omega arith
      go (x ∷ w) k d e = never (is_digit x) d.0 (ap is_digit (sym (front b start _ _ e)) ∙ h)

  -- what `ended` answers for the digits that were read
  pub ended_is : (at line n : ℕ) (r : Result (ℕ × Cursor) ℕ) → n ≤ number_most → drop start b ≡ numeral n ++ drop at b → Last b n at
      → r ≡ pick {X = Result (ℕ × Cursor) ℕ} (ends_number (get_or b at 0)) (Ok (n, record { at = at; line = line })) (Err line)
      → NumberAt b (record { at = start; line = line }) r
  ended_is at line n r h e last q = go (ends_number (get_or b at 0)) refl q
    where
      go : (t : Bool) → ends_number (get_or b at 0) ≡ t → r ≡ pick {X = Result (ℕ × Cursor) ℕ} t (Ok (n, record { at = at; line = line })) (Err line)
          → NumberAt b (record { at = start; line = line }) r
      go true k p = rw p ((record { small = h; text = e; ended = k }, refl))
      go false k p = rw p (((λ m end s. none_ended n m end at e last k s), refl))

pub digit_here : (b : List ℕ) (at : ℕ) → is_digit (get_or b at 0) ≡ true → (at < length b) × (48 ≤ get_or b at 0) × (get_or b at 0 ≤ 57)
digit_here b at h = let k = digit_bounds (get_or b at 0) h in (inside is_digit refl b at h, k.0, k.1)

-- the first digit
pub digit_first : (b : List ℕ) (at : ℕ) → is_digit (get_or b at 0) ≡ true → drop at b ≡ numeral (get_or b at 0 - 48) ++ drop (at + 1) b
digit_first b at h =
    let k = digit_here b at h in
    let e : 48 + (get_or b at 0 - 48) ≡ get_or b at 0 = omega arith in
    begins b at k.0 ∙ rw (numeral_one (get_or b at 0 - 48) (omega arith), e)

-- one digit more
pub digit_more : (b : List ℕ) (at n : ℕ) → 0 < n → is_digit (get_or b at 0) ≡ true
    → numeral n ++ drop at b ≡ numeral (n * 10 + (get_or b at 0 - 48)) ++ drop (at + 1) b
digit_more b at n h d =
    let k = digit_bounds _ d in
    rw (begins b at (inside is_digit refl b at d), numeral_grows n (get_or b at 0) h k.0 k.1, append_assoc)
