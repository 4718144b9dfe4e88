-- A line of numbers begins a text, or none does: it can be told for every text.
-- Assumes nothing.
use Prim.Native.Nat.{ℕ, zero, suc, ◌≤◌, ◌<◌}
use mathlib.Core.Path.{◌≡◌, refl, sym, ap, ◌∙◌}
use mathlib.Core.List.{List, [], ◌∷◌, ◌++◌, append_assoc}
use mathlib.Core.Bool.{Bool, true, false}
use mathlib.Core.Logic.{◌⊎◌, inl, inr}
use native.Mathlib.Omega.{arith}
use lib.Dec.{eqb}
use lib.ListN.{length, drop, length-append}
use lib.Seq.{drop_at}
use borrow.Author.Tests.{eqb-true, eqb-false}
use Rattle.decimal.specs.Lines.{numeral, number_most, following, line, Small}
use Rattle.decimal.specs.Inside.{ends_number}
use Rattle.decimal.proofs.Runs.{ends_no_digit, numeral-alone}

-- it holds, or it does not
abbrev Told : Type 0 → Type 0
Told P = P ⊎ (P → ⊥)

-- the text b begins with u
record Front (u b : List ℕ) : Type 0 where
  rest : List ℕ
  text : b ≡ u ++ rest

front? : (u b : List ℕ) → Told (Front u b)
front? [] b = inl (record { rest = b; text = refl })
front? (x ∷ u) [] = inr (λ f. let l = ap length f.text in omega arith)
front? (x ∷ u) (d ∷ b) = go (eqb d x) refl (front? u b)
  where
    go : (t : Bool) → eqb d x ≡ t → Told (Front u b) → Told (Front (x ∷ u) (d ∷ b))
    go true e (inl f) = inl (record { rest = f.rest; text = ap (λ k. k ∷ b) (eqb-true d x e) ∙ ap (λ l. x ∷ l) f.text })
    go true e (inr h) = inr (λ f. h (record { rest = f.rest; text = (let g = f.text in cc) }))
    go false e r = inr (λ f. eqb-false d x e (let g = f.text in cc))

-- what stands behind a front is settled
behind-front : (u y z : List ℕ) → u ++ y ≡ u ++ z → y ≡ z
behind-front u y z e = sym (drop_at u y (length u) refl) ∙ ap (drop (length u)) e ∙ drop_at u z (length u) refl

-- the text b begins with the number n, and a space or a newline ends it
record Number (b : List ℕ) (n : ℕ) : Type 0 where
  byte : ℕ
  rest : List ℕ
  ends : ends_number byte ≡ true
  text : b ≡ numeral n ++ (byte ∷ rest)

number? : (b : List ℕ) (n : ℕ) → Told (Number b n)
number? b n = go (front? (numeral n) b)
  where
    byte : (d : ℕ) (x : List ℕ) → b ≡ numeral n ++ (d ∷ x) → (t : Bool) → ends_number d ≡ t → Told (Number b n)
    byte d x e true h = inl (record { byte = d; rest = x; ends = h; text = e })
    byte d x e false h =
        inr (λ s.
        let f : d ∷ x ≡ s.byte ∷ s.rest = behind-front (numeral n) (d ∷ x) (s.byte ∷ s.rest) (sym e ∙ s.text) in
        let g : d ≡ s.byte = cc in
        let k : false ≡ true = sym h ∙ ap ends_number g ∙ s.ends in
        let z : ◌≡◌ {A = ℕ} 0 1 = cc in omega arith)

    split : (y : List ℕ) → b ≡ numeral n ++ y → Told (Number b n)
    split [] e =
        inr (λ s.
        let l = ap length (behind-front (numeral n) [] (s.byte ∷ s.rest) (sym e ∙ s.text)) in
        omega arith)
    split (d ∷ x) e = byte d x e (ends_number d) refl

    go : Told (Front (numeral n) b) → Told (Number b n)
    go (inl f) = split f.rest f.text
    go (inr h) = inr (λ s. h (record { rest = s.byte ∷ s.rest; text = s.text }))

-- one of the numbers below k begins the text
record Below (b : List ℕ) (k : ℕ) : Type 0 where
  number : ℕ
  small : number < k
  stands : Number b number

below? : (b : List ℕ) (k : ℕ) → Told (Below b k)
below? b zero = inr (λ s. omega (arith, s.small))
below? b (suc k) = go (number? b k) (below? b k)
  where
    last : (Number b k → ⊥) → (Below b k → ⊥) → Below b (suc k) → ⊥
    last h g s = which (eqb s.number k) refl
      where
        which : (t : Bool) → eqb s.number k ≡ t → ⊥
        which true e = h (rw (eqb-true s.number k e) at s.stands)
        which false e = let f = eqb-false s.number k e in g (record { number = s.number; small = omega (arith, s.small); stands = s.stands })

    go : Told (Number b k) → Told (Below b k) → Told (Below b (suc k))
    go (inl s) r = inl (record { number = k; small = omega arith; stands = s })
    go (inr h) (inl s) = inl (record { number = s.number; small = omega (arith, s.small); stands = s.stands })
    go (inr h) (inr g) = inr (last h g)

-- a line of one number at least begins the text
record Numbers (b : List ℕ) : Type 0 where
  first : ℕ
  others : List ℕ
  rest : List ℕ
  small : Small (first ∷ others)
  text : b ≡ numeral first ++ (following others ++ rest)

module _ (b : List ℕ) (n : ℕ) (h : n ≤ number_most) (s : Number b n) where
  -- the number is the line's last
  ends-line : s.byte ≡ 10 → Numbers b
  unfolding following Small
  ends-line e = record { first = n; others = []; rest = s.rest; small = (h, tt); text = s.text ∙ ap (λ d. numeral n ++ (d ∷ s.rest)) e }

  -- more numbers follow
  goes_on : s.byte ≡ 32 → Numbers s.rest → Numbers b
  unfolding following Small
  goes_on e r =
      record {
        first = n;
        others = r.first ∷ r.others;
        rest = r.rest;
        small = (h, r.small);
        text = s.text ∙ ap (λ d. numeral n ++ (d ∷ s.rest)) e ∙ ap (λ l. numeral n ++ (32 ∷ l)) (r.text ∙ sym (append_assoc (numeral r.first) (following r.others) r.rest));
      }

  -- none follow behind the space
  breaks_off : s.byte ≡ 32 → (Numbers s.rest → ⊥) → Numbers b → ⊥
  unfolding following Small
  breaks_off e k r = go r.others r.small r.text
    where
      go : (ms : List ℕ) → Small (r.first ∷ ms) → b ≡ numeral r.first ++ (following ms ++ r.rest) → ⊥
      go [] l t =
          let q = numeral-alone n r.first s.byte 10 s.rest r.rest (ends_no_digit s.byte s.ends) refl (sym s.text ∙ t) in
          omega (arith, q.byte)
      go (m ∷ ms) l t =
          let q = numeral-alone n r.first s.byte 32 s.rest ((numeral m ++ following ms) ++ r.rest) (ends_no_digit s.byte s.ends) refl (sym s.text ∙ t) in
          k (record { first = m; others = ms; rest = r.rest; small = l.1; text = q.rest ∙ append_assoc (numeral m) (following ms) r.rest })

  -- what is told of the rest tells it
  numbers_on : Told (Numbers s.rest) → Told (Numbers b)
  numbers_on r = go (eqb s.byte 32) refl r
    where
      newline : eqb s.byte 32 ≡ false → s.byte ≡ 10
      newline e = eqb-true s.byte 10 (rw e at s.ends)

      go : (t : Bool) → eqb s.byte 32 ≡ t → Told (Numbers s.rest) → Told (Numbers b)
      go true e (inl r) = inl (goes_on (eqb-true s.byte 32 e) r)
      go true e (inr k) = inr (breaks_off (eqb-true s.byte 32 e) k)
      go false e r = inl (ends-line (newline e))

  shorter : length s.rest < length b
  shorter = let l = ap length s.text in omega (arith, length-append (numeral n) (s.byte ∷ s.rest))

-- a number begins the text, and what is told of the rest tells it; or none does
numbers_from : (b : List ℕ) → Told (Below b (suc number_most)) → ((y : List ℕ) → length y < length b → Told (Numbers y)) → Told (Numbers b)
unfolding following Small
numbers_from b (inl s) r =
    numbers_on b s.number (omega (arith, s.small)) s.stands (r s.stands.rest (shorter b s.number (omega (arith, s.small)) s.stands))
numbers_from b (inr h) r = inr (λ k. none k.others k.rest k.small k.text)
  where
    none : {n : ℕ} (ms z : List ℕ) → Small (n ∷ ms) → b ≡ numeral n ++ (following ms ++ z) → ⊥
    none {n} [] z l t = h (record { number = n; small = omega (arith, l.0); stands = record { byte = 10; rest = z; ends = refl; text = t } })
    none {n} (m ∷ ms) z l t = h (record { number = n; small = omega (arith, l.0); stands = record { byte = 32; rest = (numeral m ++ following ms) ++ z; ends = refl; text = t } })

numbers? : (k : ℕ) (b : List ℕ) → length b < k → Told (Numbers b)
numbers? zero b h = absurd (omega arith)
numbers? (suc k) b h = numbers_from b (below? b (suc number_most)) (λ y l. numbers? k y (omega arith))

-- a text that begins with a line of numbers
pub record Lined (b : List ℕ) : Type 0 where
  pub numbers : List ℕ
  pub rest : List ℕ
  pub small : Small numbers
  pub text : b ≡ line numbers ++ rest

pub line? : (b : List ℕ) → Lined b ⊎ (Lined b → ⊥)
unfolding line Small
line? b = go (front? (10 ∷ []) b) (numbers? (suc (length b)) b (omega arith))
  where
    neither : (Front (10 ∷ []) b → ⊥) → (Numbers b → ⊥) → (ns z : List ℕ) → Small ns → b ≡ line ns ++ z → ⊥
    neither h g [] z s e = h (record { rest = z; text = e })
    neither h g (n ∷ ns) z s e = g (record { first = n; others = ns; rest = z; small = s; text = e ∙ append_assoc (numeral n) (following ns) z })

    go : Told (Front (10 ∷ []) b) → Told (Numbers b) → Lined b ⊎ (Lined b → ⊥)
    go (inl f) r = inl (record { numbers = []; rest = f.rest; small = tt; text = f.text })
    go (inr h) (inl k) = inl (record { numbers = k.first ∷ k.others; rest = k.rest; small = k.small; text = k.text ∙ sym (append_assoc (numeral k.first) (following k.others) k.rest) })
    go (inr h) (inr g) = inr (λ l. neither h g l.numbers l.rest l.small l.text)
