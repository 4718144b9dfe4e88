-- The symbols of a list, copied to the front of another; bars are put there too, and the next number over each.
-- Assumes nothing.
use Prim.Native.Nat.{ℕ, ◌+◌, ◌≤◌, ◌<◌}
use mathlib.Core.Path.{◌≡◌, refl, sym, ap, ap₂, ◌∙◌}
use mathlib.Core.List.{List, [], ◌∷◌, ◌++◌}
use mathlib.Core.Bool.{Bool, true, false, not}
use mir.Val.{bool_byte}
use native.Mathlib.Omega.{arith}
use native.Mathlib.Nat.{zero-add, add-zero}
use native.Mathlib.Numerals.{add-one}
use borrow.Author.Tests.{eqb-true, eqb-false, eq-eqb, ne_eqb}
use lib.Dec.{eqb}
use lib.ListN.{length, get_or, take, drop, set, length-set, length-drop, take-append-drop, drop_of_length-le}
use lib.Seq.{take-suc, take-set-le, drop-set-lt, get_or-set_same, take-length}
use Rattle.rows.specs.Limits.{bar}
use Rattle.rows.specs.Row.{pick}
use Rattle.rows.specs.Buffers.{written}
use Rattle.rows.proofs.Passing.{below}
use Rattle.bars.specs.Bars.{unbarred}
use Rattle.bars.proofs.Writing.{next}
use Rattle.bars.proofs.Reading.{copy_bar, copy_symbol}

-- i numbers of v are met and n symbols copied: they stand at the front of b', and what the others are still to be written over is
-- as it was in b
pub record Copies (v b b' : List ℕ) (n i : ℕ) : Type 0 where
  pub few : n ≤ length (unbarred v)
  pub within : i ≤ length v
  pub long : length b' ≡ length b
  pub front : take n b' ≡ take n (unbarred v)
  pub whole : written b' 0 (unbarred v) ≡ written b 0 (unbarred v)
  pub left : drop n (unbarred v) ≡ unbarred (drop i v)

pub none_yet : (v b : List ℕ) → Copies v b b 0 0
none_yet v b = record { few = omega arith; within = omega arith; long = refl; front = refl; whole = refl; left = refl }

-- how many symbols a number is
pub symbols_of : (x : ℕ) → bool_byte (not (eqb x bar)) ≡ length (unbarred (x ∷ []))
unfolding unbarred
symbols_of x = go (eqb x bar)
  where
    go : (b : Bool) → bool_byte (not b) ≡ length (pick b [] (x ∷ []))
    go true = refl
    go false = refl

bar_none : (x : ℕ) → x ≡ bar → length (unbarred (x ∷ [])) ≡ 0
unfolding unbarred
bar_none x e = ap (λ (b : Bool). length (pick b [] (x ∷ []))) (eq-eqb x bar e)

other_one : (x : ℕ) → (x ≡ bar → ⊥) → length (unbarred (x ∷ [])) ≡ 1
unfolding unbarred
other_one x n = ap (λ (b : Bool). length (pick b [] (x ∷ []))) (ne_eqb x bar n)

module _ {v b b' : List ℕ} {n i : ℕ} (c : Copies v b b' n i) where
  -- while a symbol is left, so is a number
  pub some_left : n < length (unbarred v) → i < length v
  unfolding unbarred
  some_left h =
      below i (length v) (λ k. k) (λ k. absurd (omega (arith, h, length-drop n (unbarred v), ap length (c.left ∙ ap unbarred (drop_of_length-le v k)))))

  -- all are copied
  pub all_copied : n ≡ length (unbarred v) → b' ≡ written b 0 (unbarred v)
  unfolding written
  all_copied e =
      let u : List ℕ = unbarred v in
      let same : take n b' ≡ u = c.front ∙ ap (λ (k : ℕ). take k u) e ∙ take-length u in
      sym (take-append-drop n b') ∙ ap₂ (λ (l : List ℕ) (k : ℕ). l ++ drop k b') same (e ∙ sym (zero-add (length u))) ∙ c.whole

  -- a number more
  module _ (h : n < length (unbarred v)) (room : length (unbarred v) ≤ length b) where
    abbrev x : ℕ
    x = get_or v i 0

    abbrev then' : List ℕ
    then' = set b' n x

    kept : written then' 0 (unbarred v) ≡ written b 0 (unbarred v)
    unfolding written
    kept = ap (λ (d : List ℕ). unbarred v ++ d) (drop-set-lt (0 + length (unbarred v)) b' n x (omega arith)) ∙ c.whole

    a_bar : x ≡ bar → Copies v b then' n (i + 1)
    a_bar e =
        record {
          few = c.few;
          within = omega (arith, some_left h);
          long = length-set b' n x ∙ c.long;
          front = take-set-le n b' n x (omega arith) ∙ c.front;
          whole = kept;
          left = c.left ∙ copy_bar v i (some_left h) e;
        }

    a_symbol : (x ≡ bar → ⊥) → Copies v b then' (n + 1) (i + 1)
    a_symbol e =
        let u : List ℕ = unbarred v in
        let here = next u n x (unbarred (drop (i + 1) v)) (c.left ∙ copy_symbol v i (some_left h) e) in
        let inside : n < length b' = omega (arith, c.long) in
        let more : take (n + 1) then' ≡ take (n + 1) u =
        rw add-one
        (take-suc then' n 0 (omega (arith, length-set b' n x))
        ∙ ap₂ (λ (l : List ℕ) (y : ℕ). l ++ (y ∷ [])) (take-set-le n b' n x (omega arith) ∙ c.front) (get_or-set_same b' n x 0 inside ∙ sym here.here)
        ∙ sym (take-suc u n 0 here.below)) in
        record {
          few = omega (arith, here.below);
          within = omega (arith, some_left h);
          long = length-set b' n x ∙ c.long;
          front = more;
          whole = kept;
          left = here.later;
        }

    pub a_number : (k : ℕ) → k ≡ length (unbarred (x ∷ [])) → Copies v b then' (n + k) (i + 1)
    a_number k e = go (eqb x bar) refl
      where
        go : (t : Bool) → eqb x bar ≡ t → Copies v b then' (n + k) (i + 1)
        go true p = let z : k ≡ 0 = e ∙ bar_none x (eqb-true x bar p) in rw (z, add-zero) (a_bar (eqb-true x bar p))
        go false p = let z : k ≡ 1 = e ∙ other_one x (eqb-false x bar p) in rw z (a_symbol (eqb-false x bar p))
