-- Laws of a sheet whose outputs are bytes: one pattern more, and all of them.
-- Assumes nothing.
use Prim.Native.Nat.{ℕ, ◌+◌, ◌*◌, ◌≤◌}
use mathlib.Core.Path.{◌≡◌, refl, sym, ap, ap₂, ◌∙◌, subst}
use mathlib.Core.List.{List, ◌++◌}
use native.Mathlib.Omega.{arith}
use lib.ListN.{length, take, length-append}
use Rattle.rows.specs.Limits.{result_places}
use Rattle.rows.specs.Programme.{Alphabet}
use Rattle.rows.specs.Sheet.{pattern_at, laid}
use Rattle.rows.specs.Buffers.{written}
use Rattle.rows.proofs.Sheet.{laid_more, laid-length}
use Rattle.buffers.proofs.Written.{written_right}
use Rattle.sheets.specs.Sheets.{alone, result, positions_of, Answered}
use Rattle.sheets.proofs.Sheets.{front_read, results_more}
use Rattle.wire.specs.Wire.{numbers, bytes_of}
use Rattle.wire.proofs.Numbers.{numbers-length, bytes_of-length, bytes_of-append, written_none}
use Rattle.c_sheets.specs.Sheets.{HoldsBytes, PutBehind, AnsweredBytes}

-- a list behind another
held_more : (ps more y y₁ y₂ : List ℕ) → HoldsBytes ps y y₁ → PutBehind more (length ps) y₁ y₂ → HoldsBytes (ps ++ more) y y₂
held_more ps more y y₁ y₂ h m = record { long = m.long ∙ h.long; front = fits }
  where
    fits : length (ps ++ more) ≤ length (numbers y) → y₂ ≡ written y 0 (bytes_of (ps ++ more))
    fits f =
        let both : length ps + length more ≤ length (numbers y) = omega (arith, f, length-append ps more) in
        let same : length (numbers y₁) ≡ length (numbers y) = omega (arith, numbers-length y₁, numbers-length y, h.long) in
        let room : 2 * length ps + length (bytes_of more) ≤ length y = omega (arith, bytes_of-length more, numbers-length y) in
        m.behind (omega arith)
        ∙ ap (λ (b : List ℕ). written b (2 * length ps) (bytes_of more)) (h.front (omega arith))
        ∙ written_right y 0 (bytes_of ps) (bytes_of more) (2 * length ps) (omega (arith, bytes_of-length ps)) room
        ∙ ap (written y 0) (sym (bytes_of-append ps more))

module _ (a : Alphabet) (w qs ls : List ℕ) where
  pub answered_none : (y z : List ℕ) → AnsweredBytes a w qs ls 0 y z 0 y z
  unfolding laid written
  answered_none y z = record { count = refl; positions = record { long = refl; front = λ h. sym (written_none y) }; results = refl }

  module _ (i : ℕ) (y z : List ℕ) (r : ℕ) (y₁ z₁ : List ℕ) (l : AnsweredBytes a w qs ls i y z r y₁ z₁) where
    pub answered_more : (q : List ℕ) (n : ℕ) (room room' y₂ z₂ : List ℕ) → q ≡ pattern_at qs ls i → length (alone a w q) ≤ length room
        → result_places * i + result_places ≤ length z → Answered a w q room i z₁ n room' z₂ → PutBehind (take n room') r y₁ y₂
        → AnsweredBytes a w qs ls (i + 1) y z (r + n) y₂ z₂
    answered_more q n room room' y₂ z₂ is fits long m p =
        let here : take n room' ≡ positions_of a w qs ls i = front_read room room' (alone a w q) n (m.positions.front fits) m.count ∙ ap (alone a w) is in
        let put : PutBehind (positions_of a w qs ls i) (length (laid (positions_of a w qs ls) i)) y₁ y₂ =
        subst (λ (k : ℕ). PutBehind (positions_of a w qs ls i) k y₁ y₂) l.count (subst (λ (ps : List ℕ). PutBehind ps r y₁ y₂) here p) in
        record {
          count = ap₂ ◌+◌ l.count (m.count ∙ ap (λ (q : List ℕ). length (alone a w q)) is) ∙ sym (laid-length (positions_of a w qs ls) i);
          positions = subst (λ (ps : List ℕ). HoldsBytes ps y y₂) (sym (laid_more (positions_of a w qs ls) i)) (held_more (laid (positions_of a w qs ls) i) _ y y₁ y₂ l.positions put);
          results = results_more a w qs ls i z z₁ z₂ long l.results (m.result ∙ ap (λ (q : List ℕ). written z₁ (result_places * i) (result a w q)) is);
        }
