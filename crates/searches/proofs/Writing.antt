-- Writing the spans of marks to the front of a buffer, two numbers a turn.
-- Assumes nothing.
use Prim.Native.Nat.{ℕ, zero, suc, ◌+◌, ◌-◌, ◌<◌}
use mathlib.Core.Path.{◌≡◌, refl, sym, ap, ap₂, ◌∙◌}
use mathlib.Core.List.{List, [], ◌∷◌, ◌++◌, append_assoc}
use native.Mathlib.Omega.{arith}
use native.Mathlib.Numerals.{add-one}
use lib.ListN.{length, take, get_or, set, length-append}
use lib.Seq.{take_at}
use Rattle.rows.specs.Buffers.{written}
use Rattle.rows.proofs.Buffers.{written_snoc}
use Rattle.patterns.specs.Walk.{mark_begin, mark_end}
use Rattle.searches.specs.Spans.{mark_spans}

-- begin and end of a mark
pub begin_later : (m : ℕ) → (m ≡ 0 → ⊥) → m - 1 ≡ mark_begin m
begin_later zero n = absurd (n refl)
begin_later (suc a) n = omega arith

pub end_later : (e : List ℕ) (m : ℕ) → (m ≡ 0 → ⊥) → get_or e (m - 1) 0 ≡ mark_end e m
end_later e zero n = absurd (n refl)
end_later e (suc a) n = let q : suc a - 1 ≡ a = omega arith in rw q refl

pub length_marks : (e ms : List ℕ) (n : ℕ) → length (mark_spans e ms n) ≡ n + n
unfolding mark_spans
length_marks e ms zero = refl
length_marks e ms (suc n) = length-append (mark_spans e ms n) _ ∙ omega (arith, length_marks e ms n)

-- one number more at the end of n that stand at the front
pub front_snoc : (y xs : List ℕ) (n x : ℕ) → n ≡ length xs → n < length y → set (written y 0 xs) n x ≡ written y 0 (xs ++ (x ∷ []))
front_snoc y xs n x q h =
    let at : n ≡ 0 + length xs = omega arith in
    ap (λ (m : ℕ). set (written y 0 xs) m x) at ∙ written_snoc y 0 xs x (omega arith)

-- what stands at the front is read there
pub front_taken : (y xs : List ℕ) (n : ℕ) → n ≡ length xs → take n (written y 0 xs) ≡ xs
unfolding written
front_taken y xs n q = take_at xs _ n (sym q)

-- the spans of one mark more
pub marks_more : (e ms y : List ℕ) (n b f : ℕ) → n + n + 1 < length y → b ≡ mark_begin (get_or ms n 0) → f ≡ mark_end e (get_or ms n 0)
    → set (set (written y 0 (mark_spans e ms n)) (n + n) b) (n + n + 1) f ≡ written y 0 (mark_spans e ms (n + 1))
unfolding mark_spans
marks_more e ms y n b f h p q =
    let xs : List ℕ = mark_spans e ms n in
    let long : length xs ≡ n + n = length_marks e ms n in
    ap (λ (l : List ℕ). set l (n + n + 1) f) (front_snoc y xs (n + n) b (sym long) (omega arith))
    ∙ front_snoc y (xs ++ (b ∷ [])) (n + n + 1) f (omega (arith, length-append xs (b ∷ []))) h
    ∙ ap (written y 0) (append_assoc xs (b ∷ []) (f ∷ []) ∙ ap₂ (λ (x z : ℕ). xs ++ (x ∷ z ∷ [])) p q ∙ ap (mark_spans e ms) (sym (add-one n)))
