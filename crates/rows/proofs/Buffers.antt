-- Laws of what is written into a buffer.
-- Assumes nothing.
use Prim.Native.Nat.{ℕ, suc, ◌+◌, ◌≤◌, ◌<◌}
use mathlib.Core.Path.{◌≡◌, refl, ap, ◌∙◌}
use mathlib.Core.List.{List, [], ◌∷◌, ◌++◌, append_assoc}
use native.Mathlib.Nat.{add-zero, add-suc, zero-add}
use native.Mathlib.Omega.{arith}
use lib.ListN.{length, take, drop, set, length-append, length-take, length-drop, take-append-drop}
use lib.Seq.{take_at, drop_at, drop-cons, set_at}
use Rattle.rows.specs.Programme.{programme}
use Rattle.rows.specs.Buffers.{written}

pub length-written : (b : List ℕ) (at : ℕ) (v : List ℕ) → at + length v ≤ length b → length (written b at v) ≡ length b
unfolding written
length-written b at v h = simp (length-append, length-take, length-drop) (omega arith)

pub written_nil : {X : Type 0} (b : List X) (at : ℕ) → written b at [] ≡ b
unfolding written
written_nil b at = rw (add-zero at, take-append-drop at b)

-- what is written to the front stands at the front, and what stands behind it stays
pub written-front : (b v : List ℕ) → take (length v) (written b 0 v) ≡ v
unfolding written
written-front b v = take_at v (drop (0 + length v) b) (length v) refl

pub written_behind : (b v : List ℕ) → drop (length v) (written b 0 v) ≡ drop (length v) b
unfolding written
written_behind b v = drop_at v (drop (0 + length v) b) (length v) refl ∙ ap (λ (n : ℕ). drop n b) (zero-add (length v))

-- one number more at the end of what is written
pub written_snoc : {X : Type 0} (b : List X) (at : ℕ) (v : List X) (x : X) → at + length v < length b
    → set (written b at v) (at + length v) x ≡ written b at (v ++ (x ∷ []))
unfolding written
written_snoc b at v x h =
    let l : length (take at b ++ v) ≡ at + length v = simp (length-append, length-take) (omega arith) in
    let s : length (v ++ (x ∷ [])) ≡ suc (length v) = simp length-append (omega arith) in
    rw (drop-cons b (at + length v) x h, ← append_assoc (take at b) v, set_at (take at b ++ v) _ _ x _ l, s, add-suc) (simp append_assoc)

-- two programmes with the same lists
pub same_programme : {w w' t t' c c' : List ℕ} → w ≡ w' → t ≡ t' → c ≡ c' → programme w t c ≡ programme w' t' c'
same_programme x y z = λ i. record { row = x i; table = y i; classes = z i }
