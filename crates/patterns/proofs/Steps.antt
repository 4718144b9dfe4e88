-- One step of the walk, by its cases.
-- Assumes nothing.
use Rattle.std.specs.Prelude.{Option, Some, None}
use Prim.Native.Nat.{ℕ, zero, suc, ◌+◌, ◌-◌, ◌≤◌, ◌<◌}
use mathlib.Core.Path.{◌≡◌, refl, sym, ap, ◌∙◌, subst}
use mathlib.Core.List.{List}
use mathlib.Core.Bool.{Bool, true, false}
use native.Mathlib.Omega.{arith}
use lib.Dec.{eqb}
use lib.ListN.{get_or, length, set}
use Rattle.rows.specs.Limits.{variables}
use Rattle.rows.specs.Row.{pick}
use Rattle.patterns.specs.Pattern.{leaf}
use Rattle.patterns.specs.Walk.{same_symbol, agreeing, twice, Outcome, Outcome.misses, Outcome.reaches, meets, takes, steps, ByClass, met, marked, stepped, marks_after, Stepping}
use Rattle.patterns.specs.declared.Leaf.TheVariants.{Plain, Blank, Variable}
use Rattle.patterns.proofs.Leaves.{Kind, kind}

-- the answer for an outcome that is known
pub answers : (o o' : Outcome) (ms : List ℕ) → o ≡ o' → Stepping o ms (stepped o') (marks_after ms o')
answers o o' ms q = record { answer = ap stepped (sym q); marks = ap (marks_after ms) (sym q) }

pub answers_at : (o o' : Outcome) (ms : List ℕ) (r : Option ℕ) (ms' : List ℕ) → o ≡ o' → Stepping o' ms r ms' → Stepping o ms r ms'
answers_at o o' ms r ms' q h = subst (λ (x : Outcome). Stepping x ms r ms') (sym q) h

-- a variable's number is below 16
pub variable_small : (s i : ℕ) → leaf s ≡ Variable i → i < variables
variable_small s i q = (subst (Kind s) q (kind s)).1

-- a variable at a subtree that stands up to `end`
module _ (w : List ℕ) (end k j : ℕ) (ms : List ℕ) (i : ℕ) where
  pub meets-first : get_or ms i 0 ≡ 0 → meets w end k j ms i (get_or ms i 0) ≡ reaches end (set ms i (j + 1))
  unfolding meets
  meets-first z = rw z refl

  pub meets_later : (a : ℕ) → get_or ms i 0 ≡ suc a → (b : Bool) → twice w a j (end - j) ≡ b
      → meets w end k j ms i (get_or ms i 0) ≡ pick b (reaches end ms) (misses k (j + agreeing w a j (end - j)))
  unfolding meets
  meets_later a m b y = ap (meets w end k j ms i) m ∙ rw y refl

pick_misses : (b : Bool) (end : ℕ) (ms : List ℕ) (k a : ℕ) → stepped (pick b (reaches end ms) (misses k a)) ≡ None → pick b (reaches end ms) (misses k a) ≡ misses k a
pick_misses true end ms k a x = let z : ◌≡◌ {A = ℕ} 0 1 = cc in absurd (omega arith)
pick_misses false end ms k a x = refl

meets_misses : (w : List ℕ) (end k j : ℕ) (ms : List ℕ) (i mark : ℕ) → stepped (meets w end k j ms i mark) ≡ None
    → (0 < mark) × (meets w end k j ms i mark ≡ misses k (j + agreeing w (mark - 1) j (end - j)))
unfolding meets
meets_misses w end k j ms i zero x = let z : ◌≡◌ {A = ℕ} 0 1 = cc in absurd (omega arith)
meets_misses w end k j ms i (suc a) x =
    let same : suc a - 1 ≡ a = omega arith in
    (omega arith, pick_misses (twice w a j (end - j)) end ms k (j + agreeing w a j (end - j)) x ∙ ap (λ (n : ℕ). misses k (j + agreeing w n j (end - j))) (sym same))

-- what the classes tell of a variable is what the walk finds
pub met_by_class : (w e c : List ℕ) (k j : ℕ) (ms : List ℕ) (i : ℕ) → ByClass w e c → j < length w → get_or ms i 0 ≤ j
    → Stepping (meets w (get_or e j 0) k j ms i (get_or ms i 0)) ms (met c (get_or e j 0) j (get_or ms i 0)) (marked ms i j (get_or ms i 0))
unfolding meets
met_by_class w e c k j ms i by h m = go (get_or ms i 0) m
  where
    either : (b : Bool) (o : Outcome) → stepped o ≡ None → marks_after ms o ≡ ms
        → Stepping (pick b (reaches (get_or e j 0) ms) o) ms (pick b (Some (get_or e j 0)) None) ms
    either true o x y = record { answer = refl; marks = refl }
    either false o x y = record { answer = sym x; marks = sym y }

    go : (mark : ℕ) → mark ≤ j → Stepping (meets w (get_or e j 0) k j ms i mark) ms (met c (get_or e j 0) j mark) (marked ms i j mark)
    go zero m = record { answer = refl; marks = refl }
    go (suc a) m =
        let n : ℕ = get_or e j 0 - j in
        rw (by.same a j (omega arith) h) (either (eqb (get_or c a 0) (get_or c j 0)) (misses k (j + agreeing w a j n)) refl refl)

-- a number of the pattern
module _ (w e : List ℕ) (k s j : ℕ) (ms : List ℕ) where
  pub steps_same : same_symbol (get_or w j 0) s ≡ true → steps w e k s j ms ≡ reaches (j + 1) ms
  unfolding steps
  steps_same y = rw y refl

  -- of the table only the entry at j counts
  pub steps_end : (e' : List ℕ) → get_or e j 0 ≡ get_or e' j 0 → steps w e k s j ms ≡ steps w e' k s j ms
  unfolding steps
  steps_end e' y = ap (λ (n : ℕ). pick (same_symbol (get_or w j 0) s) (reaches (j + 1) ms) (takes w n k j ms (leaf s))) y

  module _ (y : same_symbol (get_or w j 0) s ≡ false) where
    pub steps_plain : leaf s ≡ Plain → steps w e k s j ms ≡ misses k j
    unfolding steps takes
    steps_plain l = rw (y, l) refl

    pub steps-blank : leaf s ≡ Blank → steps w e k s j ms ≡ reaches (get_or e j 0) ms
    unfolding steps takes
    steps-blank l = rw (y, l) refl

    pub steps_variable : (i : ℕ) → leaf s ≡ Variable i → steps w e k s j ms ≡ meets w (get_or e j 0) k j ms i (get_or ms i 0)
    unfolding steps takes
    steps_variable i l = rw (y, l) refl

    -- where a variable misses, it was met before, and the first symbol that differs is told
    pub variable_misses : (i : ℕ) → leaf s ≡ Variable i → stepped (steps w e k s j ms) ≡ None
        → (0 < get_or ms i 0) × (steps w e k s j ms ≡ misses k (j + agreeing w (get_or ms i 0 - 1) j (get_or e j 0 - j)))
    variable_misses i l z =
        let f = meets_misses w (get_or e j 0) k j ms i (get_or ms i 0) (sym (ap stepped (steps_variable i l)) ∙ z) in
        (f.0, steps_variable i l ∙ f.1)

    -- S never misses
    pub blank_fits : leaf s ≡ Blank → stepped (steps w e k s j ms) ≡ None → ⊥
    blank_fits l z = let x : ◌≡◌ {A = ℕ} 0 1 = cc (ap stepped (steps-blank l)) in omega arith
