-- Marks: what one more does to them, and that a walk keeps those that it finds.
-- Assumes nothing.
use Prim.Native.Nat.{ℕ, zero, suc, ◌+◌, ◌-◌, ◌≤◌, ◌<◌}
use mathlib.Core.Path.{◌≡◌, refl, sym, ap, ◌∙◌, subst}
use mathlib.Core.Logic.{◌⊎◌, inl, inr}
use mathlib.Core.List.{List, [], ◌∷◌}
use mathlib.Core.Bool.{Bool, true, false}
use native.Mathlib.Omega.{arith}
use native.Mathlib.Decide.{dec_lt, ℕ_discrete}
use lib.Dec.{eqb}
use lib.ListN.{get_or, length, set, length-set, get_or-eq_default, get_or-replicate}
use lib.Seq.{get_or-set_same, get_or-set_other, set_out}
use Rattle.rows.specs.Limits.{variables}
use Rattle.rows.specs.Row.{pick}
use Rattle.patterns.specs.Pattern.{leaf}
use Rattle.patterns.specs.Walk.{same_symbol, Outcome, Outcome.misses, Outcome.reaches, agreeing, meets, takes, steps, onward, walk, unmarked, MarksIn}
use Rattle.patterns.specs.declared.Leaf.{Leaf}
use Rattle.patterns.specs.declared.Leaf.TheVariants.{Plain, Blank, Variable}

-- what holds of both holds of the one that a test picks
pub picks : (P : Outcome → Type 0) (b : Bool) (x y : Outcome) → P x → P y → P (pick b x y)
picks P true x y p q = p
picks P false x y p q = q

pub unmarked_zero : (i : ℕ) → get_or unmarked i 0 ≡ 0
unmarked_zero i = go (dec_lt i variables)
  where
    go : Dec (i < variables) → get_or unmarked i 0 ≡ 0
    go (yes l) = get_or-replicate variables i 0 0 l
    go (no l) = get_or-eq_default unmarked 0 {n = i} (omega arith)

-- a mark after one more was set
pub set_cases : (ms : List ℕ) (i x k a : ℕ) → get_or (set ms i x) k 0 ≡ suc a → ((k ≡ i) × (x ≡ suc a)) ⊎ (get_or ms k 0 ≡ suc a)
set_cases ms i x k a q = go (ℕ_discrete k i) (dec_lt i (length ms))
  where
    go : Dec (k ≡ i) → Dec (i < length ms) → ((k ≡ i) × (x ≡ suc a)) ⊎ (get_or ms k 0 ≡ suc a)
    go (no d) l = inr (sym (get_or-set_other ms i k x 0 d) ∙ q)
    go (yes d) (yes l) = inl (d, sym (get_or-set_same ms i x 0 l) ∙ ap (λ (n : ℕ). get_or (set ms i x) n 0) (sym d) ∙ q)
    go (yes d) (no l) = inr (ap (λ (m : List ℕ). get_or m k 0) (sym (set_out ms i x (omega arith))) ∙ q)

-- marks of positions before n
pub marks_none : (n : ℕ) → MarksIn n unmarked
marks_none n = record { many = refl; all = λ i. (let z : get_or unmarked i 0 ≡ 0 = unmarked_zero i in omega arith) }

pub marks_wider : (n m : ℕ) (ms : List ℕ) → n ≤ m → MarksIn n ms → MarksIn m ms
marks_wider n m ms l h = record { many = h.many; all = λ i. omega (arith, h.all i) }

pub marks_set : (n j : ℕ) (ms : List ℕ) (i : ℕ) → j < n → MarksIn j ms → MarksIn n (set ms i (j + 1))
marks_set n j ms i l h =
    record { many = length-set ms i (j + 1) ∙ h.many; all = λ k. go k (ℕ_discrete k i) (dec_lt i (length ms)) }
  where
    go : (k : ℕ) → Dec (k ≡ i) → Dec (i < length ms) → get_or (set ms i (j + 1)) k 0 ≤ n
    go k (no d) b = rw (get_or-set_other ms i k (j + 1) 0 d) (omega (arith, h.all k))
    go k (yes d) (yes b) = rw (d, get_or-set_same ms i (j + 1) 0 b) (omega arith)
    go k (yes d) (no b) = rw (set_out ms i (j + 1) (omega arith)) (omega (arith, h.all k))

-- a walk keeps the marks that it finds, and their number
pub record Kept (ms ms' : List ℕ) : Type 0 where
  pub many : length ms' ≡ length ms
  pub marks : (k a : ℕ) → get_or ms k 0 ≡ suc a → get_or ms' k 0 ≡ suc a

abbrev pub Keeps : List ℕ → Outcome → Type 0
Keeps ms (misses k j) = Unit {0}
Keeps ms (reaches j ms') = Kept ms ms'

kept_same : (ms : List ℕ) → Kept ms ms
kept_same ms = record { many = refl; marks = λ k a q. q }

module _ (w : List ℕ) where
  keeps_meets : (end k j : ℕ) (ms : List ℕ) (i m : ℕ) → get_or ms i 0 ≡ m → Keeps ms (meets w end k j ms i m)
  unfolding meets
  keeps_meets end k j ms i zero n =
      record {
        many = length-set ms i (j + 1);
        marks = λ x a q. get_or-set_other ms i x (j + 1) 0 (λ (d : x ≡ i). (let z : get_or ms i 0 ≡ suc a = ap (λ (x : ℕ). get_or ms x 0) (sym d) ∙ q in omega arith)) ∙ q;
      }
  keeps_meets end k j ms i (suc a) n =
      picks (Keeps ms) (eqb (agreeing w a j (end - j)) (end - j)) (reaches end ms) (misses k (j + agreeing w a j (end - j))) (kept_same ms) tt

  keeps-takes : (end k j : ℕ) (ms : List ℕ) (l : Leaf) → Keeps ms (takes w end k j ms l)
  unfolding takes
  keeps-takes end k j ms Plain = tt
  keeps-takes end k j ms Blank = kept_same ms
  keeps-takes end k j ms (Variable i) = keeps_meets end k j ms i (get_or ms i 0) refl

  module _ (e : List ℕ) where
    pub keeps-steps : (k s j : ℕ) (ms : List ℕ) → Keeps ms (steps w e k s j ms)
    unfolding steps
    keeps-steps k s j ms =
        picks (Keeps ms) (same_symbol (get_or w j 0) s) (reaches (j + 1) ms) (takes w (get_or e j 0) k j ms (leaf s)) (kept_same ms) (keeps-takes (get_or e j 0) k j ms (leaf s))

    keeps : (k : ℕ) (q : List ℕ) (j : ℕ) (ms : List ℕ) → Keeps ms (walk w e k q j ms)
    unfolding walk
    keeps k [] j ms = kept_same ms
    keeps k (s ∷ q) j ms = go (steps w e k s j ms) (keeps-steps k s j ms) (keeps (k + 1) q)
      where
        then : (ms₁ : List ℕ) (o : Outcome) → Kept ms ms₁ → Keeps ms₁ o → Keeps ms o
        then ms₁ (misses x y) h b = tt
        then ms₁ (reaches j' ms₂) h b = record { many = b.many ∙ h.many; marks = λ i a z. b.marks i a (h.marks i a z) }

        go : (o : Outcome) → Keeps ms o → ((j' : ℕ) (ms' : List ℕ) → Keeps ms' (walk w e (k + 1) q j' ms'))
            → Keeps ms (onward o (λ j' ms'. walk w e (k + 1) q j' ms'))
        go (misses x y) h ih = tt
        go (reaches j₁ ms₁) h ih = then ms₁ (walk w e (k + 1) q j₁ ms₁) h (ih j₁ ms₁)

    pub kept : (k : ℕ) (q : List ℕ) (j : ℕ) (ms : List ℕ) (j' : ℕ) (ms' : List ℕ) → walk w e k q j ms ≡ reaches j' ms' → Kept ms ms'
    kept k q j ms j' ms' z = subst (Keeps ms) z (keeps k q j ms)
