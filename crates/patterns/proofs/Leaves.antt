-- What a number of a pattern says of itself by its kind.
-- Assumes nothing.
use Prim.Native.Nat.{ℕ, ◌+◌, ◌-◌, ◌≤◌, ◌<◌}
use mathlib.Core.Path.{◌≡◌, sym, refl, ap, ◌∙◌}
use mathlib.Core.List.{List}
use mathlib.Core.Bool.{Bool, true, false}
use native.Mathlib.Omega.{arith}
use native.Mathlib.Decide.{ℕ_discrete}
use borrow.Author.Tests.{lt-ltb, eq-eqb, ne_eqb, eqb-true, ltb-true, ltb-false}
use lib.Dec.{ltb, eqb}
use lib.ListN.{length, get_or, get_or-eq_default}
use Rattle.rows.specs.Limits.{alphabet_most, blank, first_variable, variables}
use Rattle.rows.specs.Tree.{Forest, Forest.none, Forest.grow, Ranked}
use Rattle.rows.specs.Row.{pick, is_variable}
use Rattle.rows.proofs.Tree.{no_trees}
use Rattle.patterns.specs.Pattern.{leaf}
use Rattle.patterns.specs.Searchable.{BlankFrom}
use Rattle.patterns.specs.declared.Leaf.{Leaf}
use Rattle.patterns.specs.declared.Leaf.TheVariants.{Plain, Blank, Variable}

-- S and the variables lie past every alphabet
abbrev pub Kind : ℕ → Leaf → Type 0
Kind s Plain = Unit {0}
Kind s Blank = first_variable ≤ s
Kind s (Variable i) = (first_variable ≤ s) × (i < variables)

pub kind : (s : ℕ) → Kind s (leaf s)
unfolding leaf
kind s = go (eqb s blank) (ltb s first_variable) (ltb s (first_variable + variables)) refl refl refl
  where
    go : (a b c : Bool) → eqb s blank ≡ a → ltb s first_variable ≡ b → ltb s (first_variable + variables) ≡ c
        → Kind s (pick a Blank (pick (pick b false c) (Variable (s - first_variable)) Plain))
    go true b c p q r = let e : s ≡ blank = eqb-true s blank p in omega arith
    go false true c p q r = tt
    go false false true p q r = let l : first_variable ≤ s = ltb-false s first_variable q in let m : s < first_variable + variables = ltb-true s (first_variable + variables) r in (l, omega arith)
    go false false false p q r = tt

-- the tests of the code
pub variable_from : (s : ℕ) → is_variable s ≡ true → first_variable ≤ s
variable_from s e = go (ltb s first_variable) refl e
  where
    go : (b : Bool) → ltb s first_variable ≡ b → pick b false (ltb s (first_variable + variables)) ≡ true → first_variable ≤ s
    go true p e = let z : ◌≡◌ {A = ℕ} 0 1 = cc in absurd (omega arith)
    go false p e = ltb-false s first_variable p

module _ (s : ℕ) where
  pub leaf-blank : s ≡ blank → Blank ≡ leaf s
  unfolding leaf
  leaf-blank e = rw (eq-eqb s blank e) refl

  pub leaf_variable : (s ≡ blank → ⊥) → is_variable s ≡ true → Variable (s - first_variable) ≡ leaf s
  unfolding leaf
  leaf_variable n e = rw (ne_eqb s blank n, e) refl

  pub leaf_plain : (s ≡ blank → ⊥) → is_variable s ≡ false → Plain ≡ leaf s
  unfolding leaf
  leaf_plain n e = rw (ne_eqb s blank n, e) refl

-- a symbol of an alphabet is plain
pub plain_symbol : (s : ℕ) → s < first_variable → leaf s ≡ Plain
unfolding leaf
plain_symbol s h = rw (ne_eqb s blank (omega arith), lt-ltb s first_variable h) refl

-- S and a variable have no children
pub leaf-alone : (A : List ℕ) (ok : ℕ → Bool) (s : ℕ) (cs f : Forest) → length A ≤ alphabet_most → Ranked A ok (grow s cs f) → first_variable ≤ s → cs ≡ none
unfolding Ranked
leaf-alone A ok s cs f few r h = no_trees cs (r.1 ∙ get_or-eq_default A 0 (omega arith))

-- one more S at the end
pub blank_more : (q : List ℕ) (m : ℕ) → 0 < m → BlankFrom q m → leaf (get_or q (m - 1) 0) ≡ Blank → BlankFrom q (m - 1)
blank_more q m some h z = record { within = omega (arith, h.within); blank = λ i l u. go i l u (ℕ_discrete i (m - 1)) }
  where
    go : (i : ℕ) → m - 1 ≤ i → i < length q → Dec (i ≡ m - 1) → leaf (get_or q i 0) ≡ Blank
    go i l u (yes d) = ap (λ (n : ℕ). leaf (get_or q n 0)) d ∙ z
    go i l u (no d) = h.blank i (omega arith) u

-- the number before place k is S too
pub blank_before : (q : List ℕ) (k : ℕ) → 0 < k → BlankFrom q k → get_or q (k - 1) 0 ≡ blank → BlankFrom q (k - 1)
blank_before q k some h z = blank_more q k some h (sym (leaf-blank (get_or q (k - 1) 0) z))
