-- The places of a variable: at the first the tree's length is kept, and at a later one as many symbols are compared. No tree is the
-- beginning of another, so trees that differ do so within both.
-- Assumes nothing.
use Prim.Native.Nat.{ℕ, zero, suc, ◌+◌, ◌-◌, ◌≤◌, ◌<◌, min}
use mathlib.Core.Path.{◌≡◌, refl, sym, ap, ap₂, ◌∙◌, subst, subst₂}
use mathlib.Core.Logic.{◌⊎◌, inl, inr, ⊎_elim}
use mathlib.Core.List.{List, [], ◌∷◌}
use mathlib.Core.Bool.{Bool, true, false}
use native.Mathlib.Omega.{arith}
use native.Mathlib.Decide.{ℕ_discrete}
use native.Mathlib.Numerals.{add-one}
use borrow.Author.Tests.{eqb-true, eq-eqb, ne_eqb}
use lib.Dec.{eqb}
use lib.ListN.{length, get_or, take, drop, set, length-drop, length-set}
use lib.Seq.{get_or-set_same, get_or-set_other}
use Rattle.rows.specs.Limits.{variables}
use Rattle.rows.specs.Tree.{size}
use Rattle.rows.specs.Parse.{first, over, parse, behind}
use Rattle.rows.specs.Row.{symbol}
use Rattle.rows.proofs.Entry.{behind_some}
use Rattle.patterns.specs.Walk.{agreeing, same_front, Outcome.misses, Outcome.reaches}
use Rattle.patterns.proofs.Steps.{meets-first as first-place, meets_later as later-place}
use Rattle.plain.specs.Plain.{Spells, starts, marked_length, Lengths, Ahead, meeting, Takes, Meets}
use Rattle.plain.specs.declared.Tried.TheVariants.{Past, Through, Miss as Missed}
use Rattle.plain.proofs.Spelling.{size_add, spells_fits, spells_next, first_some, first_within, ranked_drop}

-- TREES THAT ARE COMPARED
-- how many of the first n symbols of two lists are the same
abbrev front : ℕ → List ℕ → List ℕ → ℕ
front n x y = same_front (take n x) (take n y)

-- Trees of m₁ and of m₂ symbols, compared by n: they are the same; or they differ within both, at the same place whether n symbols
-- or m₂ are compared.
abbrev Parted : List ℕ → List ℕ → ℕ → ℕ → ℕ → Type 0
Parted x y n m₁ m₂ =
    ((m₂ ≡ m₁) × (front n x y ≡ m₁) × (front m₂ x y ≡ m₂)) ⊎ ((front n x y < m₁) × (front n x y < m₂) × (front m₂ x y ≡ front n x y))

parted_over : (s t : ℕ) (x y : List ℕ) (n m₁ m₂ : ℕ) (c : Bool) → eqb s t ≡ c → (c ≡ true → Parted x y n m₁ m₂)
    → Parted (s ∷ x) (t ∷ y) (suc n) (suc m₁) (suc m₂)
unfolding same_front
parted_over s t x y n m₁ m₂ true e h =
    ⊎_elim
    (λ a. rw e (inl (ap suc a.0, ap suc a.1, ap suc a.2)))
    (λ a. rw e (inr (omega (arith, a.0), omega (arith, a.1), ap suc a.2)))
    (h refl)
parted_over s t x y n m₁ m₂ false e h = rw e (inr (omega arith, omega arith, refl))

module _ (A : List ℕ) where
  -- one symbol, and the trees that are then due
  size_next : (k s : ℕ) (l : List ℕ) → size (first (suc k) (parse A (s ∷ l))) ≡ suc (size (first (k + get_or A s 0) (parse A l)))
  unfolding parse over first size
  size_next k s l =
      let turn : k + get_or A s 0 ≡ get_or A s 0 + k = omega arith in
      omega (arith, size_add (get_or A s 0) k (parse A l), ap (λ (n : ℕ). size (first n (parse A l))) turn)

  spells_on : (k s : ℕ) (l : List ℕ) → Spells A (symbol A) (suc k) (s ∷ l) → Spells A (symbol A) (k + get_or A s 0) l
  spells_on k s l h =
      let same : suc k - 1 + get_or A s 0 ≡ k + get_or A s 0 = omega arith in
      subst (λ (n : ℕ). Spells A (symbol A) n l) same (spells_next A (symbol A) (suc k) s l (omega arith) h).1

  parted : (x y : List ℕ) (k n : ℕ) → Spells A (symbol A) k x → Spells A (symbol A) k y → n ≤ size (first k (parse A x))
      → (size (first k (parse A x)) ≤ n) ⊎ (length y ≤ n) → Parted x y n (size (first k (parse A x))) (size (first k (parse A y)))
  unfolding first size same_front
  parted [] y zero n p r h l = let z : n ≡ 0 = omega arith in rw z (inl (refl, refl, refl))
  parted (s ∷ x) y zero n p r h l = let z : n ≡ 0 = omega arith in rw z (inl (refl, refl, refl))
  parted [] y (suc k) n p r h l = absurd (omega (arith, spells_fits A (symbol A) (suc k) [] p))
  parted (s ∷ x) [] (suc k) n p r h l = absurd (omega (arith, spells_fits A (symbol A) (suc k) [] r))
  parted (s ∷ x) (t ∷ y) (suc k) zero p r h l = absurd (⊎_elim (λ a. omega (arith, a, size_next k s x)) (λ a. omega (arith, a)) l)
  parted (s ∷ x) (t ∷ y) (suc k) (suc n) p r h l =
      subst₂ (Parted (s ∷ x) (t ∷ y) (suc n)) (sym (size_next k s x)) (sym (size_next k t y))
      (parted_over s t x y n (size (first (k + get_or A s 0) (parse A x))) (size (first (k + get_or A t 0) (parse A y))) (eqb s t) refl
      (λ e. inner (eqb-true s t e) (λ r'. parted x y (k + get_or A s 0) n (spells_on k s x p) r' (omega (arith, h, size_next k s x)) (less l))))
    where
      less : (size (first (suc k) (parse A (s ∷ x))) ≤ suc n) ⊎ (suc (length y) ≤ suc n) → (size (first (k + get_or A s 0) (parse A x)) ≤ n) ⊎ (length y ≤ n)
      less (inl a) = inl (omega (arith, a, size_next k s x))
      less (inr a) = inr (omega (arith, a))

      inner : s ≡ t → (Spells A (symbol A) (k + get_or A s 0) y → Parted x y n (size (first (k + get_or A s 0) (parse A x))) (size (first (k + get_or A s 0) (parse A y))))
          → Parted x y n (size (first (k + get_or A s 0) (parse A x))) (size (first (k + get_or A t 0) (parse A y)))
      inner e ih =
          let same : k + get_or A t 0 ≡ k + get_or A s 0 = ap (λ (i : ℕ). k + get_or A i 0) (sym e) in
          subst (λ (i : ℕ). Parted x y n (size (first (k + get_or A s 0) (parse A x))) (size (first i (parse A y)))) (sym same)
          (ih (subst (λ (i : ℕ). Spells A (symbol A) i y) same (spells_on k t y r)))

-- WHAT IS TOLD OF A VARIABLE
module _ (A : List ℕ) (told b : ℕ) (l u ms ns : List ℕ) (h : Ahead A l u ms ns 1) (i : ℕ) where
  abbrev j : ℕ
  j = starts l u

  -- how many symbols the tree takes
  abbrev m : ℕ
  m = size (first 1 (parse A u))

  some : 0 < m
  some = first_some A (symbol A) 1 u (omega arith) h.row

  pub ahead_within : length u ≤ length l
  ahead_within = omega (arith, ap length h.end, length-drop (starts l u) l)

  tells_takes : (p n : ℕ) (ms' ns' : List ℕ) → Takes A b l u ms i p n ms' ns' → Meets A told b l u ms i (Past p n) ms' ns'
  tells_takes p n ms' ns' t =
      record {
        past = λ x y e.
            (let numbers : p ≡ x = cc in let symbols : n ≡ y = cc in subst₂ (λ (x y : ℕ). Takes A b l u ms i x y ms' ns') numbers symbols t);
        through = λ e. (let z : ◌≡◌ {A = ℕ} 0 1 = cc in absurd (omega arith));
        miss = λ x y e. (let z : ◌≡◌ {A = ℕ} 0 1 = cc in absurd (omega arith));
      }

  -- a tree that a mark stands for has symbols
  marked_some : (k : ℕ) → k ≤ length l → marked_length A l k ≡ 0 → k ≡ 0
  unfolding behind
  marked_some zero w z = refl
  marked_some (suc a) w z =
      absurd (omega (arith, first_some A (symbol A) 1 (drop a l) (omega arith) (record { ranked = ranked_drop A (symbol A) a l h.ranked; many = behind_some A l a (omega arith) })))

  pub length_within : get_or ns i 0 ≤ length l
  length_within = omega (arith, h.lengths.all i, go (get_or ms i 0))
    where
      go : (k : ℕ) → marked_length A l k ≤ length l
      go zero = omega arith
      go (suc x) = omega (arith, first_within A 1 (drop x l), length-drop x l)

  -- the variable was not met yet
  module _ (new : get_or ns i 0 ≡ 0) where
    unmet : get_or ms i 0 ≡ 0
    unmet = marked_some (get_or ms i 0) (omega (arith, h.marks.all i)) (sym (h.lengths.all i) ∙ new)

    pub meets-through : told ≤ b + 1 → (ms' ns' : List ℕ) → Meets A told b l u ms i Through ms' ns'
    meets-through t ms' ns' =
        record {
          past = λ x y e. (let z : ◌≡◌ {A = ℕ} 0 1 = cc in absurd (omega arith));
          through = λ e. (t, unmet);
          miss = λ x y e. (let z : ◌≡◌ {A = ℕ} 0 1 = cc in absurd (omega arith));
        }

    lengths_set : (n : ℕ) → n ≡ m → i < variables → Lengths A l (set ms i (j + 1)) (set ns i n)
    lengths_set n e small = record { many = length-set ns i n ∙ h.lengths.many; all = λ k. go k (ℕ_discrete k i) }
      where
        here : n ≡ marked_length A l (j + 1)
        here = rw add-one (e ∙ ap (λ (v : List ℕ). size (first 1 (parse A v))) h.end)

        go : (k : ℕ) → Dec (k ≡ i) → get_or (set ns i n) k 0 ≡ marked_length A l (get_or (set ms i (j + 1)) k 0)
        go k (yes d) =
            ap (λ (x : ℕ). get_or (set ns i n) x 0) d
            ∙ get_or-set_same ns i n 0 (omega (arith, h.lengths.many))
            ∙ here
            ∙ ap (marked_length A l) (sym (ap (λ (x : ℕ). get_or (set ms i (j + 1)) x 0) d ∙ get_or-set_same ms i (j + 1) 0 (omega (arith, h.marks.many))))
        go k (no d) = get_or-set_other ns i k n 0 d ∙ h.lengths.all k ∙ ap (marked_length A l) (sym (get_or-set_other ms i k (j + 1) 0 d))

    pub meets-first : (n : ℕ) → n ≡ m → i < variables → Meets A told b l u ms i (Past 1 n) (set ms i (j + 1)) (set ns i n)
    meets-first n e small =
        tells_takes 1 n (set ms i (j + 1)) (set ns i n)
        (record {
          number = refl;
          symbols = e;
          meets =
              first-place l (j + m) b j ms i unmet
              ∙ ap (λ (x : ℕ). reaches (j + x) (set ms i (j + 1))) (sym e);
          lengths = lengths_set n e small;
        })

  -- it was: its tree is compared
  module _ (old : get_or ns i 0 ≡ 0 → ⊥) where
    -- where its first place is
    abbrev a : ℕ
    a = get_or ms i 0 - 1

    pub marked : (0 < get_or ms i 0) × (get_or ns i 0 ≡ size (first 1 (parse A (drop a l))))
    marked = go (get_or ms i 0) (h.lengths.all i)
      where
        go : (k : ℕ) → get_or ns i 0 ≡ marked_length A l k → (0 < k) × (get_or ns i 0 ≡ size (first 1 (parse A (drop (k - 1) l))))
        go zero e = absurd (old e)
        go (suc x) e = let same : x ≡ suc x - 1 = omega arith in (omega arith, e ∙ ap (λ (k : ℕ). size (first 1 (parse A (drop k l)))) same)

    pub place_within : a + get_or ns i 0 ≤ length l
    place_within = omega (arith, marked.0, marked.1, h.marks.all i, first_within A 1 (drop a l), length-drop a l)

    later : get_or ms i 0 ≡ suc a
    later = omega (arith, marked.0)

    module _ (n c : ℕ) (fewer : n ≡ min (get_or ns i 0) (length u)) (counted : c ≡ agreeing l a j n) where
      compared : Parted (drop a l) (drop j l) n (get_or ns i 0) m
      unfolding behind
      compared =
          subst₂ (Parted (drop a l) (drop j l) n) (sym marked.1) (ap (λ (v : List ℕ). size (first 1 (parse A v))) (sym h.end))
          (parted A (drop a l) (drop j l) 1 n
          (record { ranked = ranked_drop A (symbol A) a l h.ranked; many = behind_some A l a (omega (arith, marked.0, h.marks.all i)) })
          (subst (Spells A (symbol A) 1) h.end h.row)
          (omega (arith, fewer, marked.1))
          (long (ℕ_discrete n (get_or ns i 0))))
        where
          long : Dec (n ≡ get_or ns i 0) → (size (first 1 (parse A (drop a l))) ≤ n) ⊎ (length (drop j l) ≤ n)
          long (yes d) = inl (omega (arith, d, marked.1))
          long (no d) = inr (omega (arith, d, fewer, ap length h.end))

      end_is : j + m - j ≡ m
      end_is = omega arith

      pub meets_same : c ≡ get_or ns i 0 → Meets A told b l u ms i (Past 1 (get_or ns i 0)) ms ns
      meets_same e = ⊎_elim same (λ p. absurd (omega (arith, p.0, counted, e))) compared
        where
          same : (m ≡ get_or ns i 0) × (agreeing l a j n ≡ get_or ns i 0) × (agreeing l a j m ≡ m) → Meets A told b l u ms i (Past 1 (get_or ns i 0)) ms ns
          same p =
              tells_takes 1 (get_or ns i 0) ms ns
              (record {
                number = refl;
                symbols = sym p.0;
                meets =
                    later-place l (j + m) b j ms i a later true (eq-eqb _ _ (ap (agreeing l a j) end_is ∙ p.2 ∙ sym end_is))
                    ∙ ap (λ (x : ℕ). reaches (j + x) ms) p.0;
                lengths = h.lengths;
              })

      pub meets_other : (c ≡ get_or ns i 0 → ⊥) → Meets A told b l u ms i (Missed b (j + c)) ms ns
      meets_other e = ⊎_elim (λ p. absurd (e (counted ∙ p.1))) other compared
        where
          other : (agreeing l a j n < get_or ns i 0) × (agreeing l a j n < m) × (agreeing l a j m ≡ agreeing l a j n) → Meets A told b l u ms i (Missed b (j + c)) ms ns
          other p =
              let there : meeting A b l u ms i ≡ misses b (j + c) =
              later-place l (j + m) b j ms i a later false (ne_eqb (agreeing l a j (j + m - j)) (j + m - j) (λ z. omega (arith, z, ap (agreeing l a j) end_is, end_is, p.1, p.2)))
              ∙ ap (λ (x : ℕ). misses b (j + x)) (ap (agreeing l a j) end_is ∙ p.2 ∙ sym counted) in
              record {
                past = λ x y e. (let z : ◌≡◌ {A = ℕ} 0 1 = cc in absurd (omega arith));
                through = λ e. (let z : ◌≡◌ {A = ℕ} 0 1 = cc in absurd (omega arith));
                miss = λ x y e. (let place : b ≡ x = cc in let at : j + c ≡ y = cc in there ∙ ap₂ misses place at);
              }
