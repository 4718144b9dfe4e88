-- Trying trees of the pattern one after the other: what is lent on, and how what each tells adds up.
-- Assumes nothing.
use Prim.Native.Nat.{ℕ, zero, suc, ◌+◌, ◌-◌, ◌≤◌, ◌<◌}
use mathlib.Core.Path.{◌≡◌, refl, sym, ap, ap₂, ◌∙◌, subst, subst₂}
use mathlib.Core.List.{List, [], ◌∷◌}
use mathlib.Core.Bool.{Bool, true, false}
use native.Mathlib.Nat.{add-zero}
use native.Mathlib.Omega.{arith}
use native.Mathlib.Decide.{dec_lt}
use borrow.Author.Tests.{eqb-true}
use lib.Dec.{eqb}
use lib.ListN.{length, get_or, drop, set, length-drop, get_or-eq_default}
use lib.Seq.{get_or-drop, drop-drop}
use Rattle.rows.specs.Limits.{alphabet_most, first_variable, variables}
use Rattle.rows.specs.Tree.{size}
use Rattle.rows.specs.Parse.{first, parse, table, behind}
use Rattle.rows.specs.Row.{pick, symbol, allowed}
use Rattle.rows.specs.declared.Leaves.TheVariants.{Blanks}
use Rattle.rows.proofs.Entry.{entry_first}
use Rattle.patterns.specs.Pattern.{leaf}
use Rattle.patterns.specs.Walk.{same_symbol, agreeing, Outcome, Outcome.misses, Outcome.reaches, meets, steps, onward, walk, MarksIn}
use Rattle.patterns.specs.declared.Leaf.TheVariants.{Plain, Blank, Variable}
use Rattle.patterns.proofs.Leaves.{Kind, kind, plain_symbol}
use Rattle.patterns.proofs.Marks.{marks_wider, marks_set}
use Rattle.patterns.proofs.Steps.{steps_same, steps_plain, steps-blank, steps_variable}
use Rattle.plain.specs.Plain.{starts, Spells, BlankFrom, Lent, meeting, Takes, Meets, Passes, Comes, Tells}
use Rattle.plain.specs.declared.Tried.{Tried}
use Rattle.plain.specs.declared.Tried.TheVariants.{Past, Through, Miss as Missed}
use Rattle.plain.proofs.Spelling.{tail, tail_is, spells_some, spells_inside, spells_behind, first_within, first_some, first_more, first-over}
use Rattle.plain.proofs.Blanks.{blanks_come}

-- what is lent
module _ (A : List ℕ) (told b : ℕ) (q l u ms ns : List ℕ) (k : ℕ) (h : Lent A told b q l u ms ns k) where
  pub lent_within : length u ≤ length l
  lent_within = omega (arith, ap length h.ahead.end, length-drop (starts l u) l)

  -- a shorter end starts further on
  starts_on : (n : ℕ) → n ≤ length u → starts l (drop n u) ≡ starts l u + n
  starts_on n m = omega (arith, length-drop n u, lent_within)

  end_on : (n : ℕ) → n ≤ length u → drop n u ≡ drop (starts l (drop n u)) l
  end_on n m =
      ap (drop n) h.ahead.end ∙ drop-drop n (starts l u) l ∙ ap (λ (i : ℕ). drop i l) (sym (starts_on n m))

  -- the pattern behind its first n numbers
  blanks_on : (n : ℕ) → n ≤ length q → BlankFrom (drop n q) (b + n) told
  blanks_on n m i t w =
      ap leaf (get_or-drop n q i 0) ∙ h.blanks (n + i) (omega arith) (omega (arith, length-drop n q))

  module _ (more : 0 < k) where
    pub pattern_some : 0 < length q
    pattern_some = spells_some A (allowed Blanks A) k q more h.pattern

    pub rest_some : 0 < length u
    rest_some = spells_some A (symbol A) k u more h.ahead.row

    -- the first symbol of the end, and where its tree ends, by the part's places
    place : get_or l (starts l u) 0 ≡ get_or u 0 0
    place =
        sym (ap (λ (v : List ℕ). get_or v 0 0) h.ahead.end
        ∙ get_or-drop (starts l u) l 0 0
        ∙ ap (λ (n : ℕ). get_or l n 0) (add-zero (starts l u)))

    end_of_tree : get_or (table A l) (starts l u) 0 ≡ starts l u + size (first 1 (parse A u))
    unfolding behind
    end_of_tree =
        entry_first A l (starts l u) (omega (arith, rest_some, lent_within))
        ∙ ap (λ (v : List ℕ). starts l u + size (first 1 (parse A v))) (sym h.ahead.end)

-- what is told, by the answer
module _ {A : List ℕ} {b : ℕ} {q l u ms : List ℕ} {k : ℕ} {ms' ns' : List ℕ} where
  pub tells_past : {p n : ℕ} → Passes A b q l u ms k p n ms' ns' → Tells A b q l u ms k (Past p n) ms' ns'
  tells_past {p} {n} h =
      record {
        past = λ i j e.
            (let numbers : p ≡ i = cc in let symbols : n ≡ j = cc in subst₂ (λ (x y : ℕ). Passes A b q l u ms k x y ms' ns') numbers symbols h);
        through = λ e. (let z : ◌≡◌ {A = ℕ} 0 1 = cc in absurd (omega arith));
        miss = λ x y e. (let z : ◌≡◌ {A = ℕ} 0 1 = cc in absurd (omega arith));
      }

  pub tells_through : Comes (walk l (table A l) b q (starts l u) ms) → Tells A b q l u ms k Through ms' ns'
  tells_through h =
      record {
        past = λ i j e. (let z : ◌≡◌ {A = ℕ} 0 1 = cc in absurd (omega arith));
        through = λ e. h;
        miss = λ x y e. (let z : ◌≡◌ {A = ℕ} 0 1 = cc in absurd (omega arith));
      }

  pub tells_miss : {x y : ℕ} → walk l (table A l) b q (starts l u) ms ≡ misses x y → Tells A b q l u ms k (Missed x y) ms' ns'
  tells_miss {x} {y} h =
      record {
        past = λ i j e. (let z : ◌≡◌ {A = ℕ} 0 1 = cc in absurd (omega arith));
        through = λ e. (let z : ◌≡◌ {A = ℕ} 0 1 = cc in absurd (omega arith));
        miss = λ x' y' e. (let place : x ≡ x' = cc in let there : y ≡ y' = cc in h ∙ ap₂ misses place there);
      }

-- what later trees tell is told of all, if they do not fit so far: the walk comes to them
pub tells_on : (A : List ℕ) (b b' : ℕ) (q q' l u u' ms ms₁ : List ℕ) (k k' : ℕ) (r : Tried) (ms' ns' : List ℕ)
    → walk l (table A l) b q (starts l u) ms ≡ walk l (table A l) b' q' (starts l u') ms₁
    → ((p j : ℕ) → r ≡ Past p j → ⊥) → Tells A b' q' l u' ms₁ k' r ms' ns' → Tells A b q l u ms k r ms' ns'
tells_on A b b' q q' l u u' ms ms₁ k k' r ms' ns' w ends t =
    record {
      past = λ i j e. absurd (ends i j e);
      through = λ e. (let c = t.through e in record { to = c.to; marks = c.marks; reaches = w ∙ c.reaches });
      miss = λ x y e. w ∙ t.miss x y e;
    }

-- trees take no more than there is
pub taken : {A : List ℕ} {b : ℕ} {q l u ms : List ℕ} {k p n : ℕ} {ms' ns' : List ℕ} → Passes A b q l u ms k p n ms' ns' → (p ≤ length q) × (n ≤ length u)
taken {A} {b} {q} {l} {u} {ms} {k} c =
    (omega (arith, c.numbers, first_within A k q), omega (arith, c.symbols, first_within A k u))

-- one number of the pattern
walk_on : (w e : List ℕ) (b : ℕ) (q : List ℕ) (j : ℕ) (ms : List ℕ) (o : Outcome) → 0 < length q → steps w e b (get_or q 0 0) j ms ≡ o
    → walk w e b q j ms ≡ onward o (λ j' ms'. walk w e (b + 1) (drop 1 q) j' ms')
unfolding walk
walk_on w e b [] j ms o h z = absurd (omega arith)
walk_on w e b (s ∷ q) j ms o h z = ap (λ (o : Outcome). onward o (λ j' ms'. walk w e (b + 1) q j' ms')) z

first_inside : (A l : List ℕ) → 0 < length l → size (first 1 (parse A l)) ≡ size (first (get_or A (get_or l 0 0) 0) (parse A (drop 1 l))) + 1
first_inside A [] h = absurd (omega arith)
first_inside A (s ∷ l) h = first-over A s l

inside : (A : List ℕ) (ok : ℕ → Bool) (k : ℕ) (l : List ℕ) → 0 < length l → Spells A ok k l → Spells A ok (get_or A (get_or l 0 0) 0) (drop 1 l)
inside A ok k [] h s = absurd (omega arith)
inside A ok k (x ∷ l) h s = spells_inside A ok k x l s

-- a symbol without children, and S and a variable, which have none either
first_alone : (A l : List ℕ) → 0 < length l → get_or A (get_or l 0 0) 0 ≡ 0 → ◌≡◌ {A = ℕ} 1 (size (first 1 (parse A l)))
unfolding first size
first_alone A l some none =
    omega (arith, first_inside A l some, ap (λ (k : ℕ). size (first k (parse A (drop 1 l)))) none)

pub first_leaf : (A l : List ℕ) → length A ≤ alphabet_most → 0 < length l → first_variable ≤ get_or l 0 0 → ◌≡◌ {A = ℕ} 1 (size (first 1 (parse A l)))
first_leaf A l few some h = first_alone A l some (get_or-eq_default A 0 (omega arith))

-- a symbol with children is plain
pub plain_inner : (A : List ℕ) (s : ℕ) → length A ≤ alphabet_most → (get_or A s 0 ≡ 0 → ⊥) → leaf s ≡ Plain
plain_inner A s few some = plain_symbol s (go (dec_lt s first_variable))
  where
    go : Dec (s < first_variable) → s < first_variable
    go (yes d) = d
    go (no d) = absurd (some (get_or-eq_default A 0 (omega arith)))

-- a variable marks its first place, and takes the tree that stands there
met : (w : List ℕ) (end k j : ℕ) (ms : List ℕ) (i m n : ℕ) (ms' : List ℕ) → MarksIn j ms → j < end → meets w end k j ms i m ≡ reaches n ms'
    → MarksIn end ms'
unfolding meets
met w end k j ms i zero n ms' h past z =
    let same : set ms i (j + 1) ≡ ms' = cc in
    subst (MarksIn end) same (marks_set end j ms i past h)
met w end k j ms i (suc a) n ms' h past z = go (eqb (agreeing w a j (end - j)) (end - j)) z
  where
    go : (c : Bool) → pick c (reaches end ms) (misses k (j + agreeing w a j (end - j))) ≡ reaches n ms' → MarksIn end ms'
    go true z = let same : ms ≡ ms' = cc in subst (MarksIn end) same (marks_wider j end ms (omega arith) h)
    go false z = let x : ◌≡◌ {A = ℕ} 0 1 = cc in absurd (omega arith)

pub meets_new : (w : List ℕ) (end k j : ℕ) (ms : List ℕ) (i m : ℕ) → m ≡ 0 → meets w end k j ms i m ≡ reaches end (set ms i (j + 1))
unfolding meets
meets_new w end k j ms i m z = rw z refl

-- the first tree of the pattern at the first tree of the end
module _ (A : List ℕ) (told b : ℕ) (q l u ms ns : List ℕ) (h : Lent A told b q l u ms ns 1) where
  abbrev e : List ℕ
  e = table A l

  abbrev j : ℕ
  j = starts l u

  some_pattern : 0 < length q
  some_pattern = pattern_some A told b q l u ms ns 1 h (omega arith)

  some_rest : 0 < length u
  some_rest = rest_some A told b q l u ms ns 1 h (omega arith)

  step_on : (o : Outcome) → steps l e b (get_or q 0 0) j ms ≡ o → walk l e b q j ms ≡ onward o (λ j' ms'. walk l e (b + 1) (drop 1 q) j' ms')
  step_on o z = walk_on l e b q j ms o some_pattern z

  -- it fits, and only S stand behind it
  pub comes_last : (n : ℕ) (ms' : List ℕ) → told ≤ b + 1 → steps l e b (get_or q 0 0) j ms ≡ reaches n ms' → Comes (walk l e b q j ms)
  comes_last n ms' t z =
      let c = blanks_come l e (b + 1) (drop 1 q) n ms' (λ i w. blanks_on A told b q l u ms ns 1 h 1 (omega (arith, some_pattern)) i (omega arith) w) in
      record { to = c.to; marks = c.marks; reaches = step_on (reaches n ms') z ∙ c.reaches }

  here : get_or l j 0 ≡ get_or u 0 0
  here = place A told b q l u ms ns 1 h (omega arith)

  -- the symbols are the same
  module _ (same : same_symbol (get_or u 0 0) (get_or q 0 0) ≡ true) where
    alike : get_or u 0 0 ≡ get_or q 0 0
    alike = eqb-true (get_or u 0 0) (get_or q 0 0) same

    steps_alike : steps l e b (get_or q 0 0) j ms ≡ reaches (j + 1) ms
    steps_alike = steps_same l e b (get_or q 0 0) j ms (ap (λ (s : ℕ). same_symbol s (get_or q 0 0)) here ∙ same)

    pub comes_alike : told ≤ b + 1 → Comes (walk l e b q j ms)
    comes_alike t = comes_last (j + 1) ms t steps_alike

    -- one without children
    pub passes_alike : get_or A (get_or q 0 0) 0 ≡ 0 → Passes A b q l u ms 1 1 1 ms ns
    passes_alike none =
        record {
          numbers = first_alone A q some_pattern none;
          symbols = first_alone A u some_rest (ap (λ (s : ℕ). get_or A s 0) alike ∙ none);
          marks = marks_wider j (j + 1) ms (omega arith) h.ahead.marks;
          lengths = h.ahead.lengths;
          walks = step_on (reaches (j + 1) ms) steps_alike;
        }

    -- what is left of the pattern is shorter
    pub shorter_inside : length (tail q 1) < length q
    shorter_inside = omega (arith, ap length (tail_is q 1), length-drop 1 q, some_pattern)

    -- the children are tried
    module _ (a : ℕ) (arity : a ≡ get_or A (get_or q 0 0) 0) where
      starts_inside : starts l (tail u 1) ≡ j + 1
      starts_inside = ap (starts l) (tail_is u 1) ∙ starts_on A told b q l u ms ns 1 h 1 (omega (arith, some_rest))

      pub lent_inside : Lent A told (b + 1) (tail q 1) l (tail u 1) ms ns a
      lent_inside =
          record {
            few = h.few;
            placed = omega (arith, h.placed, ap length (tail_is q 1), length-drop 1 q, some_pattern);
            blanks = subst (λ (v : List ℕ). BlankFrom v (b + 1) told) (sym (tail_is q 1)) (blanks_on A told b q l u ms ns 1 h 1 (omega (arith, some_pattern)));
            pattern = subst₂ (Spells A (allowed Blanks A)) (sym arity) (sym (tail_is q 1)) (inside A (allowed Blanks A) 1 q some_pattern h.pattern);
            ahead =
                record {
                  most = h.ahead.most;
                  ranked = h.ahead.ranked;
                  end = subst (λ (v : List ℕ). v ≡ drop (starts l v) l) (sym (tail_is u 1)) (end_on A told b q l u ms ns 1 h 1 (omega (arith, some_rest)));
                  row =
                      subst₂ (Spells A (symbol A)) (ap (λ (s : ℕ). get_or A s 0) alike ∙ sym arity) (sym (tail_is u 1))
                      (inside A (symbol A) 1 u some_rest h.ahead.row);
                  marks = subst (λ (n : ℕ). MarksIn n ms) (sym starts_inside) (marks_wider j (j + 1) ms (omega arith) h.ahead.marks);
                  lengths = h.ahead.lengths;
                };
          }

      pub walk_inside : walk l e b q j ms ≡ walk l e (b + 1) (tail q 1) (starts l (tail u 1)) ms
      walk_inside =
          step_on (reaches (j + 1) ms) steps_alike
          ∙ ap₂ (λ (v : List ℕ) (n : ℕ). walk l e (b + 1) v n ms) (sym (tail_is q 1)) (sym starts_inside)

      pub passes_inside : (p n : ℕ) (ms' ns' : List ℕ) → Passes A (b + 1) (tail q 1) l (tail u 1) ms a p n ms' ns' → Passes A b q l u ms 1 (p + 1) (n + 1) ms' ns'
      passes_inside p n ms' ns' c =
          let far : starts l (tail u 1) + n ≡ j + (n + 1) = omega (arith, starts_inside) in
          let up : 1 + p ≡ p + 1 = omega arith in
          let on : b + 1 + p ≡ b + (p + 1) = omega arith in
          let inner : ℕ → List ℕ → ℕ = λ k v. size (first k (parse A v)) + 1 in
          let numbers : size (first 1 (parse A q)) ≡ size (first a (parse A (tail q 1))) + 1 =
          first_inside A q some_pattern ∙ ap₂ inner (sym arity) (sym (tail_is q 1)) in
          let symbols : size (first 1 (parse A u)) ≡ size (first a (parse A (tail u 1))) + 1 =
          first_inside A u some_rest ∙ ap₂ inner (ap (λ (s : ℕ). get_or A s 0) alike ∙ sym arity) (sym (tail_is u 1)) in
          record {
            numbers = omega (arith, c.numbers);
            symbols = omega (arith, c.symbols);
            marks = subst (λ (i : ℕ). MarksIn i ms') far c.marks;
            lengths = c.lengths;
            walks =
                walk_inside
                ∙ c.walks
                ∙ ap₂ (λ (v : List ℕ) (i : ℕ). walk l e (b + 1 + p) v i ms') (ap (drop p) (tail_is q 1) ∙ drop-drop p 1 q ∙ ap (λ (i : ℕ). drop i q) up) far
                ∙ ap (λ (i : ℕ). walk l e i (drop (p + 1) q) (j + (n + 1)) ms') on;
          }

  -- they differ: S and a variable take the whole tree
  module _ (other : same_symbol (get_or u 0 0) (get_or q 0 0) ≡ false) where
    differs : same_symbol (get_or l j 0) (get_or q 0 0) ≡ false
    differs = ap (λ (s : ℕ). same_symbol s (get_or q 0 0)) here ∙ other

    pub misses_plain : leaf (get_or q 0 0) ≡ Plain → walk l e b q j ms ≡ misses b j
    misses_plain k = step_on (misses b j) (steps_plain l e b (get_or q 0 0) j ms differs k)

    -- how many symbols the tree takes, and where it ends
    abbrev m : ℕ
    m = size (first 1 (parse A u))

    end_is : get_or e j 0 ≡ j + m
    end_is = end_of_tree A told b q l u ms ns 1 h (omega arith)

    module _ (blank : leaf (get_or q 0 0) ≡ Blank) where
      steps_S : steps l e b (get_or q 0 0) j ms ≡ reaches (j + m) ms
      steps_S = steps-blank l e b (get_or q 0 0) j ms differs blank ∙ ap (λ (i : ℕ). reaches i ms) end_is

      pub comes_blank : told ≤ b + 1 → Comes (walk l e b q j ms)
      comes_blank t = comes_last (j + m) ms t steps_S

      pub passes_blank : (n : ℕ) → n ≡ m → Passes A b q l u ms 1 1 n ms ns
      passes_blank n long =
          record {
            numbers = first_leaf A q h.few some_pattern (subst (Kind (get_or q 0 0)) blank (kind (get_or q 0 0)));
            symbols = long;
            marks = marks_wider j (j + n) ms (omega arith) h.ahead.marks;
            lengths = h.ahead.lengths;
            walks = step_on (reaches (j + n) ms) (steps_S ∙ ap (λ (i : ℕ). reaches (j + i) ms) (sym long));
          }

    module _ (i : ℕ) (k : leaf (get_or q 0 0) ≡ Variable i) where
      small : (first_variable ≤ get_or q 0 0) × (i < variables)
      small = subst (Kind (get_or q 0 0)) k (kind (get_or q 0 0))

      pub variable_small : i < variables
      variable_small = small.1

      steps-met : steps l e b (get_or q 0 0) j ms ≡ meeting A b l u ms i
      steps-met = steps_variable l e b (get_or q 0 0) j ms differs i k ∙ ap (λ (x : ℕ). meets l x b j ms i (get_or ms i 0)) end_is

      -- what its place tells
      pub tells_met : (r : Tried) (ms' ns' : List ℕ) → Meets A told b l u ms i r ms' ns' → Tells A b q l u ms 1 r ms' ns'
      tells_met r ms' ns' t =
          record {
            past = λ p n y. passes p n (t.past p n y);
            through = λ y.
                comes_last (j + m) (set ms i (j + 1)) (t.through y).0 (steps-met ∙ meets_new l (j + m) b j ms i (get_or ms i 0) (t.through y).1);
            miss = λ x n y. step_on (misses x n) (steps-met ∙ t.miss x n y);
          }
        where
          passes : (p n : ℕ) → Takes A b l u ms i p n ms' ns' → Passes A b q l u ms 1 p n ms' ns'
          passes p n c =
              let one : p ≡ 1 = c.number in
              let far : j + m ≡ j + n = ap (λ (x : ℕ). j + x) (sym c.symbols) in
              record {
                numbers = one ∙ first_leaf A q h.few some_pattern small.0;
                symbols = c.symbols;
                marks =
                    subst (λ (x : ℕ). MarksIn x ms') far
                    (met l (j + m) b j ms i (get_or ms i 0) (j + n) ms' h.ahead.marks (omega (arith, first_some A (symbol A) 1 u (omega arith) h.ahead.row)) c.meets);
                lengths = c.lengths;
                walks =
                    step_on (reaches (j + n) ms') (steps-met ∙ c.meets)
                    ∙ ap (λ (x : ℕ). walk l e (b + x) (drop x q) (j + n) ms') (sym one);
              }

-- no tree is tried yet
pub passes_none : (A : List ℕ) (told b : ℕ) (q l u ms ns : List ℕ) (k : ℕ) → Lent A told b q l u ms ns k → Passes A b q l u ms 0 0 0 ms ns
unfolding first size
passes_none A told b q l u ms ns k h =
    record {
      numbers = refl;
      symbols = refl;
      marks = subst (λ (i : ℕ). MarksIn i ms) (sym (add-zero (starts l u))) h.ahead.marks;
      lengths = h.ahead.lengths;
      walks = ap₂ (λ (m i : ℕ). walk l (table A l) m q i ms) (sym (add-zero b)) (sym (add-zero (starts l u)));
    }

-- i trees fit so far, and one more is tried
module _ (A : List ℕ) (told b : ℕ) (q l u ms ns : List ℕ) (k : ℕ) (h : Lent A told b q l u ms ns k) (i p n : ℕ) (ms' ns' : List ℕ) (less : i < k) (c : Passes A b q l u ms i p n ms' ns') where
  starts_next : starts l (tail u n) ≡ starts l u + n
  starts_next = ap (starts l) (tail_is u n) ∙ starts_on A told b q l u ms ns k h n (taken c).1

  one : (ok : ℕ → Bool) (v : List ℕ) → Spells A ok (k - i) v → Spells A ok 1 v
  one ok v s = record { ranked = s.ranked; many = omega (arith, s.many) }

  -- a number of the pattern is left
  pub left_some : p < length q
  left_some =
      omega (arith, length-drop p q, spells_some A (allowed Blanks A) (k - i) (drop p q) (omega arith) (spells_behind A (allowed Blanks A) k i p q (omega arith) h.pattern c.numbers))

  -- the first
  pub next_number : get_or q p 0 ≡ get_or (tail q p) 0 0
  next_number =
      sym (ap (λ (v : List ℕ). get_or v 0 0) (tail_is q p) ∙ get_or-drop p q 0 0 ∙ ap (λ (x : ℕ). get_or q x 0) (add-zero p))

  pub lent_next : Lent A told (b + p) (tail q p) l (tail u n) ms' ns' 1
  lent_next =
      record {
        few = h.few;
        placed = omega (arith, h.placed, ap length (tail_is q p), length-drop p q, (taken c).0);
        blanks = subst (λ (v : List ℕ). BlankFrom v (b + p) told) (sym (tail_is q p)) (blanks_on A told b q l u ms ns k h p (taken c).0);
        pattern =
            subst (Spells A (allowed Blanks A) 1) (sym (tail_is q p))
            (one (allowed Blanks A) (drop p q) (spells_behind A (allowed Blanks A) k i p q (omega arith) h.pattern c.numbers));
        ahead =
            record {
              most = h.ahead.most;
              ranked = h.ahead.ranked;
              end = subst (λ (v : List ℕ). v ≡ drop (starts l v) l) (sym (tail_is u n)) (end_on A told b q l u ms ns k h n (taken c).1);
              row =
                  subst (Spells A (symbol A) 1) (sym (tail_is u n))
                  (one (symbol A) (drop n u) (spells_behind A (symbol A) k i n u (omega arith) h.ahead.row c.symbols));
              marks = subst (λ (j : ℕ). MarksIn j ms') (sym starts_next) c.marks;
              lengths = c.lengths;
            };
      }

  pub walk_next : walk l (table A l) b q (starts l u) ms ≡ walk l (table A l) (b + p) (tail q p) (starts l (tail u n)) ms'
  walk_next = c.walks ∙ ap₂ (λ (v : List ℕ) (j : ℕ). walk l (table A l) (b + p) v j ms') (sym (tail_is q p)) (sym starts_next)

  pub passes_next : (p' n' : ℕ) (ms'' ns'' : List ℕ) → Passes A (b + p) (tail q p) l (tail u n) ms' 1 p' n' ms'' ns'' → Passes A b q l u ms (i + 1) (p + p') (n + n') ms'' ns''
  passes_next p' n' ms'' ns'' d =
      let far : starts l (tail u n) + n' ≡ starts l u + (n + n') = omega (arith, starts_next) in
      let on : b + p + p' ≡ b + (p + p') = omega arith in
      record {
        numbers =
            first_more A (allowed Blanks A) k i p q (omega arith) h.pattern c.numbers p'
            (d.numbers ∙ ap (λ (v : List ℕ). size (first 1 (parse A v))) (tail_is q p));
        symbols =
            first_more A (symbol A) k i n u (omega arith) h.ahead.row c.symbols n'
            (d.symbols ∙ ap (λ (v : List ℕ). size (first 1 (parse A v))) (tail_is u n));
        marks = subst (λ (j : ℕ). MarksIn j ms'') far d.marks;
        lengths = d.lengths;
        walks =
            walk_next
            ∙ d.walks
            ∙ ap₂ (λ (v : List ℕ) (j : ℕ). walk l (table A l) (b + p + p') v j ms'') (ap (drop p') (tail_is q p) ∙ drop-drop p' p q) far
            ∙ ap (λ (m : ℕ). walk l (table A l) m (drop (p + p') q) (starts l u + (n + n')) ms'') on;
      }
