-- After a walk that comes through, each mark is that of the position which the variable's first place faces.
-- Assumes nothing.
use Prim.Native.Nat.{ℕ, zero, suc, ◌+◌, ◌-◌, ◌≤◌, ◌<◌}
use mathlib.Core.Path.{◌≡◌, refl, sym, ap, ◌∙◌}
use mathlib.Core.List.{List, [], ◌∷◌, ◌++◌, append_assoc, append-nil}
use mathlib.Core.Bool.{Bool, true, false}
use native.Mathlib.Omega.{arith}
use native.Mathlib.Numerals.{add-one}
use native.Mathlib.Decide.{dec_lt, ℕ_discrete}
use borrow.Author.Tests.{eq-eqb, eqb-true, eqb-false}
use lib.Dec.{eqb, ltb→lt}
use lib.ListN.{get_or, length, set, length-append, get_or-append, get_or-eq_default}
use lib.Seq.{get_or-set_same, get_or-set_other, get_or-append-add}
use Rattle.rows.specs.Limits.{alphabet_most, first_variable, variables}
use Rattle.rows.specs.Programme.{Alphabet, Programme}
use Rattle.rows.specs.Tree.{Forest, Forest.none, Forest.grow, Tree, single, size, prefix, Ranked, subtree_at}
use Rattle.rows.specs.Parse.{parse, tree_of}
use Rattle.rows.specs.Row.{pick, allowed}
use Rattle.rows.specs.declared.Leaves.TheVariants.{Blanks, Symbols}
use Rattle.rows.proofs.Accept.{enough}
use Rattle.patterns.specs.Pattern.{leaf}
use Rattle.patterns.specs.Answers.{faced, facing, isLeaf, span, spansBelow, Has}
use Rattle.patterns.specs.Searchable.{Checked}
use Rattle.patterns.specs.Walk.{same_symbol, agreeing, Outcome, Outcome.misses, Outcome.reaches, meets, takes, steps, onward, walk, unmarked, mark_begin, mark_end}
use Rattle.patterns.specs.declared.Leaf.{Leaf}
use Rattle.patterns.specs.declared.Leaf.TheVariants.{Plain, Blank, Variable}
use Rattle.patterns.proofs.Leaves.{Kind, kind, plain_symbol, leaf-alone}
use Rattle.patterns.proofs.Standing.{Stands, planted_at, stands_end, stands_children, stands_siblings}
use Rattle.patterns.proofs.Fits.{Fits, FitsLeaf}
use Rattle.patterns.proofs.Marks.{picks, unmarked_zero, Keeps, keeps-steps, kept}
use Rattle.patterns.proofs.Matching.{checked_pattern, walk_fits}

-- the row positions at which a walk meets the numbers of the pattern
abbrev past : List ℕ → ℕ → Leaf → ℕ
past e j Plain = j + 1
past e j Blank = get_or e j 0
past e j (Variable i) = get_or e j 0

unfoldable trace : List ℕ → List ℕ → ℕ → List ℕ
trace e [] j = []
trace e (s ∷ q) j = j ∷ trace e q (past e j (leaf s))

length_trace : (e q : List ℕ) (j : ℕ) → length (trace e q j) ≡ length q
unfolding trace
length_trace e [] j = refl
length_trace e (s ∷ q) j = ap suc (length_trace e q (past e j (leaf s)))

-- the mark of the first place of variable i, where the numbers of the pattern face the positions ps
unfoldable pub seat : ℕ → List ℕ → List ℕ → ℕ
seat i [] ps = 0
seat i (s ∷ q) [] = 0
seat i (s ∷ q) (p ∷ ps) = pick (isLeaf i (leaf s)) (suc p) (seat i q ps)

pub span_seat : (t : List ℕ) (i : ℕ) (q ps : List ℕ) → span t i q ps ≡ mark_begin (seat i q ps) ∷ mark_end t (seat i q ps) ∷ []
unfolding span seat
span_seat t i [] ps = refl
span_seat t i (s ∷ q) [] = refl
span_seat t i (s ∷ q) (p ∷ ps) = go (isLeaf i (leaf s)) (span_seat t i q ps)
  where
    go : (b : Bool) → span t i q ps ≡ mark_begin (seat i q ps) ∷ mark_end t (seat i q ps) ∷ []
        → pick b (p ∷ get_or t p 0 ∷ []) (span t i q ps) ≡ mark_begin (pick b (suc p) (seat i q ps)) ∷ mark_end t (pick b (suc p) (seat i q ps)) ∷ []
    go true h = refl
    go false h = h

-- a variable that stands in the pattern has a first place
pub seat_some : (i : ℕ) (q ps : List ℕ) (k : ℕ) → Has q i k → length q ≤ length ps → (a : ℕ) × (seat i q ps ≡ suc a)
unfolding seat
seat_some i [] ps k (h, z) n = absurd (omega arith)
seat_some i (s ∷ q) [] k (h, z) n = absurd (omega arith)
seat_some i (s ∷ q) (p ∷ ps) zero (h, z) n = (p, rw (z, eq-eqb i i refl) refl)
seat_some i (s ∷ q) (p ∷ ps) (suc k) (h, z) n = go (isLeaf i (leaf s)) (seat_some i q ps k (omega arith, z) (omega arith))
  where
    go : (b : Bool) → (a : ℕ) × (seat i q ps ≡ suc a) → (a : ℕ) × (pick b (suc p) (seat i q ps) ≡ suc a)
    go true r = (p, refl)
    go false r = r

is_variable_lem : (i : ℕ) (l : Leaf) → isLeaf i l ≡ true → l ≡ Variable i
is_variable_lem i Plain z = let x : ◌≡◌ {A = ℕ} 0 1 = cc in absurd (omega arith)
is_variable_lem i Blank z = let x : ◌≡◌ {A = ℕ} 0 1 = cc in absurd (omega arith)
is_variable_lem i (Variable k) z = ap Variable (eqb-true k i z)

pub seat_first : (i : ℕ) (q ps : List ℕ) (k : ℕ) → Has q i k → length q ≤ length ps → ((m : ℕ) → m < k → Has q i m → ⊥)
    → seat i q ps ≡ suc (get_or ps k 0)
unfolding seat
seat_first i [] ps k (h, z) n f = absurd (omega arith)
seat_first i (s ∷ q) [] k (h, z) n f = absurd (omega arith)
seat_first i (s ∷ q) (p ∷ ps) zero (h, z) n f = rw (z, eq-eqb i i refl) refl
seat_first i (s ∷ q) (p ∷ ps) (suc k) (h, z) n f =
    go (isLeaf i (leaf s)) refl (seat_first i q ps k (omega arith, z) (omega arith) (λ m l x. f (suc m) (omega arith) (omega (arith, x.0), x.1)))
  where
    go : (b : Bool) → isLeaf i (leaf s) ≡ b → seat i q ps ≡ suc (get_or ps k 0) → pick b (suc p) (seat i q ps) ≡ suc (get_or ps k 0)
    go true y r = absurd (f 0 (omega arith) (omega arith, is_variable_lem i (leaf s) y))
    go false y r = r

-- one that does not has none
pub seat_none : (i : ℕ) (q ps : List ℕ) → ((k : ℕ) → Has q i k → ⊥) → seat i q ps ≡ 0
unfolding seat
seat_none i [] ps f = refl
seat_none i (s ∷ q) [] f = refl
seat_none i (s ∷ q) (p ∷ ps) f = go (isLeaf i (leaf s)) refl (seat_none i q ps (λ k h. f (suc k) (omega (arith, h.0), h.1)))
  where
    go : (b : Bool) → isLeaf i (leaf s) ≡ b → seat i q ps ≡ 0 → pick b (suc p) (seat i q ps) ≡ 0
    go true z h = absurd (f 0 (omega arith, is_variable_lem i (leaf s) z))
    go false z h = h

-- the spans, variable by variable
length_span : (t : List ℕ) (i : ℕ) (q ps : List ℕ) → length (span t i q ps) ≡ 2
length_span t i q ps = ap length (span_seat t i q ps)

pub length_spans : (t : List ℕ) (n : ℕ) (q ps : List ℕ) → length (spansBelow t n q ps) ≡ n + n
unfolding spansBelow
length_spans t zero q ps = refl
length_spans t (suc n) q ps = length-append (spansBelow t n q ps) (span t n q ps) ∙ omega (arith, length_spans t n q ps, length_span t n q ps)

-- number k of the span of variable i
pub spans_at : (t : List ℕ) (i n : ℕ) (q ps : List ℕ) (k : ℕ) → i < n → k < 2 → get_or (spansBelow t n q ps) (i + i + k) 0 ≡ get_or (span t i q ps) k 0
unfolding spansBelow
spans_at t i zero q ps k h l = absurd (omega arith)
spans_at t i (suc n) q ps k h l = go (ℕ_discrete i n) (spans_at t i n q ps k)
  where
    go : Dec (i ≡ n) → (i < n → k < 2 → get_or (spansBelow t n q ps) (i + i + k) 0 ≡ get_or (span t i q ps) k 0)
        → get_or (spansBelow t n q ps ++ span t n q ps) (i + i + k) 0 ≡ get_or (span t i q ps) k 0
    go (yes e) ih =
        let m : i + i + k ≡ length (spansBelow t n q ps) + k = omega (arith, length_spans t n q ps) in
        rw (m, get_or-append-add (spansBelow t n q ps) (span t n q ps) k 0) (ap (λ (x : ℕ). get_or (span t x q ps) k 0) (sym e))
    go (no e) ih =
        get_or-append (spansBelow t n q ps) (span t n q ps) 0 (i + i + k) (omega (arith, length_spans t n q ps)) ∙ ih (omega arith) l

-- what a walk does to the mark of variable i, over a row of symbols
module _ (w e : List ℕ) (small : (j : ℕ) → get_or w j 0 < first_variable) (i : ℕ) (few : i < variables) where
  -- what a number of the pattern, of kind l, does to it at row position j
  record Touched (l : Leaf) (j : ℕ) (ms : List ℕ) (j' : ℕ) (ms' : List ℕ) : Type 0 where
    goes : j' ≡ past e j l
    first : isLeaf i l ≡ true → get_or ms i 0 ≡ 0 → get_or ms' i 0 ≡ suc j
    other : isLeaf i l ≡ false → get_or ms' i 0 ≡ get_or ms i 0

  abbrev Touches : Leaf → ℕ → List ℕ → Outcome → Type 0
  Touches l j ms (misses x y) = Unit {0}
  Touches l j ms (reaches j' ms') = Touched l j ms j' ms'

  touches_meets : (place j : ℕ) (ms : List ℕ) (k m : ℕ) → length ms ≡ variables → get_or ms k 0 ≡ m → Touches (Variable k) j ms (meets w (get_or e j 0) place j ms k m)
  unfolding meets
  touches_meets place j ms k zero n z =
      record {
        goes = refl;
        first = λ y x. (let d : k ≡ i = eqb-true k i y in ap (λ (k : ℕ). get_or (set ms k (j + 1)) i 0) d ∙ get_or-set_same ms i (j + 1) 0 (omega arith) ∙ add-one j);
        other = λ y. get_or-set_other ms k i (j + 1) 0 (λ d. eqb-false k i y (sym d));
      }
  touches_meets place j ms k (suc a) n z =
      picks (Touches (Variable k) j ms) (eqb (agreeing w a j (get_or e j 0 - j)) (get_or e j 0 - j)) (reaches (get_or e j 0) ms) (misses place (j + agreeing w a j (get_or e j 0 - j)))
      (record {
        goes = refl;
        first = λ y x. absurd (omega (arith, z, x, ap (λ (n : ℕ). get_or ms n 0) (eqb-true k i y)));
        other = λ y. refl;
      }) tt

  touches_takes : (place j : ℕ) (ms : List ℕ) (l : Leaf) → length ms ≡ variables → Touches l j ms (takes w (get_or e j 0) place j ms l)
  unfolding takes
  touches_takes place j ms Plain n = tt
  touches_takes place j ms Blank n = record { goes = refl; first = λ y. (let x : ◌≡◌ {A = ℕ} 0 1 = cc in absurd (omega arith)); other = λ y. refl }
  touches_takes place j ms (Variable k) n = touches_meets place j ms k (get_or ms k 0) n refl

  touches_steps : (place s j : ℕ) (ms : List ℕ) → length ms ≡ variables → Touches (leaf s) j ms (steps w e place s j ms)
  unfolding steps
  touches_steps place s j ms n = go (same_symbol (get_or w j 0) s) refl
    where
      plain : (l : Leaf) → l ≡ Plain → Touched l j ms (j + 1) ms
      plain l z = rw z (record { goes = refl; first = λ y. (let x : ◌≡◌ {A = ℕ} 0 1 = cc in absurd (omega arith)); other = λ y. refl })

      go : (b : Bool) → same_symbol (get_or w j 0) s ≡ b → Touches (leaf s) j ms (pick b (reaches (j + 1) ms) (takes w (get_or e j 0) place j ms (leaf s)))
      go true z = plain (leaf s) (plain_symbol s (omega (arith, eqb-true (get_or w j 0) s z, small j)))
      go false z = touches_takes place j ms (leaf s) n

  -- a whole walk gives it the mark of its first place, if it had none
  abbrev Seats : List ℕ → Type 0
  Seats q = (place j : ℕ) (ms : List ℕ) (j' : ℕ) (ms' : List ℕ) → length ms ≡ variables → walk w e place q j ms ≡ reaches j' ms' → get_or ms i 0 ≡ 0 → get_or ms' i 0 ≡ seat i q (trace e q j)

  seats_on : (place s : ℕ) (q : List ℕ) (j : ℕ) (ms : List ℕ) (j₁ : ℕ) (ms₁ : List ℕ) (j' : ℕ) (ms' : List ℕ) (b : Bool) → isLeaf i (leaf s) ≡ b
      → Touched (leaf s) j ms j₁ ms₁ → length ms₁ ≡ variables → walk w e place q j₁ ms₁ ≡ reaches j' ms' → get_or ms i 0 ≡ 0 → Seats q
      → get_or ms' i 0 ≡ pick b (suc j) (seat i q (trace e q (past e j (leaf s))))
  seats_on place s q j ms j₁ ms₁ j' ms' true z t n y o ih = (kept w e place q j₁ ms₁ j' ms' y).marks i j (t.first z o)
  seats_on place s q j ms j₁ ms₁ j' ms' false z t n y o ih = ih place j₁ ms₁ j' ms' n y (t.other z ∙ o) ∙ ap (λ (k : ℕ). seat i q (trace e q k)) t.goes

  seats : (q : List ℕ) → Seats q
  unfolding walk seat trace
  seats [] place j ms j' ms' n z o = let same : ms ≡ ms' = cc in ap (λ (u : List ℕ). get_or u i 0) (sym same) ∙ o
  seats (s ∷ q) place j ms j' ms' n z o = go (steps w e place s j ms) (touches_steps place s j ms n) (keeps-steps w e place s j ms) z (seats q)
    where
      go : (x : Outcome) → Touches (leaf s) j ms x → Keeps ms x → onward x (λ j₁ ms₁. walk w e (place + 1) q j₁ ms₁) ≡ reaches j' ms' → Seats q
          → get_or ms' i 0 ≡ pick (isLeaf i (leaf s)) (suc j) (seat i q (trace e q (past e j (leaf s))))
      go (misses x x') t k y ih = let x : ◌≡◌ {A = ℕ} 0 1 = cc in absurd (omega arith)
      go (reaches j₁ ms₁) t k y ih = seats_on (place + 1) s q j ms j₁ ms₁ j' ms' (isLeaf i (leaf s)) refl t (k.many ∙ n) y o ih

-- the walk meets the numbers of the pattern where they face the row
module _ (A w e : List ℕ) (few : length A ≤ alphabet_most) (v : ℕ → Tree) where
  abbrev Traced : Forest → Type 0
  Traced P =
      (G : Forest) (j : ℕ) (q : List ℕ) → Ranked A (allowed Blanks A) P → Stands w e j G → Fits v P G → trace e (prefix P ++ q) j ≡ faced j P G ++ trace e q (j + size G)

  module _ (s : ℕ) (cs f : Forest) (t : ℕ) (ds g : Forest) (j : ℕ) (q : List ℕ) (r : Ranked A (allowed Blanks A) (grow s cs f)) (h : Stands w e j (grow t ds g)) where
    abbrev Faces : ℕ → Type 0
    Faces n = trace e ((prefix cs ++ prefix f) ++ q) n ≡ (faced (j + 1) cs ds ++ faced (j + size ds + 1) f g) ++ trace e q (j + size (grow t ds g))

    next : Traced f → Fits v f g → trace e (prefix f ++ q) (j + size ds + 1) ≡ faced (j + size ds + 1) f g ++ trace e q (j + size (grow t ds g))
    unfolding Ranked size
    next ih x =
        ih g (j + size ds + 1) q r.3 (stands_siblings w e j t ds g h) x
        ∙ ap (λ (n : ℕ). faced (j + size ds + 1) f g ++ trace e q n) (omega arith)

    alone : first_variable ≤ s → Traced f → Fits v f g → Faces (get_or e j 0)
    unfolding prefix faced
    alone l ih x = rw (leaf-alone A (allowed Blanks A) s cs f few r l, stands_end w e j t ds g h) (next ih x)

    faces : (l : Leaf) → Kind s l → Traced cs → Traced f → FitsLeaf v s t ds (Fits v cs ds) l → Fits v f g → Faces (past e j l)
    unfolding Ranked
    faces Plain k ic ih y x =
        let place : j + 1 + size ds ≡ j + size ds + 1 = omega arith in
        ap (λ (u : List ℕ). trace e u (j + 1)) (append_assoc (prefix cs) (prefix f) q)
        ∙ ic ds (j + 1) (prefix f ++ q) r.2 (stands_children w e j t ds g h) y.1
        ∙ ap (λ (n : ℕ). faced (j + 1) cs ds ++ trace e (prefix f ++ q) n) place
        ∙ ap (λ (u : List ℕ). faced (j + 1) cs ds ++ u) (next ih x)
        ∙ sym (append_assoc (faced (j + 1) cs ds) (faced (j + size ds + 1) f g) (trace e q (j + size (grow t ds g))))
    faces Blank k ic ih y x = alone k ih x
    faces (Variable i) k ic ih y x = alone k.0 ih x

  traced : (P : Forest) → Traced P
  unfolding Fits prefix faced size trace
  traced none none j q r h x = ap (trace e q) (omega arith)
  traced none (grow t ds g) j q r h x = absurd x
  traced (grow s cs f) none j q r h x = absurd x
  traced (grow s cs f) (grow t ds g) j q r h x =
      ap (λ (u : List ℕ). j ∷ u) (faces s cs f t ds g j q r h (leaf s) (kind s) (traced cs) (traced f) x.0 x.1)

module _ (a : Alphabet) (P : Programme) (q : List ℕ) (c : Checked a P q) (p : ℕ) (inside : p < length P.row) where
  pub small : (j : ℕ) → get_or P.row j 0 < first_variable
  small j = go (dec_lt j (length P.row))
    where
      go : Dec (j < length P.row) → get_or P.row j 0 < first_variable
      go (yes h) = omega (arith, ltb→lt (get_or P.row j 0) (length a.arities) (enough a.arities (allowed Symbols a.arities) P.row 1 0 c.row.accepted j h).0, c.few)
      go (no h) = rw (get_or-eq_default P.row 0 {n = j} (omega arith)) (omega arith)

  module _ (j : ℕ) (ms : List ℕ) (z : walk P.row P.table 0 q p unmarked ≡ reaches j ms) where
    met : trace P.table q p ≡ facing a.arities P.row q p
    unfolding trace
    met =
        let Q = checked_pattern a P q c in
        ap (λ (u : List ℕ). trace P.table u p) (sym (append-nil (prefix (single (tree_of a.arities q))) ∙ Q.reads))
        ∙ traced a.arities P.row P.table c.few _ (single (tree_of a.arities q)) (single (subtree_at (parse a.arities P.row) p)) p [] Q.ranked (planted_at a.arities P.row P.table c.row p inside).stands (walk_fits a P q c p inside j ms z)
        ∙ append-nil (facing a.arities P.row q p)

    pub length_facing : length (facing a.arities P.row q p) ≡ length q
    length_facing = ap length (sym met) ∙ length_trace P.table q p

    -- each mark is that of the position which the variable's first place faces
    pub mark_is : (i : ℕ) → i < variables → get_or ms i 0 ≡ seat i q (facing a.arities P.row q p)
    mark_is i h = seats P.row P.table small i h q 0 p unmarked j ms refl z (unmarked_zero i) ∙ ap (seat i q) met
