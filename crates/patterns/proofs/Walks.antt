-- The walk over the lists is right: it comes through exactly if the pattern fits the forest that stands there. Both ways
-- go by induction on the pattern's forest.
-- Assumes nothing.
use Prim.Native.Nat.{ℕ, zero, suc, ◌+◌, ◌-◌, ◌≤◌, ◌<◌}
use mathlib.Core.Path.{◌≡◌, refl, sym, ap, ap₂, ◌∙◌, subst, subst₂}
use mathlib.Core.Logic.{⊎_elim}
use mathlib.Core.List.{List, ◌++◌, append_assoc}
use mathlib.Core.Bool.{Bool, true, false}
use native.Mathlib.Omega.{arith}
use native.Mathlib.Nat.{add-zero}
use native.Mathlib.Numerals.{add-one}
use borrow.Author.Tests.{eq-eqb, ne_eqb, eqb-true}
use lib.Dec.{eqb, ltb→lt}
use lib.ListN.{get_or, length, set}
use lib.Seq.{get_or-set_same}
use Rattle.rows.specs.Limits.{alphabet_most, first_variable, variables}
use Rattle.rows.specs.Tree.{Forest, Forest.none, Forest.grow, Tree, size, count, prefix, Ranked}
use Rattle.rows.specs.Row.{pick, symbol, allowed}
use Rattle.rows.specs.declared.Leaves.TheVariants.{Blanks}
use Rattle.patterns.specs.Pattern.{leaf}
use Rattle.patterns.specs.Walk.{agreeing, Outcome, Outcome.misses, Outcome.reaches, meets, takes, steps, onward, walk, MarksIn}
use Rattle.patterns.specs.declared.Leaf.{Leaf}
use Rattle.patterns.specs.declared.Leaf.TheVariants.{Plain, Blank, Variable}
use Rattle.patterns.proofs.Leaves.{Kind, kind, plain_symbol, leaf-alone}
use Rattle.patterns.proofs.Standing.{Stands, Planted, stands_symbol, stands_end, stands_children, stands_siblings, stands_first}
use Rattle.patterns.proofs.Fits.{Fits, FitsLeaf}
use Rattle.patterns.proofs.Agreeing.{agreeing_same, agreeing_all}
use Rattle.patterns.proofs.Marks.{set_cases, marks_set, marks_wider, kept}

-- each mark is that of a place where the tree `v i` of its variable stands
pub record Agrees (A w e : List ℕ) (v : ℕ → Tree) (ms : List ℕ) : Type 0 where
  pub all : (i a : ℕ) → get_or ms i 0 ≡ suc a → Planted A w e a (v i)

-- a tree of the pattern, s over cs, before others, f, is laid over a tree of the row, t over ds, before others, g
pub record Over (A w e : List ℕ) (s : ℕ) (cs f : Forest) (t : ℕ) (ds g : Forest) (j : ℕ) : Type 0 where
  pub few : length A ≤ alphabet_most
  pub pattern : Ranked A (allowed Blanks A) (grow s cs f)
  pub row : Ranked A (symbol A) (grow t ds g)
  pub stands : Stands w e j (grow t ds g)

module _ {A w e : List ℕ} {s : ℕ} {cs f : Forest} {t : ℕ} {ds g : Forest} {j : ℕ} (c : Over A w e s cs f t ds g j) where
  -- the tree of the row
  abbrev here : Tree
  here = record { symbol = t; children = ds }

  pub symbol-small : t < first_variable
  unfolding Ranked
  symbol-small = let h : t < length A = ltb→lt t (length A) c.row.0 in omega (arith, c.few)

  pub planted_here : Planted A w e j here
  unfolding Ranked
  planted_here = record { stands = stands_first w e j t ds g c.stands; ranked = (c.row.0, c.row.1, c.row.2, tt) }

  -- a symbol that fits, and S or a variable
  steps_same : (place : ℕ) (ms : List ℕ) → s ≡ t → steps w e place s j ms ≡ reaches (j + 1) ms
  unfolding steps
  steps_same place ms q = rw (eq-eqb (get_or w j 0) s (stands_symbol w e j t ds g c.stands ∙ sym q)) refl

  steps-leaf : (place : ℕ) (ms : List ℕ) → first_variable ≤ s → steps w e place s j ms ≡ takes w (get_or e j 0) place j ms (leaf s)
  unfolding steps
  steps-leaf place ms h = rw (ne_eqb (get_or w j 0) s (λ q. omega (arith, q, stands_symbol w e j t ds g c.stands, symbol-small))) refl

  -- past S or a variable, which has no children, the walk goes on with the next trees
  pub past_leaf : (place : ℕ) (q ms : List ℕ) → first_variable ≤ s
      → walk w e (place + 1) ((prefix cs ++ prefix f) ++ q) (get_or e j 0) ms ≡ walk w e (place + size cs + 1) (prefix f ++ q) (j + size ds + 1) ms
  unfolding prefix size
  past_leaf place q ms h = rw (leaf-alone A (allowed Blanks A) s cs f c.few c.pattern h, stands_end w e j t ds g c.stands, add-zero place) refl

module _ (A w e : List ℕ) (few : length A ≤ alphabet_most) where
  -- COMPLETE: where the pattern fits, the walk comes to its end, with the marks of the variables' trees
  abbrev Complete : Forest → Type 0
  Complete P =
      (v : ℕ → Tree) (G : Forest) (place j : ℕ) (ms q : List ℕ) → Ranked A (allowed Blanks A) P → Ranked A (symbol A) G → Stands w e j G → Agrees A w e v ms → Fits v P G
      → (ms' : List ℕ) × (walk w e place (prefix P ++ q) j ms ≡ walk w e (place + size P) q (j + size G) ms') × Agrees A w e v ms'

  module _ {s : ℕ} {cs f : Forest} {t : ℕ} {ds g : Forest} {j : ℕ} (c : Over A w e s cs f t ds g j) (v : ℕ → Tree) (place : ℕ) (ms q : List ℕ) (a : Agrees A w e v ms) where
    abbrev Comes : Outcome → Type 0
    Comes o = (ms' : List ℕ) × (o ≡ walk w e (place + size (grow s cs f)) q (j + size (grow t ds g)) ms') × Agrees A w e v ms'

    abbrev on : ℕ → List ℕ → Outcome
    on j' ms' = walk w e (place + 1) ((prefix cs ++ prefix f) ++ q) j' ms'

    comes_next : (ms' : List ℕ) → Agrees A w e v ms' → Complete f → Fits v f g → Comes (walk w e (place + size cs + 1) (prefix f ++ q) (j + size ds + 1) ms')
    unfolding Ranked size
    comes_next ms' b ih x =
        let r = ih v g (place + size cs + 1) (j + size ds + 1) ms' q c.pattern.3 c.row.3 (stands_siblings w e j t ds g c.stands) b x in
        (r.0, r.1 ∙ ap₂ (λ (m n : ℕ). walk w e m q n r.0) (omega arith) (omega arith), r.2)

    marks_here : (i : ℕ) → v i ≡ here c → Agrees A w e v (set ms i (j + 1))
    marks_here i y =
        record {
          all = λ k b z.
              ⊎_elim (λ (r : (k ≡ i) × (j + 1 ≡ suc b)). subst₂ (λ (n : ℕ) (u : Tree). Planted A w e n u) (omega arith) (sym y ∙ ap v (sym r.0)) (planted_here c))
              (λ (r : get_or ms k 0 ≡ suc b). a.all k b r) (set_cases ms i (j + 1) k b z);
        }

    comes_meets : (i m : ℕ) → get_or ms i 0 ≡ m → first_variable ≤ s → v i ≡ here c → Complete f → Fits v f g → Comes (onward (meets w (get_or e j 0) place j ms i m) on)
    unfolding meets
    comes_meets i zero n h y ih x =
        rw (past_leaf c place q (set ms i (j + 1)) h) (comes_next (set ms i (j + 1)) (marks_here i y) ih x)
    comes_meets i (suc b) n h y ih x =
        let p : Planted A w e b (here c) = subst (λ (u : Tree). Planted A w e b u) y (a.all i b n) in
        rw (eq-eqb (agreeing w b j (get_or e j 0 - j)) (get_or e j 0 - j) (agreeing_same A w e j (here c) (planted_here c) b p), past_leaf c place q ms h) (comes_next ms a ih x)

    comes_leaf : (l : Leaf) → leaf s ≡ l → Kind s l → Complete cs → Complete f → FitsLeaf v s t ds (Fits v cs ds) l → Fits v f g
        → Comes (onward (steps w e place s j ms) on)
    unfolding takes Ranked
    comes_leaf Plain z k ic ih y x =
        let r = ic v ds (place + 1) (j + 1) ms (prefix f ++ q) c.pattern.2 c.row.2 (stands_children w e j t ds g c.stands) a y.1 in
        let n = comes_next r.0 r.2 ih x in
        rw (steps_same c place ms y.0, append_assoc (prefix cs) (prefix f) q)
        (n.0, r.1 ∙ ap₂ (λ (m n : ℕ). walk w e m (prefix f ++ q) n r.0) (omega arith) (omega arith) ∙ n.1, n.2)
    comes_leaf Blank z k ic ih y x = rw (steps-leaf c place ms k, z, past_leaf c place q ms k) (comes_next ms a ih x)
    comes_leaf (Variable i) z k ic ih y x = rw (steps-leaf c place ms k.0, z) (comes_meets i (get_or ms i 0) refl k.0 y ih x)

  complete_grow : (s : ℕ) (cs f : Forest) → Complete cs → Complete f → Complete (grow s cs f)
  unfolding Fits prefix walk
  complete_grow s cs f ic ih v none place j ms q rP rG h a x = absurd x
  complete_grow s cs f ic ih v (grow t ds g) place j ms q rP rG h a x =
      comes_leaf (record { few = few; pattern = rP; row = rG; stands = h }) v place ms q a (leaf s) refl (kind s) ic ih x.0 x.1

  complete_none : Complete none
  unfolding Fits prefix size
  complete_none v none place j ms q rP rG h a x = (ms, ap₂ (λ (m n : ℕ). walk w e m q n ms) (omega arith) (omega arith), a)
  complete_none v (grow t ds g) place j ms q rP rG h a x = absurd x

  pub complete : (P : Forest) → Complete P
  complete none = complete_none
  complete (grow s cs f) = complete_grow s cs f (complete cs) (complete f)

  -- SOUND: where the walk comes through, the pattern fits for any trees that are those at the marks
  abbrev Sound : Forest → Type 0
  Sound P =
      (G : Forest) (place j : ℕ) (ms q : List ℕ) (jf : ℕ) (mf : List ℕ) → Ranked A (allowed Blanks A) P → Ranked A (symbol A) G → count P ≡ count G → Stands w e j G → MarksIn j ms
      → walk w e place (prefix P ++ q) j ms ≡ reaches jf mf
      → (ms' : List ℕ) × MarksIn (j + size G) ms' × (walk w e (place + size P) q (j + size G) ms' ≡ reaches jf mf) × ((v : ℕ → Tree) → Agrees A w e v mf → Fits v P G)

  module _ {s : ℕ} {cs f : Forest} {t : ℕ} {ds g : Forest} {j : ℕ} (c : Over A w e s cs f t ds g j) (n : count f ≡ count g) (place : ℕ) (ms q : List ℕ) (jf : ℕ) (mf : List ℕ) (m : MarksIn j ms) where
    -- what the walk shows of the first tree, `X v`, and of the others
    abbrev Shows : ((ℕ → Tree) → Type 0) → Type 0
    Shows X =
        (ms' : List ℕ) × MarksIn (j + size (grow t ds g)) ms' × (walk w e (place + size (grow s cs f)) q (j + size (grow t ds g)) ms' ≡ reaches jf mf)
        × ((v : ℕ → Tree) → Agrees A w e v mf → X v × Fits v f g)

    abbrev onto : ℕ → List ℕ → Outcome
    onto j' ms' = walk w e (place + 1) ((prefix cs ++ prefix f) ++ q) j' ms'

    shows_next : (X : (ℕ → Tree) → Type 0) (ms' : List ℕ) → MarksIn (j + size ds + 1) ms' → Sound f
        → walk w e (place + size cs + 1) (prefix f ++ q) (j + size ds + 1) ms' ≡ reaches jf mf → ((v : ℕ → Tree) → Agrees A w e v mf → X v) → Shows X
    unfolding Ranked size
    shows_next X ms' m' ih z x =
        let r = ih g (place + size cs + 1) (j + size ds + 1) ms' q jf mf c.pattern.3 c.row.3 n (stands_siblings w e j t ds g c.stands) m' z in
        let same : j + size ds + 1 + size g ≡ j + (size ds + size g + 1) = omega arith in
        let here : place + size cs + 1 + size f ≡ place + (size cs + size f + 1) = omega arith in
        (r.0, subst (λ (k : ℕ). MarksIn k r.0) same r.1, ap₂ (λ (m k : ℕ). walk w e m q k r.0) (sym here) (sym same) ∙ r.2, λ v a. (x v a, r.3 v a))

    -- a mark of the walk that is left, at a place whose symbols agree with those here
    same_tree : (i b place' : ℕ) (q' : List ℕ) (j' : ℕ) (ms' : List ℕ) → walk w e place' q' j' ms' ≡ reaches jf mf → get_or ms' i 0 ≡ suc b → agreeing w b j (get_or e j 0 - j) ≡ get_or e j 0 - j
        → (v : ℕ → Tree) → Agrees A w e v mf → v i ≡ here c
    same_tree i b place' q' j' ms' z y p v a =
        agreeing_all A w e j (here c) (planted_here c) b (v i) (a.all i b ((kept w e place' q' j' ms' jf mf z).marks i b y)) p

    shows_meets : (i m₀ : ℕ) → get_or ms i 0 ≡ m₀ → i < variables → first_variable ≤ s → Sound f → onward (meets w (get_or e j 0) place j ms i m₀) onto ≡ reaches jf mf
        → Shows (λ v. v i ≡ here c)
    unfolding meets
    shows_meets i zero y b h ih z =
        let z' = sym (past_leaf c place q (set ms i (j + 1)) h) ∙ z in
        shows_next (λ v. v i ≡ here c) (set ms i (j + 1)) (marks_set (j + size ds + 1) j ms i (omega arith) m) ih z'
        (same_tree i j (place + size cs + 1) (prefix f ++ q) (j + size ds + 1) (set ms i (j + 1)) z' (get_or-set_same ms i (j + 1) 0 (omega (arith, m.many)) ∙ add-one j) (agreeing_same A w e j (here c) (planted_here c) j (planted_here c)))
    shows_meets i (suc b) y l h ih z = go (eqb (agreeing w b j (get_or e j 0 - j)) (get_or e j 0 - j)) refl z
      where
        go : (d : Bool) → eqb (agreeing w b j (get_or e j 0 - j)) (get_or e j 0 - j) ≡ d
            → onward (pick d (reaches (get_or e j 0) ms) (misses place (j + agreeing w b j (get_or e j 0 - j)))) onto ≡ reaches jf mf → Shows (λ v. v i ≡ here c)
        go true d z =
            let z' = sym (past_leaf c place q ms h) ∙ z in
            shows_next (λ v. v i ≡ here c) ms (marks_wider j (j + size ds + 1) ms (omega arith) m) ih z'
            (same_tree i b (place + size cs + 1) (prefix f ++ q) (j + size ds + 1) ms z' y (eqb-true (agreeing w b j (get_or e j 0 - j)) (get_or e j 0 - j) d))
        go false d z = let x : ◌≡◌ {A = ℕ} 0 1 = cc in absurd (omega arith)

    shows_takes : (l : Leaf) → Kind s l → Sound f → onward (takes w (get_or e j 0) place j ms l) onto ≡ reaches jf mf → Shows (λ v. FitsLeaf v s t ds (Fits v cs ds) l)
    unfolding takes
    shows_takes Plain k ih z = let x : ◌≡◌ {A = ℕ} 0 1 = cc in absurd (omega arith)
    shows_takes Blank k ih z =
        shows_next (λ v. Unit {0}) ms (marks_wider j (j + size ds + 1) ms (omega arith) m) ih (sym (past_leaf c place q ms k) ∙ z) (λ v a. tt)
    shows_takes (Variable i) k ih z = shows_meets i (get_or ms i 0) refl k.1 k.0 ih z

    shows_steps : (b : Bool) → eqb (get_or w j 0) s ≡ b → Sound cs → Sound f → onward (pick b (reaches (j + 1) ms) (takes w (get_or e j 0) place j ms (leaf s))) onto ≡ reaches jf mf
        → Shows (λ v. FitsLeaf v s t ds (Fits v cs ds) (leaf s))
    unfolding Ranked
    shows_steps true y ic ih z =
        let same : s ≡ t = sym (eqb-true (get_or w j 0) s y) ∙ stands_symbol w e j t ds g c.stands in
        let plain : leaf s ≡ Plain = plain_symbol s (omega (arith, same, symbol-small c)) in
        let r = ic ds (place + 1) (j + 1) ms (prefix f ++ q) jf mf c.pattern.2 c.row.2 (c.pattern.1 ∙ ap (λ (k : ℕ). get_or A k 0) same ∙ sym c.row.1)
        (stands_children w e j t ds g c.stands) (marks_wider j (j + 1) ms (omega arith) m)
        (ap (λ (u : List ℕ). walk w e (place + 1) u (j + 1) ms) (sym (append_assoc (prefix cs) (prefix f) q)) ∙ z) in
        let k : j + 1 + size ds ≡ j + size ds + 1 = omega arith in
        let m : place + 1 + size cs ≡ place + size cs + 1 = omega arith in
        rw plain
        (shows_next (λ v. (s ≡ t) × Fits v cs ds) r.0 (subst (λ (k : ℕ). MarksIn k r.0) k r.1) ih
        (ap₂ (λ (i k : ℕ). walk w e i (prefix f ++ q) k r.0) (sym m) (sym k) ∙ r.2) (λ v a. (same, r.3 v a)))
    shows_steps false y ic ih z = shows_takes (leaf s) (kind s) ih z

  sound_grow : (s : ℕ) (cs f : Forest) → Sound cs → Sound f → Sound (grow s cs f)
  unfolding Fits prefix count walk steps
  sound_grow s cs f ic ih none place j ms q jf mf rP rG n h m z = absurd (omega arith)
  sound_grow s cs f ic ih (grow t ds g) place j ms q jf mf rP rG n h m z =
      shows_steps (record { few = few; pattern = rP; row = rG; stands = h }) (omega arith) place ms q jf mf m (eqb (get_or w j 0) s) refl ic ih z

  sound_none : Sound none
  unfolding Fits prefix size count
  sound_none none place j ms q jf mf rP rG n h m z =
      (ms, marks_wider j (j + 0) ms (omega arith) m, ap₂ (λ (i k : ℕ). walk w e i q k ms) (omega arith) (omega arith) ∙ z, λ v a. tt)
  sound_none (grow t ds g) place j ms q jf mf rP rG n h m z = absurd (omega arith)

  pub sound : (P : Forest) → Sound P
  sound none = sound_none
  sound (grow s cs f) = sound_grow s cs f (sound cs) (sound f)
